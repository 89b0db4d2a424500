use Rattle.std.proofs.Common.{refl, sym, ◌∙◌}
use Rattle.timeline_core.proofs.Lookups.{has_timeline-stored, context_of-stored}
use Rattle.timeline_core.proofs.Storing.{names-seen}
use Rattle.timeline_core.proofs.timelines.Timelines.context.Goals as goal

pub returns-in_err-index-clause-found : goal.returns-in_err-index-clause-found
returns-in_err-index-clause-found c =
    let absent = c.in_err-index.ensures.found ∙ has_timeline-stored c.args.self.now c.args.name.now (names-seen c.self.invariant c.self.view_is) in
    rw (c.from_residual.ensures, ← absent) (λ h. h, λ h. h)

pub returns-clause-found : goal.returns-clause-found
returns-clause-found c =
    let present = c.in_ok-index.ensures.found ∙ has_timeline-stored c.args.self.now c.args.name.now (names-seen c.self.invariant c.self.view_is) in
    (λ _. sym present, λ _. refl)

pub returns-clause-value : goal.returns-clause-value
returns-clause-value c =
    c.at.ensures ∙ sym (context_of-stored c.args.self.now c.args.name.now c.in_ok-index.index (names-seen c.self.invariant c.self.view_is) c.in_ok-index.ensures.index)
