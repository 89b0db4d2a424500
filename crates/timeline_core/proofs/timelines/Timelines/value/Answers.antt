use Rattle.std.proofs.Common.{◌≡◌, refl, sym, ap, ◌∙◌, Some, is_some}
use Rattle.std.proofs.lemmas.Option.{MatchOption-at_some}
use Rattle.point_core.specs.declared.clocks.Clock.{Clock}
use Rattle.point_core.specs.Clocks.{clock_of}
use Rattle.timeline_core.specs.Timeline.{timeline_of, context_of, clock_named, value_of}
use Rattle.timeline_core.proofs.Raising.{is_closed-open}
use Rattle.timeline_core.proofs.Places.{timeline_at-clock_named}
use Rattle.timeline_core.proofs.Storing.{clocks-seen, clock_named-stored}
use Rattle.timeline_core.proofs.timelines.Timelines.value.Goals as goal

pub returns-clause-timeline : goal.returns-clause-timeline
returns-clause-timeline c =
    let ts = c.args.self.now in
    let name = c.args.name.now in
    let found = c.context.ensures.found.0 (ap is_some c.in_ok-ctx.ensures.ok_part) in
    let at = MatchOption-at_some _ (λ x. x ≡ context_of ts name) c.in_ok-ctx.ctx c.in_ok-ctx.ensures.ok_part c.context.ensures.value in
    let value : c.value.result ≡ value_of ts name = c.value.ensures ∙ ap (λ (clock : Clock). clock.value) (clock_named-stored ts name (clocks-seen c.self.invariant c.self.view_is) at refl) in
    let closed = is_closed-open ts name found in
    timeline_at-clock_named ts name found ∙ ap (λ v. Some (timeline_of name (clock_of v (clock_named ts name).closed))) (sym value)
    ∙ ap (λ b. Some (timeline_of name (clock_of c.value.result b))) (sym closed)
