use Rattle.std.proofs.Common.{◌≡◌, ◌≤◌, ◌∙◌, ap, refl, subst}
use Rattle.std.specs.Prelude.{IfOk}
use Rattle.std.specs.Map.{values_of}
use Rattle.point_core.specs.Reach.{reaching}
use Rattle.fence_core.specs.Reported.{with_cookies}
use Rattle.fence_core.specs.Watch.{Registry}
use Rattle.fence_core.specs.Watches.{fired_by}
use Rattle.fence_core.proofs.Above.{due-one_context}
use Rattle.fence_core.proofs.Fired.{values-fired, AreGathered-none, Fires-some}
use Rattle.fence_core.proofs.watches.Watches.fired_by_point.Goals as goal
use Rattle.fence_core.proofs.watches.Watches.fired_by_point.Goals.{After-listed}

-- the registrations' cookies
cookies : (c : After-listed) → values_of (with_cookies c.as_slice.result.now) ≡ fired_by c.args.self.now (reaching c.args.self.now.reach c.args.point.now)
cookies c =
    let p = c.args.point.now in
    let index = c.self.inside.index in
    let low = subst (λ n. 1 ≤ n) c.number.ensures.value c.number.ensures.within.0 in
    ap (λ fs. values_of (with_cookies fs)) c.as_slice.ensures.value
    ∙ values-fired (reaching c.self.inside.reach p) c.self.inside.pending.entries index c.report_due.new.fired.items c.self.invariant.0.kept c.self.invariant.1 c.in_ok-report_due.ensures.added.gathered
    (λ k due there. c.in_ok-report_due.ensures.all k (due-one_context index c.self.inside.reach (reaching c.self.inside.reach p) p refl low (c.self.invariant.2 c.if-not-self.false) k due there) there)
    ∙ ap (λ (r : Registry). fired_by r (reaching r.reach p)) c.self.view_is

pub report_due-requires : goal.report_due-requires
report_due-requires c = record {
  gathered = AreGathered-none (reaching c.self.inside.reach c.args.point.now) c.self.inside.pending.entries c.clear.new.self.items c.clear.ensures.items;
}

pub returns-in_err-report_due-clause-none_fires : goal.returns-in_err-report_due-clause-none_fires
returns-in_err-report_due-clause-none_fires c = λ none.
    let p = c.args.point.now in
    absurd (Fires-some (reaching c.self.inside.reach p) c.self.inside.pending.entries c.self.invariant.0.kept c.in_err-report_due.ensures.some_fires (ap (λ (r : Registry). fired_by r (reaching r.reach p)) c.self.view_is ∙ none))

pub returns-clause-fired : goal.returns-clause-fired
returns-clause-fired c = subst (λ vs. IfOk c.listed.result (λ cookies. cookies.items ≡ vs)) (cookies c) c.listed.ensures.listed

pub returns-clause-none_fires : goal.returns-clause-none_fires
returns-clause-none_fires c = λ none. c.listed.ensures.none (cookies c ∙ none)
