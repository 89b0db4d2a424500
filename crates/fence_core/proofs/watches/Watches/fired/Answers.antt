use Rattle.std.proofs.Common.{◌≡◌, ◌∙◌, ap, subst}
use Rattle.std.specs.Prelude.{IfOk}
use Rattle.std.specs.Map.{values_of}
use Rattle.fence_core.specs.Reported.{with_cookies}
use Rattle.fence_core.specs.Watches.{fired_by}
use Rattle.fence_core.proofs.Fired.{Fires-some, values-fired}
use Rattle.fence_core.proofs.watches.Watches.fired.Goals as goal
use Rattle.fence_core.proofs.watches.Watches.fired.Goals.{After-listed}

-- the registrations' cookies
cookies : (c : After-listed) → values_of (with_cookies c.as_slice.result.now) ≡ fired_by c.args.self.now c.args.reach.now
cookies c =
    ap (λ fs. values_of (with_cookies fs)) c.as_slice.ensures.value
    ∙ values-fired c.args.reach.now c.self.inside.pending.entries c.self.inside.index c.report_reached.new.fired.items c.self.invariant.0.kept c.self.invariant.1 c.in_ok-report_reached.ensures.gathered c.in_ok-report_reached.ensures.all
    ∙ ap (λ r. fired_by r c.args.reach.now) c.self.view_is

pub returns-in_err-report_reached-clause-none_fires : goal.returns-in_err-report_reached-clause-none_fires
returns-in_err-report_reached-clause-none_fires c = λ none. absurd (Fires-some c.args.reach.now c.self.inside.pending.entries c.self.invariant.0.kept c.in_err-report_reached.ensures.some_fires (ap (λ r. fired_by r c.args.reach.now) c.self.view_is ∙ none))

pub returns-clause-fired : goal.returns-clause-fired
returns-clause-fired c = subst (λ vs. IfOk c.listed.result (λ cookies. cookies.items ≡ vs)) (cookies c) c.listed.ensures.listed

pub returns-clause-none_fires : goal.returns-clause-none_fires
returns-clause-none_fires c = λ none. c.listed.ensures.none (cookies c ∙ none)
