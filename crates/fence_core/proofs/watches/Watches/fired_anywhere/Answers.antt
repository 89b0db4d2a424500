use Rattle.std.proofs.Common.{◌≡◌, ◌∙◌, ap, subst}
use Rattle.std.specs.Prelude.{IfOk}
use Rattle.point_core.specs.Reach.{reaching}
use Rattle.fence_core.specs.Watch.{Registry}
use Rattle.fence_core.specs.Watches.{fired_by}
use Rattle.fence_core.proofs.watches.Watches.fired_anywhere.Goals as goal

pub returns-clause-fired : goal.returns-clause-fired
returns-clause-fired c =
    let is = c.raise_to.ensures.value ∙ ap (λ (r : Registry). reaching r.reach c.args.point.now) c.self.view_is in
    subst (λ reach. IfOk c.fired.result (λ cookies. cookies.items ≡ fired_by c.args.self.now reach)) is c.fired.ensures.fired

pub returns-clause-none_fires : goal.returns-clause-none_fires
returns-clause-none_fires c = λ none.
    let is = c.raise_to.ensures.value ∙ ap (λ (r : Registry). reaching r.reach c.args.point.now) c.self.view_is in
    c.fired.ensures.none_fires (ap (fired_by c.args.self.now) is ∙ none)
