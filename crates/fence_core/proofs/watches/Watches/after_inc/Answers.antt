use Rattle.std.proofs.Common.{◌∙◌, ap, sym, subst}
use Rattle.fence_core.specs.Pending.{watches_of}
use Rattle.point_core.specs.Reach.{reaching}
use Rattle.fence_core.specs.Watch.{Registry, registry_of}
use Rattle.fence_core.specs.Watches.{fired_by, after_rise_to}
use Rattle.fence_core.specs.PointIndex.{AreAbove}
use Rattle.fence_core.proofs.Above.{AreAbove-raised}
use Rattle.fence_core.proofs.Fired.{none-due, all-stay}
use Rattle.fence_core.proofs.watches.Watches.after_inc.Goals as goal

pub invariant_of-self : goal.invariant_of-self
invariant_of-self c =
    let risen = c.raise_to.ensures.value in
    let above = subst (AreAbove c.self.inside.index) (sym risen) (AreAbove-raised c.self.inside.index c.self.inside.reach c.args.point c.raise_to.ensures.full c.raise_to.ensures.context.0 c.raise_to.ensures.context.1 (c.self.invariant.2 c.if-self.true) (c.is_above_point.ensures c.if-is_above_point.true)) in (
      c.self.invariant.0,
      c.self.invariant.1,
      λ settled. above,
    )

pub returns-then-is_above_point-clause-fired : goal.returns-then-is_above_point-clause-fired
returns-then-is_above_point-clause-fired c =
    let es = c.self.inside.pending.entries in
    let risen = c.raise_to.ensures.value in
    let above = subst (AreAbove c.self.inside.index) (sym risen) (AreAbove-raised c.self.inside.index c.self.inside.reach c.args.point c.raise_to.ensures.full c.raise_to.ensures.context.0 c.raise_to.ensures.context.1 (c.self.invariant.2 c.if-self.true) (c.is_above_point.ensures c.if-is_above_point.true)) in
    let none = none-due c.raise_to.new.self es c.self.inside.index c.self.invariant.0.kept c.self.invariant.1 above in
    c.new.ensures.items ∙ sym none
    ∙ ap (λ reach. fired_by (registry_of (watches_of es) c.self.inside.made c.self.inside.reach) reach) risen
    ∙ ap (λ (r : Registry). fired_by r (reaching r.reach c.args.point)) c.self.view_is

pub returns-then-is_above_point-clause-left : goal.returns-then-is_above_point-clause-left
returns-then-is_above_point-clause-left c =
    let es = c.self.inside.pending.entries in
    let risen = c.raise_to.ensures.value in
    let above = subst (AreAbove c.self.inside.index) (sym risen) (AreAbove-raised c.self.inside.index c.self.inside.reach c.args.point c.raise_to.ensures.full c.raise_to.ensures.context.0 c.raise_to.ensures.context.1 (c.self.invariant.2 c.if-self.true) (c.is_above_point.ensures c.if-is_above_point.true)) in
    let none = none-due c.raise_to.new.self es c.self.inside.index c.self.invariant.0.kept c.self.invariant.1 above in
    ap (λ ws. registry_of ws c.self.inside.made c.raise_to.new.self) (sym (all-stay c.raise_to.new.self (watches_of es) none))
    ∙ ap (λ reach. after_rise_to (registry_of (watches_of es) c.self.inside.made c.self.inside.reach) reach) risen
    ∙ ap (λ (r : Registry). after_rise_to r (reaching r.reach c.args.point)) c.self.view_is
