use Rattle.std.proofs.Common.{◌∙◌, ap, sym}
use Rattle.std.specs.List.{list_any}
use Rattle.fence_core.specs.Pending.{watches_of}
use Rattle.point_core.specs.Reach.{reaching}
use Rattle.fence_core.specs.Watch.{Registry}
use Rattle.fence_core.specs.Watches.{fires}
use Rattle.fence_core.proofs.Above.{AreAbove-one_context, on_ok}
use Rattle.fence_core.proofs.Registered.{AreRegistered-same}
use Rattle.fence_core.proofs.watches.Watches.rise_in_one_context.Goals as goal

pub settle-settled-requires-clause-none_fires : goal.settle-settled-requires-clause-none_fires
settle-settled-requires-clause-none_fires c =
    ap (λ reach. list_any (fires reach) (watches_of c.self.inside.pending.entries)) c.raise_to.ensures.value
    ∙ ap (λ (r : Registry). list_any (fires (reaching r.reach c.args.point.now)) r.pending) c.self.view_is
    ∙ c.requires.none_fires

pub settle_context-settled-requires-clause-none_fires : goal.settle_context-settled-requires-clause-none_fires
settle_context-settled-requires-clause-none_fires c =
    ap (λ reach. list_any (fires reach) (watches_of c.self.inside.pending.entries)) c.raise_to.ensures.value
    ∙ ap (λ (r : Registry). list_any (fires (reaching r.reach c.args.point.now)) r.pending) c.self.view_is
    ∙ c.requires.none_fires

pub settle-settled-requires-clause-placed : goal.settle-settled-requires-clause-placed
settle-settled-requires-clause-placed c = record { indexed = c.self.invariant.1; kept = c.self.invariant.0.kept }

pub settle_context-settled-requires-clause-placed : goal.settle_context-settled-requires-clause-placed
settle_context-settled-requires-clause-placed c = record { indexed = c.self.invariant.1; kept = c.self.invariant.0.kept }

pub invariant_of-self : goal.invariant_of-self
invariant_of-self c =
    let step = c.settle-settled.ensures in (
      AreRegistered-same c.self.inside.pending.entries c.settle-settled.new.pending.entries c.self.inside.made c.self.invariant.0 step.moved.same step.moved.placed.kept (step.moved.numbers c.self.inside.made c.self.invariant.0.before),
      step.moved.placed.indexed,
      λ settled. on_ok c.settle-settled.result step.above (sym c.is_ok-self-inside.ensures.value ∙ settled),
    )

pub invariant_of-self-2 : goal.invariant_of-self-2
invariant_of-self-2 c =
    let step = c.settle_context-settled.ensures in (
      AreRegistered-same c.self.inside.pending.entries c.settle_context-settled.new.pending.entries c.self.inside.made c.self.invariant.0 step.moved.same step.moved.placed.kept (step.moved.numbers c.self.inside.made c.self.invariant.0.before),
      step.moved.placed.indexed,
      λ settled. AreAbove-one_context c.self.inside.index c.settle_context-settled.new.self c.self.inside.reach c.raise_to.new.self c.args.point.now c.raise_to.ensures.value c.raise_to.ensures.context.0 (c.self.invariant.2 c.if-not-self.false) step.moved.less
          (on_ok c.settle_context-settled.result step.none_left (sym c.is_ok-self-inside-2.ensures.value ∙ settled)),
    )
