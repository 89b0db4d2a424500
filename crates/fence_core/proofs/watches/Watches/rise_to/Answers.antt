use Rattle.std.proofs.Common.{◌∙◌, ap, sym, subst}
use Rattle.std.specs.List.{list_any}
use Rattle.fence_core.specs.Watch.{Registry}
use Rattle.fence_core.specs.Watches.{fires}
use Rattle.fence_core.specs.PointIndex.{AreAbove}
use Rattle.fence_core.proofs.Above.{on_ok}
use Rattle.fence_core.proofs.Registered.{AreRegistered-same}
use Rattle.fence_core.proofs.watches.Watches.rise_to.Goals as goal

pub settle-settled-requires-clause-none_fires : goal.settle-settled-requires-clause-none_fires
settle-settled-requires-clause-none_fires c = ap (λ (r : Registry). list_any (fires c.args.reach.now) r.pending) c.self.view_is ∙ c.requires.none_fires

pub settle-settled-requires-clause-placed : goal.settle-settled-requires-clause-placed
settle-settled-requires-clause-placed c = record { indexed = c.self.invariant.1; kept = c.self.invariant.0.kept }

pub invariant_of-self : goal.invariant_of-self
invariant_of-self c = (
  AreRegistered-same c.self.inside.pending.entries c.settle-settled.new.pending.entries c.self.inside.made c.self.invariant.0 c.settle-settled.ensures.moved.same c.settle-settled.ensures.moved.placed.kept (c.settle-settled.ensures.moved.numbers c.self.inside.made c.self.invariant.0.before),
  c.settle-settled.ensures.moved.placed.indexed,
  λ settled. subst (AreAbove c.settle-settled.new.self) (sym c.copy_from.ensures.values)
      (on_ok c.settle-settled.result c.settle-settled.ensures.above (sym c.is_ok-self-inside.ensures.value ∙ settled)),
)
