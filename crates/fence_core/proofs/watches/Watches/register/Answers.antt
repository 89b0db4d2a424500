use Rattle.std.proofs.Common.{ap, ◌∙◌, sym, subst}
use Rattle.fence_core.specs.Pending.{watches_of}
use Rattle.fence_core.specs.Watch.{Registry, registry_of}
use Rattle.fence_core.specs.PointIndex.{AreAbove}
use Rattle.fence_core.proofs.Above.{AreAbove-later, above-lower}
use Rattle.fence_core.proofs.Causes.{cause-by_Ok}
use Rattle.fence_core.proofs.watches.Watches.register.Goals as goal

pub enter-requires : goal.enter-requires
enter-requires c = record {
  free = cause-by_Ok _ _ _ c.in_ok-free.ensures;
  rising = c.requires.rising;
  above = above-lower c.args.reach.now c.args.self.now.reach c.args.points.now c.in-Some.first c.requires.rises c.in-Some.ensures.above;
}

pub invariant_of-self : goal.invariant_of-self
invariant_of-self c = (
  c.self.invariant.0,
  c.self.invariant.1,
  λ settled.
      let both = c.follow-self-inside.ensures.settled.0 settled in
      subst (AreAbove c.self.inside.index) (sym c.follow-self-inside.ensures.values) (AreAbove-later c.self.inside.index c.self.inside.reach c.args.reach.now (c.self.invariant.2 both.0) both.1),
)

pub returns-clause-last : goal.returns-clause-last
returns-clause-last c =
    ap (registry_of (watches_of c.self.inside.pending.entries) c.self.inside.made) c.follow-self-inside.ensures.values
    ∙ ap (λ (r : Registry). registry_of r.pending r.made c.args.reach.now) (c.self.view_is ∙ c.in_ok-enter.ensures.last)
