use Rattle.std.proofs.Common.{ap, inl, inr, length, arith}
use Rattle.std.proofs.lemmas.Bool.{cases_Bool}
use Rattle.fence_core.specs.PointIndex.{holds}
use Rattle.fence_core.proofs.Above.{AreAbove-none_due}
use Rattle.fence_core.proofs.PointIndex.{holds-within}
use Rattle.fence_core.proofs.watches.point_index.PointIndex.settle.Goals as goal

pub returns-clause-above : goal.returns-clause-above
returns-clause-above c = AreAbove-none_due c.loop-index.self c.args.reach.now (λ k due. elim (cases_Bool (holds c.loop-index.self k)) [
  | inl there ↦
      let within = holds-within c.args.self.now k (c.loop-index.invariant.moved.less k due there) in
      let same = ap length c.self.view_is in
      c.loop-index.invariant.none k (omega (arith, within.1, same)) due
  | inr gone ↦ gone
])
