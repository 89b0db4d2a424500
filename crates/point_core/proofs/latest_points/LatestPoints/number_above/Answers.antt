use Rattle.std.proofs.Common.{length, ap, arith, ◌+◌, ◌∙◌}
use Rattle.point_core.proofs.Listings.{count_above, count_skipped, points_above-used}
use Rattle.point_core.proofs.latest_points.LatestPoints.number_above.Goals as goal
use Rattle.point_core.proofs.latest_points.LatestPoints.number_above.Goals.{then-get, else-get}

pub overflow_add-number : goal.overflow_add-number
overflow_add-number c = omega arith

pub loop-index-preserved : goal.loop-index-preserved
loop-index-preserved c =
    elim c.if-get.branch [
      | then-get w ↦
          let more = count_above c.args.self.now c.args.reach.now c.loop-index.index c.at-ctx.result c.at-ctx.ensures (omega arith) in
          rw w.number-is (ap (λ k. k + 1) c.loop-index.invariant.0 ∙ more, omega arith)
      | else-get w ↦
          let same = count_skipped c.args.self.now c.args.reach.now c.loop-index.index c.at-ctx.result c.at-ctx.ensures (omega arith) in
          rw w.number-is (c.loop-index.invariant.0 ∙ same, omega arith)
    ]

pub returns : goal.returns
returns c = c.loop-index.invariant.0 ∙ ap length (points_above-used c.args.self.now c.args.reach.now c.loop-index.index (omega arith) (λ ctx past. c.used-index-end.ensures.past ctx (omega arith)))
