use Rattle.std.proofs.Common.{◌++◌, ◌∷◌, [], if◌then◌else◌, ap, sym, arith, ◌∙◌}
use Rattle.point_core.specs.Agreement.{point_of}
use Rattle.point_core.proofs.Listings.{points_above-used, push_above, skip_above}
use Rattle.point_core.proofs.latest_points.LatestPoints.list.Goals as goal
use Rattle.point_core.proofs.latest_points.LatestPoints.list.Goals.{then-value-get+in_ok-map_err, else-value-get}

pub loop-index-preserved : goal.loop-index-preserved
loop-index-preserved c =
    elim c.if-value-get.branch [
      | then-value-get+in_ok-map_err w ↦
          let pushed = push_above c.args.self.now c.args.reach.now c.loop-index.points.items c.loop-index.index c.at-ctx.result c.loop-index.invariant c.at-ctx.ensures (omega arith) in
          let before = c.loop-index.points.items in
          let more = w.push.ensures.items ∙ ap (λ b. if b then before ++ point_of c.at-ctx.result c.get-value.result ∷ [] else before) (sym w.in_ok-map_err.ensures.variant) in
          rw (w.points-is, more, c.get-value.ensures.value) pushed
      | else-value-get w ↦
          let skipped = skip_above c.args.self.now c.args.reach.now c.loop-index.points.items c.loop-index.index c.at-ctx.result c.loop-index.invariant c.at-ctx.ensures (omega arith) in
          rw w.points-is skipped
    ]

pub returns-clause-points : goal.returns-clause-points
returns-clause-points c = c.loop-index.invariant ∙ points_above-used c.args.self.now c.args.reach.now c.loop-index.index (omega arith) (λ ctx past. c.used-index-end.ensures.past ctx (omega arith))
