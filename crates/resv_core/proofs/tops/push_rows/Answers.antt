use Rattle.std.proofs.Common.{◌++◌, ap, refl, ◌∙◌, map, arith}
use Rattle.point_core.proofs.Listings.{points_above-used, push_above, skip_above}
use Rattle.resv_core.specs.Resv.{row_of}
use Rattle.resv_core.proofs.Rows.{row-more}
use Rattle.resv_core.proofs.tops.push_rows.Goals as goal
use Rattle.resv_core.proofs.tops.push_rows.Goals.{then-point-get, else-point-get}

pub loop-index-preserved : goal.loop-index-preserved
loop-index-preserved c =
    elim c.if-point-get.branch [
      | then-point-get w ↦
          let more = push_above c.args.latest.now c.args.reach.now _ c.loop-index.index c.at-ctx.result refl c.at-ctx.ensures (omega arith) in
          rw (w.rows-is, w.push_reserved.ensures.items, c.get-point.ensures.value) (record {
            rows = row-more c.loop-index.rows.items c.args.rows.now.items c.args.usage _ _ _ c.loop-index.invariant.rows more;
            few = omega arith;
            places = omega arith;
          })
      | else-point-get w ↦
          let same = skip_above c.args.latest.now c.args.reach.now _ c.loop-index.index c.at-ctx.result refl c.at-ctx.ensures (omega arith) in
          rw w.rows-is (record {
            rows = c.loop-index.invariant.rows ∙ ap (λ ps. c.args.rows.now.items ++ map (row_of c.args.usage) ps) same;
            few = omega arith;
            places = omega arith;
          })
    ]

pub returns-clause-rows : goal.returns-clause-rows
returns-clause-rows c =
    c.loop-index.invariant.rows
    ∙ ap (λ ps. c.args.rows.now.items ++ map (row_of c.args.usage) ps) (points_above-used c.args.latest.now c.args.reach.now c.loop-index.index (omega arith) (λ ctx past. c.used-index-end.ensures.past ctx (omega arith)))
