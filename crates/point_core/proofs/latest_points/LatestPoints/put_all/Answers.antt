use Rattle.std.proofs.Common.{◌++◌, ◌∷◌, [], append_assoc, refl, arith, take}
use Rattle.point_core.specs.Agreement.{as_entry, as_entries}
use Rattle.point_core.proofs.Listings.{as_entries-take_more, HasContexts-take_more}
use Rattle.point_core.proofs.latest_points.LatestPoints.put_all.Goals as goal

pub loop-point-preserved : goal.loop-point-preserved
loop-point-preserved c =
    let ps = c.args.points.now in
    let i = c.loop-point.point-index in
    let p = c.point-item.result in
    record {
      latest = λ reach es before.
          rw (as_entries-take_more ps i p c.loop-point-test.true c.point-item.is, ← append_assoc es (as_entries (take i ps)) (as_entry p ∷ []))
          (c.put.ensures.latest reach (es ++ as_entries (take i ps)) (as_entry p) 0 refl (omega arith) (c.loop-point.invariant.latest reach es before));
      contexts = HasContexts-take_more ps i p c.loop-point-test.true c.point-item.is c.put.ensures.context c.loop-point.invariant.contexts;
    }
