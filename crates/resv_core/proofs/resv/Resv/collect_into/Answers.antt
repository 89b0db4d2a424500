use Rattle.point_core.specs.Usage.{usage_number}
use Rattle.point_core.proofs.Listings.{points_above-IsLatest}
use Rattle.resv_core.proofs.resv.Resv.collect_into.Goals as goal

pub returns-clause-points : goal.returns-clause-points
returns-clause-points c =
    let none = c.restart.ensures.empty (usage_number c.args.usage) in
    let latest = rw c.as_slice.ensures.value at (c.put_each.ensures.latest c.args.reach.now none) in
    rw (← c.self.view_is) (rw (points_above-IsLatest latest) at c.list.ensures.points)
