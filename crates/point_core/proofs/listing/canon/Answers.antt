use Rattle.std.proofs.Common.{[]}
use Rattle.point_core.proofs.Listings.{points_above-IsLatest}
use Rattle.point_core.proofs.listing.canon.Goals as goal

pub returns-clause-listing : goal.returns-clause-listing
returns-clause-listing c =
    let latest = c.put_all.ensures.latest c.args.reach.now [] (c.above-latest.ensures.empty 0) in
    rw (points_above-IsLatest latest) at c.points.ensures.points
