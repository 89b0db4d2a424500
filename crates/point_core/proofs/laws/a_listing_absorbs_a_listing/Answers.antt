use Rattle.point_core.proofs.Agreement.{listing-merge}
use Rattle.point_core.proofs.laws.a_listing_absorbs_a_listing.Goals as goal

pub returns : goal.returns
returns c = λ reach later es fs usage high. listing-merge es fs usage high
