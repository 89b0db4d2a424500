use Rattle.point_core.proofs.Agreement.{AgreesAbove-from_listing, AgreesAbove-listing}
use Rattle.point_core.proofs.laws.listings_show_agreement.Goals as goal

pub returns-clause-only : goal.returns-clause-only
returns-clause-only c = λ reach es fs left right same. AgreesAbove-from_listing left right same

pub returns-clause-points : goal.returns-clause-points
returns-clause-points c = AgreesAbove-listing
