use Rattle.point_core.proofs.Agreement.{listing-contexts, listing-rising, listing-empty}
use Rattle.point_core.proofs.Canonical.{listing-itself}
use Rattle.point_core.proofs.laws.a_listing_is_what_is_pending.Goals as goal

pub returns-clause-rising : goal.returns-clause-rising
returns-clause-rising c = listing-rising

pub returns-clause-contexts : goal.returns-clause-contexts
returns-clause-contexts c = λ es usage reach. (listing-contexts es usage reach).1

pub returns-clause-above : goal.returns-clause-above
returns-clause-above c = λ es usage reach. (listing-contexts es usage reach).2

pub returns-clause-empty : goal.returns-clause-empty
returns-clause-empty c = listing-empty

pub returns-clause-itself : goal.returns-clause-itself
returns-clause-itself c = λ ps reach rising within high. listing-itself reach ps rising within high
