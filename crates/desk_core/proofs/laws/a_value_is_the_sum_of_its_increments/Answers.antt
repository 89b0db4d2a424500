use Rattle.desk_core.proofs.Sums.{AreSums-history}
use Rattle.desk_core.proofs.laws.a_value_is_the_sum_of_its_increments.Goals as goal

pub returns : goal.returns
returns c = AreSums-history
