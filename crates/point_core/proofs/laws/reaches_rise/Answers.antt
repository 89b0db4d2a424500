use Rattle.point_core.proofs.Values.{IsAtLeast-later_values_left, IsAtLeast-later_values_right, IsAtLeast-later_values}
use Rattle.point_core.proofs.laws.reaches_rise.Goals as goal

pub returns-clause-joined : goal.returns-clause-joined
returns-clause-joined c = λ reach other e. (IsAtLeast-later_values_left reach other e, IsAtLeast-later_values_right reach other e)

pub returns-clause-lowest : goal.returns-clause-lowest
returns-clause-lowest c = λ reach other higher e left right. IsAtLeast-later_values e left right
