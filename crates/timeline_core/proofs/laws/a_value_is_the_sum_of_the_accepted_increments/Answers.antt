use Rattle.std.proofs.Common.{sym}
use Rattle.std.proofs.lemmas.List.Sorted.{sum_by-IsPermutation}
use Rattle.timeline_core.proofs.Summing.{AreSums-run, value_of-run}
use Rattle.timeline_core.proofs.laws.a_value_is_the_sum_of_the_accepted_increments.Goals as goal

pub returns-clause-kept : goal.returns-clause-kept
returns-clause-kept c = AreSums-run

pub returns-clause-value : goal.returns-clause-value
returns-clause-value c = value_of-run

pub returns-clause-order : goal.returns-clause-order
returns-clause-order c = λ increments others name moved. sym (sum_by-IsPermutation _ increments others moved)
