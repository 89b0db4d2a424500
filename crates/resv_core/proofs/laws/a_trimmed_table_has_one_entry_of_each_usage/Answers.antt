use Rattle.resv_core.proofs.Counting.{count_by-is_of, count_by-is_at-places, length-IsTrimmed}
use Rattle.resv_core.proofs.laws.a_trimmed_table_has_one_entry_of_each_usage.Goals as goal

pub returns-clause-usage : goal.returns-clause-usage
returns-clause-usage c = count_by-is_of

pub returns-clause-context : goal.returns-clause-context
returns-clause-context c = count_by-is_at-places

pub returns-clause-all : goal.returns-clause-all
returns-clause-all c = length-IsTrimmed
