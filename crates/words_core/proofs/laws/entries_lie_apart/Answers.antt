use Rattle.words_core.proofs.Laying.{entries_apart, lines_apart, lines_of_values}
use Rattle.words_core.proofs.laws.entries_lie_apart.Goals as goal

pub returns-clause-words : goal.returns-clause-words
returns-clause-words c = entries_apart

pub returns-clause-lines : goal.returns-clause-lines
returns-clause-lines c = lines_apart

pub returns-clause-values : goal.returns-clause-values
returns-clause-values c = lines_of_values
