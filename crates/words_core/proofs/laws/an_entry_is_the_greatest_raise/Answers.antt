use Rattle.words_core.proofs.Ruling.{greatest_raise}
use Rattle.words_core.proofs.laws.an_entry_is_the_greatest_raise.Goals as goal

pub returns : goal.returns
returns c = greatest_raise
