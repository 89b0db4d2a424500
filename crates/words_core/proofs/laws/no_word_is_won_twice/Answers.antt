use Rattle.words_core.proofs.Ruling.{one_winner}
use Rattle.words_core.proofs.laws.no_word_is_won_twice.Goals as goal

pub returns : goal.returns
returns c = one_winner
