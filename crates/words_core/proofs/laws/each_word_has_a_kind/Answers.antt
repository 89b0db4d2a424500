use Rattle.words_core.proofs.WordKinds.{each_word}
use Rattle.words_core.proofs.laws.each_word_has_a_kind.Goals as goal

pub returns : goal.returns
returns c = each_word
