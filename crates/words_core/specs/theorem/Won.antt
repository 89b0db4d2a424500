-- The token of a flag's winner, as contracts see it.
use Rattle.std.specs.Prelude.{ℕ}
use Rattle.words_core.specs.theorem.Words.{WordsModel}

-- the words, and the flag
pub record WonModel : Type 0 where
  pub words : WordsModel
  pub flag : ℕ
