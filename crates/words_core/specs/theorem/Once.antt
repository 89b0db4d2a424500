-- The result of a test-and-set of a flag.
use Rattle.words_core.specs.declared.flags.Once.{Once}
use Rattle.words_core.specs.declared.flags.Once.TheVariants.{First, Already}
use Rattle.words_core.specs.theorem.Won.{WonModel}

-- P holds of the winner's token
abbrev pub IfFirst : Once → (WonModel → Type 0) → Type 0
IfFirst (First won) P = P won
IfFirst Already P = Unit {0}

abbrev pub IfAlready : Once → Type 0 → Type 0
IfAlready (First won) P = Unit {0}
IfAlready Already P = P
