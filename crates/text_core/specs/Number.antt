-- Times as text.
use Rattle.std.specs.Prelude.{ℕ, ◌+◌, ◌/◌, ◌%◌, List, ◌∷◌, ◌++◌, drop, decimal}
use Rattle.text_core.specs.declared.number.TheConstants.{SECOND}

-- microseconds as seconds with six decimals; 46 is the point
abbrev pub seconds : ℕ → List ℕ
seconds time = decimal (time / SECOND) ++ 46 ∷ drop 1 (decimal (SECOND + time % SECOND))
