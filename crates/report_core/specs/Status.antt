-- The text of a status.
use Rattle.std.specs.Prelude.{ℕ, ◌+◌, ℤ, pos, negsuc, List, ◌∷◌, decimal}
use Rattle.point_core.specs.declared.status.Status.{Status}
use Rattle.point_core.specs.Status.{status_number}

-- a number in decimal, after a minus, which is 45, if it is below 0
abbrev pub signed_decimal : ℤ → List ℕ
signed_decimal (pos n) = decimal n
signed_decimal (negsuc n) = 45 ∷ decimal (n + 1)

abbrev pub status_text : Status → List ℕ
status_text status = signed_decimal (status_number status)
