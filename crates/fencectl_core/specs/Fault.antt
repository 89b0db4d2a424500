-- The line that reports a fault.
use Rattle.std.specs.Prelude.{ℕ, List, [], ◌∷◌, ◌++◌, codes, decimal}
use Rattle.point_core.specs.Refusal.{refusal_number, refusal_name}
use Rattle.point_core.specs.declared.refusal.Refusal.{Refusal}

-- `fencectl: NUMBER NAME` and a line feed
abbrev pub fault_text : Refusal → List ℕ
fault_text r = codes "fencectl: " ++ decimal (refusal_number r) ++ codes " " ++ refusal_name r ++ 10 ∷ []
