-- Calls on a reservation, one after another.
use Rattle.std.specs.Prelude.{ℕ, List, [], ◌∷◌, ◌++◌, ⊤}
use Rattle.point_core.specs.declared.entry.Entry.{Entry}
use Rattle.point_core.specs.Reach.{IsAtLeast}
use Rattle.point_core.specs.Agreement.{AgreesAbove}

-- a call that may change a table
pub data Call : Type 0 where
  Reserve : Call
  Add : Entry → Call
  Trim : Call

-- the contract of a call: the entries before and after it, at the reach that it was given
abbrev pub Leaves : Call → List ℕ → List Entry → List Entry → Type 0
Leaves Reserve reach before after = AgreesAbove reach before after
Leaves (Add e) reach before after = AgreesAbove reach after (before ++ e ∷ [])
Leaves Trim reach before after = AgreesAbove reach before after

-- a call that was made, the reach that it was given, and the entries that it left
pub record Step : Type 0 where
  pub call : Call
  pub reach : List ℕ
  pub after : List Entry

-- each call was made on the entries that the one before it left, and at no lower reach
abbrev pub IsRun : List ℕ → List Entry → List Step → Type 0
IsRun reach before [] = ⊤
IsRun reach before (step ∷ steps) =
    IsAtLeast step.reach reach × Leaves step.call step.reach before step.after × IsRun step.reach step.after steps

abbrev pub last_reach : List ℕ → List Step → List ℕ
last_reach reach [] = reach
last_reach reach (step ∷ steps) = last_reach step.reach steps

abbrev pub last_entries : List Entry → List Step → List Entry
last_entries before [] = before
last_entries before (step ∷ steps) = last_entries step.after steps

abbrev pub added_by : Call → List Entry
added_by Reserve = []
added_by (Add e) = e ∷ []
added_by Trim = []

-- everything that was ever added
abbrev pub all_added : List Step → List Entry
all_added [] = []
all_added (step ∷ steps) = added_by step.call ++ all_added steps
