-- The numbers that a run gives, and how often each file begins to wait, is woken, and is closed while it waits.
use Rattle.std.specs.Prelude.{ℕ, ◌+◌, nat_eq, Bool, not, ◌&&◌, if◌then◌else◌, List, [], ◌∷◌, count_by, is_some, Result, Ok, Err}
use Rattle.std.specs.List.{flat_map}
use Rattle.device_core.specs.declared.errno.Errno.{Errno}
use Rattle.device_core.specs.declared.request.Request.{Request}
use Rattle.device_core.specs.declared.request.Reply.{Reply}
use Rattle.device_core.specs.declared.request.Reply.TheVariants as answer
use Rattle.device_core.specs.theorem.State.{Objects}
use Rattle.device_core.specs.theorem.Request.{is_waiting}
use Rattle.device_core.specs.theorem.History.{World, world_after, empty_world}

-- the number of the new object
abbrev pub number_in : Reply → List ℕ
number_in (answer.Number n) = n ∷ []
number_in (answer.Woken woken) = []
number_in (answer.Status status) = []
number_in (answer.Signalled signalled) = []
number_in (answer.Info info) = []
number_in answer.Done = []

-- the files that are reported as signalled
abbrev pub woken_in : Reply → List ℕ
woken_in (answer.Number n) = []
woken_in (answer.Woken woken) = woken.items
woken_in (answer.Status status) = []
woken_in (answer.Signalled signalled) = []
woken_in (answer.Info info) = []
woken_in answer.Done = []

-- for an accepted request
abbrev pub in_accepted : (Reply → List ℕ) → Result Reply Errno → List ℕ
in_accepted told (Ok given) = told given
in_accepted told (Err refusal) = []

-- the numbers that are given, in their order
abbrev pub numbers_given : List (Result Reply Errno) → List ℕ
numbers_given given = flat_map (in_accepted number_in) given

-- how often a file is reported as signalled
abbrev pub times_woken : ℕ → List (Result Reply Errno) → ℕ
times_woken n given = count_by (nat_eq n) (flat_map (in_accepted woken_in) given)

-- 1 if it holds, and else 0
abbrev pub one_if : Bool → ℕ
one_if b = if b then 1 else 0

-- a file is made that waits
abbrev pub begins : Objects → Objects → ℕ → Bool
begins old new n = not (is_some (old.files n)) && is_waiting (new.files n)

-- a file that waits is closed
abbrev pub is_dropped : Objects → Objects → ℕ → Bool
is_dropped old new n = is_waiting (old.files n) && not (is_some (new.files n))

module _ (test : Objects → Objects → ℕ → Bool) (n : ℕ) where
  abbrev pub times_from : World → List Request → ℕ
  times_from w [] = 0
  times_from w (r ∷ rs) = one_if (test w.objects (world_after w r).objects n) + times_from (world_after w r) rs

-- how often a history makes a file with this number that waits, and closes one
abbrev pub times_begun : ℕ → List Request → ℕ
times_begun n history = times_from begins n empty_world history

abbrev pub times_dropped : ℕ → List Request → ℕ
times_dropped n history = times_from is_dropped n empty_world history
