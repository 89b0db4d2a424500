-- The files that a request signals.
use Rattle.std.specs.Prelude.{◌≡◌, nat_eq, ℕ, Bool, true, false, not, ◌&&◌, ◌||◌, List, Option, None, Some}
use Rattle.std.specs.List.{list_any, list_all}
use Rattle.device_core.specs.declared.fence.Fence.{Fence}
use Rattle.device_core.specs.theorem.Fences.{is_pending, is_due, are_signalled}
use Rattle.device_core.specs.theorem.State.{FileState}

-- it has signalled, or it is due
abbrev pub is_settled_by : ℕ → ℕ → Fence → Bool
is_settled_by timeline value f = not (is_pending f) || is_due timeline value f

-- not all of them have signalled, and all have once the timeline signals up to the value
abbrev pub wakes : ℕ → ℕ → List Fence → Bool
wakes timeline value fs = not (are_signalled fs) && list_all (is_settled_by timeline value) fs

abbrev pub file_wakes : ℕ → ℕ → Option FileState → Bool
file_wakes timeline value None = false
file_wakes timeline value (Some f) = wakes timeline value f.fences

-- some file wakes, with its number
abbrev pub WakesSome : ℕ → ℕ → (ℕ → Option FileState) → Type 0
WakesSome timeline value files = (n : ℕ) × (file_wakes timeline value (files n) ≡ true)

-- the number is in the list
abbrev pub has : List ℕ → ℕ → Bool
has numbers n = list_any (nat_eq n) numbers
