-- The fences that are pending at the end of a trace, by their kinds.
use Rattle.std.specs.Prelude.{◌≡◌, ◌↔◌, Bool, true, false, not, ◌&&◌, if◌then◌else◌, List, [], ◌∷◌, map, Contains}
use Rattle.std.specs.List.{IsDistinct}
use Rattle.trace_core.specs.declared.pending.Pending.{Pending}
use Rattle.trace_core.specs.declared.pending.PendingKind.{PendingKind}
use Rattle.trace_core.specs.declared.pending.PendingKind.TheVariants.{Hang, Unknown, Unnumbered}
use Rattle.trace_core.specs.declared.fence_event.FenceKey.{FenceKey}
use Rattle.trace_core.specs.History.{Step, hangs, is_sure, is_unnumbered}
use Rattle.trace_core.specs.Keys.{same_key}
use Rattle.trace_core.specs.Pending.{is_pending_in}

abbrev pub key_of : Pending → FenceKey
key_of p = p.key

abbrev pub hangs_by : PendingKind → Bool
hangs_by Hang = true
hangs_by Unknown = false
hangs_by Unnumbered = false

abbrev pub is_hang : Pending → Bool
is_hang p = hangs_by p.kind

-- the fence where it hangs
abbrev pub hanging : Pending → List Pending
hanging p = if is_hang p then p ∷ [] else []

abbrev pub unknown_by : PendingKind → Bool
unknown_by Hang = false
unknown_by Unknown = true
unknown_by Unnumbered = false

abbrev pub is_unknown : Pending → Bool
is_unknown p = unknown_by p.kind

-- the fence where its signal may have been lost
abbrev pub not_known : Pending → List Pending
not_known p = if is_unknown p then p ∷ [] else []

-- whether a fence of the key is reported as hanging
abbrev pub is_reported : List Step → FenceKey → Bool
is_reported steps key = hangs steps key && not (is_unnumbered steps key)

-- whether a fence of the key is reported as not known: its signal may be among events that were lost
abbrev pub may_be_signalled : List Step → FenceKey → Bool
may_be_signalled steps key = (is_pending_in steps key && not (is_sure steps key)) && not (is_unnumbered steps key)

-- The fences that are listed are exactly those of the keys that pass the test, each once.
pub record AreListed (test : FenceKey → Bool) (found : List Pending) : Type 0 where
  pub are : (key : FenceKey) → Contains (map key_of found) key ↔ (test key ≡ true)
  pub once : IsDistinct same_key (map key_of found)

abbrev pub AreHangs : List Step → List Pending → Type 0
AreHangs steps found = AreListed (is_reported steps) found

abbrev pub AreUnknown : List Step → List Pending → Type 0
AreUnknown steps found = AreListed (may_be_signalled steps) found
