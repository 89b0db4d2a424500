-- The fences that are pending.
use Rattle.std.specs.Prelude.{if◌then◌else◌, Bool, List, map}
use Rattle.std.specs.List.{filter}
use Rattle.trace_core.specs.declared.pending.Pending.{Pending}
use Rattle.trace_core.specs.declared.pending.PendingKind.{PendingKind}
use Rattle.trace_core.specs.declared.pending.PendingKind.TheVariants.{Hang, Unknown, Unnumbered}
use Rattle.trace_core.specs.declared.fence_event.FenceKey.{FenceKey}
use Rattle.trace_core.specs.History.{Step, hangs, is_unnumbered, life_in}
use Rattle.trace_core.specs.Life.{is_pending}

-- A fence that its driver has not numbered doesn't count yet; a fence hangs if its signal can't be among lost events.
abbrev pub kind_of : List Step → FenceKey → PendingKind
kind_of steps key = if is_unnumbered steps key then Unnumbered else if hangs steps key then Hang else Unknown

abbrev pub pending_at : List Step → FenceKey → Pending
pending_at steps key = record {
  born = (life_in steps key).born;
  key = key;
  kind = kind_of steps key;
  since = (life_in steps key).since;
}

abbrev pub is_pending_in : List Step → FenceKey → Bool
is_pending_in steps key = is_pending (life_in steps key)

-- the fences among the keys that are pending
abbrev pub pending_among : List Step → List FenceKey → List Pending
pending_among steps keys = map (pending_at steps) (filter (is_pending_in steps) keys)
