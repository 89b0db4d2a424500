-- Waits: which of them are open, and which one an event begins or ends.
use Rattle.std.specs.Prelude.{◌≡◌, ℕ, nat_eq, ◌-◌, Bool, ◌&&◌, if◌then◌else◌, List, [], ◌∷◌, ◌++◌, length, map, find, Option, None, Some}
use Rattle.std.specs.List.{filter}
use Rattle.trace_core.specs.declared.event.Event.{Event}
use Rattle.trace_core.specs.declared.event.Event.TheVariants.{WaitStart, WaitEnd}
use Rattle.trace_core.specs.declared.fence_event.FenceKey.{FenceKey}
use Rattle.trace_core.specs.declared.fence_event.FenceEvent.{FenceEvent}
use Rattle.trace_core.specs.declared.waits.Wait.{Wait}
use Rattle.trace_core.specs.declared.waits.WaitKey.{WaitKey}
use Rattle.trace_core.specs.declared.waits.Waits.{Waits}
use Rattle.trace_core.specs.History.{Step, Seen, Lost, Forgot}
use Rattle.trace_core.specs.Keys.{same_key}

-- the wait is one of the event's task for its fence, and lasted up to the event
pub record IsWaitOf (e : FenceEvent) (wait : Wait) : Type 0 where
  pub task : wait.pid ≡ e.pid
  pub fence : wait.key ≡ e.key
  pub length : wait.length ≡ e.time - wait.start

-- a wait of a task for a fence, which began at that time
pub record Started : Type 0 where
  pub pid : ℕ
  pub key : FenceKey
  pub start : ℕ

abbrev pub started_by : FenceEvent → Started
started_by e = record { pid = e.pid; key = e.key; start = e.time }

abbrev pub started_of : Wait → Started
started_of wait = record { pid = wait.pid; key = wait.key; start = wait.start }

-- whether the wait is one of that task for that fence
abbrev pub is_wait_for : ℕ → FenceKey → Started → Bool
is_wait_for pid key wait = nat_eq pid wait.pid && same_key key wait.key

-- the waits but for the first that passes the test
abbrev pub without_first : (Started → Bool) → List Started → List Started
without_first test [] = []
without_first test (wait ∷ waits) = if test wait then waits else wait ∷ without_first test waits

-- The open waits after an event, from the open waits before it, with the newest first. A wait_end ends a wait of its task for its
-- fence: of several, the wait that began last.
abbrev pub waits_after : Event → FenceEvent → List Started → List Started
waits_after WaitStart e waits = started_by e ∷ waits
waits_after WaitEnd e waits = without_first (is_wait_for e.pid e.key) waits
waits_after _ e waits = waits

-- the wait that an event begins or ends, if any, by the waits that are open before it
abbrev pub wait_by : Event → FenceEvent → List Started → Option Started
wait_by WaitStart e waits = Some (started_by e)
wait_by WaitEnd e waits = find (is_wait_for e.pid e.key) waits
wait_by _ e waits = None

-- the waits that are open after the steps, the newest first
abbrev pub open_waits : List Step → List Started
open_waits [] = []
open_waits (Seen e ∷ earlier) = waits_after e.kind e (open_waits earlier)
open_waits (Lost ∷ earlier) = open_waits earlier
open_waits (Forgot key ∷ earlier) = open_waits earlier

-- the wait that the event begins or ends, by the steps before it
abbrev pub wait_in : List Step → FenceEvent → Option Started
wait_in earlier e = wait_by e.kind e (open_waits earlier)

-- how many of the waits are of that task for that fence
abbrev pub waiting : ℕ → FenceKey → List Started → ℕ
waiting pid key waits = length (filter (is_wait_for pid key) waits)

abbrev pub wait_key : ℕ → FenceKey → ℕ → WaitKey
wait_key pid key nth = record { pid = pid; key = key; nth = nth }

-- each wait under a number: how many earlier ones are of its task for its fence; the oldest wait comes first
abbrev pub keyed : List Started → List (WaitKey × Started)
keyed [] = []
keyed (wait ∷ earlier) = keyed earlier ++ (wait_key wait.pid wait.key (waiting wait.pid wait.key earlier), wait) ∷ []

-- the entries with what the waits began as
abbrev pub started_each : List (WaitKey × Wait) → List (WaitKey × Started)
started_each entries = map (λ entry. (entry.0, started_of entry.1)) entries

-- the waits that are kept are the open ones, in the order in which they began
abbrev pub AreOpen : Waits → List Started → Type 0
AreOpen kept waits = started_each kept.open.entries ≡ keyed waits
