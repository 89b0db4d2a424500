-- Clients whose next lines may be made before the lines of all others.
use Rattle.std.specs.Prelude.{◌≡◌, ◌⊎◌, ℕ, ◌<◌, ◌≤◌, ◌==◌, nat_lt, Bool, true, false, not, ◌&&◌, ◌||◌, List, get_or, Option, None, Some, IfSome, Contains, slice_get}
use Rattle.std.specs.List.{list_all}
use Rattle.std.specs.Option.{IsSomeAnd}
use Rattle.point_core.specs.declared.entry.Entry.{Entry}
use Rattle.point_core.specs.Named.{same_name}
use Rattle.point_core.specs.Reach.{value_at}
use Rattle.timeline_core.specs.Timeline.{context_of, has_timeline, reach_of}
use Rattle.command_core.specs.declared.command.Command.{Command}
use Rattle.command_core.specs.declared.command.Command.TheVariants as command
use Rattle.desk_core.specs.theorem.History.{world_of}
use Rattle.desk_core.specs.theorem.World.{has_file, put_set}
use Rattle.explore_core.specs.Access.{conflict, holds, is_inside}
use Rattle.explore_core.specs.Branch.{Branching}
use Rattle.explore_core.specs.declared.access.Access.{Access}
use Rattle.explore_core.specs.declared.plan.Milestone.{Milestone}
use Rattle.explore_core.specs.declared.plan.Step.{Step}
use Rattle.explore_core.specs.Flow.{RespectsBounds}
use Rattle.explore_core.specs.Independence.{AreIndependent, Bounds, IsNarrow, IsRoomy, IsWithin}
use Rattle.explore_core.specs.Moving.{IsPatient, MayGoFirst}
use Rattle.explore_core.specs.Room.{LeadsForward}
use Rattle.explore_core.specs.Schedule.{Lines, Standing, Schedule, lines_of, made_by, next_line, can_be_made, after_one, Leads}

-- Some clients are chosen to go next. While they stand still, no other comes further than its limit.
pub record Choice : Type 0 where
  pub chosen : ℕ → Bool
  pub limit : ℕ → ℕ

-- a line that another client may make while the chosen clients stand still
pub record IsAhead (plan : Lines) (now : Standing) (choice : Choice) (client place : ℕ) (line : Step) : Type 0 where
  pub other : choice.chosen client ≡ false
  pub from : made_by now client ≤ place
  pub below : place < choice.limit client
  pub is : slice_get (lines_of plan client) place ≡ Some line

-- the command makes or closes the file of that name
abbrev pub changes_file : Command → List ℕ → Bool
changes_file (command.Fence f t p) name = same_name f name
changes_file (command.Merge f a b) name = same_name f name
changes_file (command.Export f b flags) name = same_name f name
changes_file (command.Close f) name = same_name f name
changes_file _ name = false

-- the command raises or closes the timeline of that name
abbrev pub changes_timeline : Command → List ℕ → Bool
changes_timeline (command.Inc t n) name = same_name t name
changes_timeline (command.Shut t) name = same_name t name
changes_timeline _ name = false

-- A point of the file is pending, and no line ahead changes its timeline.
pub record IsPendingFor (plan : Lines) (now : Standing) (choice : Choice) (file : List ℕ) : Type 0 where
  pub entry : Entry
  pub there : Contains (put_set (world_of now.history).files file) entry
  pub timeline : List ℕ
  pub has : has_timeline (world_of now.history).timelines timeline ≡ true
  pub of : entry.point.ctx ≡ context_of (world_of now.history).timelines timeline
  pub pending : value_at (reach_of (world_of now.history).timelines) entry.point.ctx < entry.point.value
  pub kept : (client place : ℕ) (line : Step) → IsAhead plan now choice client place line →
      changes_timeline line.command timeline ≡ false

-- The client waits for a file that is missing or pending, and stays so.
pub record IsHeldByFile (plan : Lines) (now : Standing) (choice : Choice) (line : Step) : Type 0 where
  pub waits : line.waits ≡ true
  pub file : List ℕ
  pub is : line.command ≡ command.Wait file
  pub kept : (client place : ℕ) (ahead : Step) → IsAhead plan now choice client place ahead →
      changes_file ahead.command file ≡ false
  pub unsignalled : (has_file (world_of now.history).files file ≡ false) ⊎ IsPendingFor plan now choice file

-- the milestone is not passed while the chosen clients stand still
pub record StaysAhead (now : Standing) (choice : Choice) (milestone : Milestone) : Type 0 where
  pub before : made_by now milestone.client ≤ milestone.place
  pub limited : choice.chosen milestone.client ≡ false → choice.limit milestone.client ≤ milestone.place

-- the line can't be made while the chosen clients stand still: it comes after such a milestone, or waits for such a file
abbrev pub IsHeld : Lines → Standing → Choice → Step → Type 0
IsHeld plan now choice line = IsSomeAnd line.after (StaysAhead now choice) ⊎ IsHeldByFile plan now choice line

-- what is pending is within the bounds, and each line ahead respects them
pub record KeepsWithin (bounds : Bounds) (plan : Lines) (now : Standing) (choice : Choice) : Type 0 where
  pub pending : IsWithin bounds (world_of now.history)
  pub ahead : (client place : ℕ) (line : Step) → IsAhead plan now choice client place line → RespectsBounds bounds line.command

-- while the chosen clients stand still, each other is stopped by its limit
pub record StopsOthers (plan : Lines) (now : Standing) (choice : Choice) : Type 0 where
  pub within : (client : ℕ) → choice.chosen client ≡ false → made_by now client ≤ choice.limit client
  pub held : (client : ℕ) (line : Step) → choice.chosen client ≡ false →
      slice_get (lines_of plan client) (choice.limit client) ≡ Some line → IsHeld plan now choice line
  pub forward : (client place : ℕ) (line : Step) → IsAhead plan now choice client place line →
      IfSome line.branch (λ (b : Branching). (place < b.otherwise) × (b.otherwise ≤ choice.limit client))
  pub narrow : (client place : ℕ) (line : Step) → IsAhead plan now choice client place line → IsNarrow line.command
  pub patient : (client place : ℕ) (line : Step) → IsAhead plan now choice client place line → IsPatient line.command line.waits

-- the client's line can be made, leads forward, and is independent of all lines ahead
pub record IsFree (asked : List ℕ → Bool) (bounds : Bounds) (plan : Lines) (now : Standing) (choice : Choice)
    (client : ℕ) (line : Step) : Type 0 where
  pub can : can_be_made now line ≡ true
  pub patient : IsPatient line.command line.waits
  pub forward : LeadsForward (made_by now client) line
  pub independent : (client place : ℕ) (ahead : Step) → IsAhead plan now choice client place ahead →
      AreIndependent asked bounds line.command ahead.command

-- after the client's line at this place, whatever its answer is, the client makes the access still
abbrev pub continues : Access → ℕ → Option Branching → Bool
continues a place None = nat_lt place a.last
continues a place (Some branch) = nat_lt place a.last && holds a branch.otherwise

-- the client makes the access, and may end it by the line
abbrev pub may_end : ℕ → List ℕ → Step → Access → Bool
may_end client made line a = (a.client == client) && (is_inside a made && not (continues a (get_or made client 0) line.branch))

-- the client doesn't come to the access while the chosen clients stand still
abbrev pub is_far : Choice → List ℕ → Access → Bool
is_far choice made a = nat_lt (choice.limit a.client) a.first || nat_lt a.last (get_or made a.client 0)

-- If the first access ends now, no race with the other is missed: they are at once now, or aren't before a chosen client goes.
abbrev pub misses_none : Choice → List ℕ → Access → Access → Bool
misses_none choice made a b = not (conflict a b) || (choice.chosen b.client || (is_inside b made || is_far choice made b))

abbrev pub ends_in_time : List Access → Choice → ℕ → List ℕ → Step → Access → Bool
ends_in_time accesses choice client made line a = not (may_end client made line a) || list_all (misses_none choice made a) accesses

-- the client's line may be made before the lines of others, and no race is missed
abbrev pub leaves_no_race : List Access → Choice → ℕ → List ℕ → Step → Bool
leaves_no_race accesses choice client made line = list_all (ends_in_time accesses choice client made line) accesses

-- Each chosen client that is not done is free to go or held, and one is free, and leaves no race. What others do is within the bounds.
pub record IsPersistent (asked : List ℕ → Bool) (bounds : Bounds) (plan : Lines) (now : Standing) (choice : Choice) : Type 0 where
  pub bounded : KeepsWithin bounds plan now choice
  pub stops : StopsOthers plan now choice
  pub chosen : (client : ℕ) (line : Step) → choice.chosen client ≡ true → next_line plan now client ≡ Some line →
      IsFree asked bounds plan now choice client line ⊎ IsHeld plan now choice line
  pub goes : (client : ℕ) × (choice.chosen client ≡ true) × (line : Step) × (next_line plan now client ≡ Some line)
      × IsFree asked bounds plan now choice client line × (leaves_no_race plan.accesses choice client now.made line ≡ true)

-- along every schedule from here, each world has room
abbrev pub IsCalm : Lines → Standing → Type 0
IsCalm plan now = (schedule : Schedule) (later : Standing) → Leads plan now schedule later → IsRoomy (world_of later.history)

-- After a schedule of other clients, each chosen client that was free may still go, and might have gone first. No held client can. The
-- others come further, up to their limits.
pub record ChosenStandStill (asked : List ℕ → Bool) (bounds : Bounds) (plan : Lines) (now : Standing) (choice : Choice)
    (others : Schedule) (later : Standing) : Type 0 where
  pub free : (client : ℕ) (line : Step) → choice.chosen client ≡ true → next_line plan now client ≡ Some line →
      IsFree asked bounds plan now choice client line → MayGoFirst asked plan client line now others later
  pub still : (client : ℕ) → choice.chosen client ≡ true → made_by later client ≡ made_by now client
  pub further : (client : ℕ) → choice.chosen client ≡ false →
      (made_by now client ≤ made_by later client) × (made_by later client ≤ choice.limit client)
  pub held : (client : ℕ) (line : Step) → choice.chosen client ≡ true → next_line plan now client ≡ Some line →
      IsHeld plan now choice line → after_one plan later client ≡ None
