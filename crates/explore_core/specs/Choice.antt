-- A choice of clients as a search keeps it, and what is checked of it: client by client, and line by line.
use Rattle.std.specs.Prelude.{◌≡◌, ◌⊎◌, ℕ, ◌<◌, ◌≤◌, Bool, true, false, List, Some, IfSome, get_or, slice_get}
use Rattle.point_core.specs.declared.entry.Point.{Point}
use Rattle.point_core.specs.Reach.{is_reached}
use Rattle.timeline_core.specs.Timeline.{name_at, reach_of}
use Rattle.command_core.specs.declared.command.Command.{Command}
use Rattle.desk_core.specs.theorem.History.{world_of}
use Rattle.explore_core.specs.Branch.{Branching}
use Rattle.explore_core.specs.declared.choice.Choice.{Choice as KeptChoice}
use Rattle.explore_core.specs.declared.persistence.Matter.{Matter}
use Rattle.explore_core.specs.declared.persistence.Matter.TheVariants as matter
use Rattle.explore_core.specs.declared.plan.Step.{Step}
use Rattle.explore_core.specs.Flow.{RespectsBounds}
use Rattle.explore_core.specs.Independence.{AreIndependent, Bounds, IsNarrow}
use Rattle.explore_core.specs.Moving.{IsPatient}
use Rattle.explore_core.specs.Persistent.{Choice, IsAhead, IsFree, IsHeld, changes_file, changes_timeline, leaves_no_race}
use Rattle.explore_core.specs.Schedule.{Lines, Standing, lines_of, made_by, next_line}

-- the clients that are chosen, and the limits of the others
abbrev pub choice_of : KeptChoice → Choice
choice_of kept = record {
  chosen = λ client. get_or kept.chosen.items client false;
  limit = λ client. get_or kept.limits.items client 0;
}

-- the command leaves the matter as it is
abbrev pub Leaves : (List ℕ → Bool) → Bounds → Matter → Command → Type 0
Leaves asked bounds (matter.File name) c = changes_file c name ≡ false
Leaves asked bounds (matter.Timeline name) c = changes_timeline c name ≡ false
Leaves asked bounds (matter.Line line) c = AreIndependent asked bounds line c

-- the client's line at this place leaves the matter as it is
abbrev pub LeavesAt : (List ℕ → Bool) → Bounds → Lines → ℕ → Matter → ℕ → Type 0
LeavesAt asked bounds plan client what place = (line : Step) →
    slice_get (lines_of plan client) place ≡ Some line → Leaves asked bounds what line.command

-- each line that the client has ahead leaves the matter as it is
abbrev pub ClientLeaves : (List ℕ → Bool) → Bounds → Lines → Standing → Choice → Matter → ℕ → Type 0
ClientLeaves asked bounds plan now choice what client = (place : ℕ) (line : Step) →
    IsAhead plan now choice client place line → Leaves asked bounds what line.command

-- each line ahead leaves the matter as it is
abbrev pub AllLeave : (List ℕ → Bool) → Bounds → Lines → Standing → Choice → Matter → Type 0
AllLeave asked bounds plan now choice what = (client : ℕ) → ClientLeaves asked bounds plan now choice what client

-- after the line at this place the client is further, and not past its limit, and what is pending is within the bounds
pub record IsOrderly (bounds : Bounds) (limit place : ℕ) (line : Step) : Type 0 where
  pub forward : IfSome line.branch (λ (b : Branching). (place < b.otherwise) × (b.otherwise ≤ limit))
  pub narrow : IsNarrow line.command
  pub patient : IsPatient line.command line.waits
  pub respects : RespectsBounds bounds line.command

-- the client's line at this place does so
abbrev pub IsOrderlyAt : Bounds → Lines → ℕ → ℕ → ℕ → Type 0
IsOrderlyAt bounds plan client limit place = (line : Step) →
    slice_get (lines_of plan client) place ≡ Some line → IsOrderly bounds limit place line

-- the client is stopped by its limit while the chosen clients stand still
pub record IsStopped (bounds : Bounds) (plan : Lines) (now : Standing) (choice : Choice) (client : ℕ) : Type 0 where
  pub within : made_by now client ≤ choice.limit client
  pub held : (line : Step) → slice_get (lines_of plan client) (choice.limit client) ≡ Some line → IsHeld plan now choice line
  pub orderly : (place : ℕ) → made_by now client ≤ place → place < choice.limit client →
      IsOrderlyAt bounds plan client (choice.limit client) place

-- the client is done, or its line is free to go or held
abbrev pub IsFreeOrHeld : (List ℕ → Bool) → Bounds → Lines → Standing → Choice → ℕ → Type 0
IsFreeOrHeld asked bounds plan now choice client = (line : Step) → next_line plan now client ≡ Some line →
    IsFree asked bounds plan now choice client line ⊎ IsHeld plan now choice line

-- what a persistent choice asks of each client
pub record IsSettled (asked : List ℕ → Bool) (bounds : Bounds) (plan : Lines) (now : Standing) (choice : Choice)
    (client : ℕ) : Type 0 where
  pub chosen : choice.chosen client ≡ true → IsFreeOrHeld asked bounds plan now choice client
  pub other : choice.chosen client ≡ false → IsStopped bounds plan now choice client

-- one of the chosen clients is free to go, and leaves no race
abbrev pub OneGoes : (List ℕ → Bool) → Bounds → Lines → Standing → Choice → Type 0
OneGoes asked bounds plan now choice = (client : ℕ) × (choice.chosen client ≡ true) × (line : Step)
    × (next_line plan now client ≡ Some line) × IsFree asked bounds plan now choice client line
    × (leaves_no_race plan.accesses choice client now.made line ≡ true)

-- The point is of a timeline that has not reached it, and no line ahead changes that timeline.
pub record StaysPending (plan : Lines) (now : Standing) (choice : Choice) (point : Point) : Type 0 where
  pub pending : is_reached (reach_of (world_of now.history).timelines) point ≡ false
  pub timeline : List ℕ
  pub of : name_at (world_of now.history).timelines point.ctx ≡ Some timeline
  pub kept : (client place : ℕ) (line : Step) → IsAhead plan now choice client place line →
      changes_timeline line.command timeline ≡ false
