-- Increments of timelines by name, and the sums of them.
use Rattle.std.specs.Prelude.{◌≡◌, ℕ, if◌then◌else◌, List, All}
use Rattle.std.specs.List.{sum_by}
use Rattle.point_core.specs.Named.{same_name}
use Rattle.timeline_core.specs.Timeline.{Timeline}

-- an increment of the timeline of that name
pub record Increment : Type 0 where
  pub name : List ℕ
  pub by : ℕ

abbrev pub increment : List ℕ → ℕ → Increment
increment name by = record { name = name; by = by }

-- the sum of the increments of the timeline of that name
abbrev pub incremented : List Increment → List ℕ → ℕ
incremented is name = sum_by (λ i. if same_name name i.name then i.by else 0) is

-- each value is the sum of the increments of its timeline
abbrev pub AreSums : List Timeline → List Increment → Type 0
AreSums ts is = All (λ (t : Timeline). t.value ≡ incremented is t.name) ts
