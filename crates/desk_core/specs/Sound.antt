-- Sound worlds: the invariant of the world of every history.
use Rattle.std.specs.Prelude.{◌≡◌, ℕ, ◌≤◌, List, length, All}
use Rattle.point_core.specs.declared.entry.Entry.{Entry}
use Rattle.point_core.specs.declared.entry.Usage.TheVariants.{Kernel}
use Rattle.point_core.specs.Reach.{GREATEST, IsAtLeast}
use Rattle.timeline_core.specs.Timeline.{Timeline, reach_of, AreTimelines}
use Rattle.desk_core.specs.theorem.World.{MadeFile, MadeBuffer, World}

-- an entry is of a timeline that was made
abbrev pub IsOfMade : ℕ → Entry → Type 0
IsOfMade made e = (1 ≤ e.point.ctx) × (e.point.ctx ≤ made)

-- an entry of a file has the strongest usage, and is of a timeline that was made
pub record IsFilePoint (made : ℕ) (e : Entry) : Type 0 where
  pub usage : e.usage ≡ Kernel
  pub timeline : IsOfMade made e

-- all that was put into the file is of timelines that were made, and no value has fallen since the file was made
pub record WasMade (ts : List Timeline) (f : MadeFile) : Type 0 where
  pub since : IsAtLeast (reach_of ts) f.made_at
  pub put : All (IsFilePoint (length ts)) f.put

-- all that was put into the buffer is of timelines that were made
abbrev pub IsOfTimelines : ℕ → MadeBuffer → Type 0
IsOfTimelines made b = All (IsOfMade made) b.put

-- files and buffers have points of what was made; names are distinct, there are no more timelines than contexts, and no value
-- passes the greatest
pub record IsSound (world : World) : Type 0 where
  pub made : All (WasMade world.timelines) world.files
  pub buffers : All (IsOfTimelines (length world.timelines)) world.buffers
  pub timelines : AreTimelines world.timelines
  pub values : All (λ (t : Timeline). t.value ≤ GREATEST) world.timelines
