-- A file is signalled if all that was put into it is, and so is a buffer.
use Rattle.std.proofs.Common.{◌≡◌, ℕ, List, Bool}
use Rattle.std.specs.Prelude.{◌↔◌}
use Rattle.point_core.specs.Agreement.{as_entries, IsReached, all_reached}
use Rattle.point_core.proofs.Agreement.{AgreesAbove-sym}
use Rattle.std.proofs.Common.{sym, ap, ◌∙◌}
use Rattle.point_core.specs.declared.clocks.Clock.{Clock}
use Rattle.point_core.specs.declared.entry.Entry.{Entry}
use Rattle.point_core.specs.declared.entry.Point.{Point}
use Rattle.point_core.specs.Clocks.{reach_of_clocks, status_of, some_cancelled, common_status}
use Rattle.point_core.proofs.Reached.{IsReached-AgreesAbove, all_reached-AgreesAbove, all_reached-points}
use Rattle.timeline_core.specs.Timeline.{reach_of}
use Rattle.dmabuf_core.specs.Buffers.{entries_of}
use Rattle.desk_core.specs.theorem.World.{World, put_set, buffer_put_set}
use Rattle.desk_core.specs.theorem.Desk.{DeskState}
use Rattle.desk_core.specs.Keeping.{points_at, Keeps}
use Rattle.desk_core.proofs.Keeping.{AgreesAbove-keeps}

pub IsReached-keeps : {desk : DeskState} {world : World} → Keeps desk world → (name : List ℕ) → IsReached (as_entries (points_at desk.files name)) 0 (reach_of world.timelines) ↔ IsReached (put_set world.files name) 0 (reach_of world.timelines)
IsReached-keeps {desk} {world} k name = (IsReached-AgreesAbove 0 (AgreesAbove-keeps k name), IsReached-AgreesAbove 0 (AgreesAbove-sym (AgreesAbove-keeps k name)))

-- all that was put into the file of that name is reached
abbrev pub put_reached : World → List ℕ → Bool
put_reached world name = all_reached (reach_of world.timelines) 0 (put_set world.files name)

pub all_reached-keeps : {desk : DeskState} {world : World} → Keeps desk world → (name : List ℕ) → all_reached (reach_of world.timelines) 0 (as_entries (points_at desk.files name)) ≡ all_reached (reach_of world.timelines) 0 (put_set world.files name)
all_reached-keeps {desk} {world} k name = all_reached-AgreesAbove 0 (AgreesAbove-keeps k name) (AgreesAbove-sym (AgreesAbove-keeps k name))

pub IsReached-table : {desk : DeskState} {world : World} → Keeps desk world → (name : List ℕ) (usage : ℕ) → IsReached (entries_of desk.buffers name) usage (reach_of world.timelines) ↔ IsReached (buffer_put_set world.buffers name) usage (reach_of world.timelines)
IsReached-table {desk} {world} k name usage = (IsReached-AgreesAbove usage (k.holds.tables name), IsReached-AgreesAbove usage (AgreesAbove-sym (k.holds.tables name)))

-- the status of points by all that was put, if these are reached when all of that is
pub common_status-reported : (clocks : List Clock) (ps : List Point) (put : List Entry) → all_reached (reach_of_clocks clocks) 0 (as_entries ps) ≡ all_reached (reach_of_clocks clocks) 0 put → common_status clocks ps ≡ status_of (all_reached (reach_of_clocks clocks) 0 put) (some_cancelled clocks ps)
common_status-reported clocks ps put same = ap (λ b. status_of b (some_cancelled clocks ps)) (sym (all_reached-points (reach_of_clocks clocks) ps) ∙ same)
