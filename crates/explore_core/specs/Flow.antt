-- Which timelines' points may be pending in each file and each buffer while the chosen clients of a choice stand still.
use Rattle.std.specs.Prelude.{◌≡◌, ℕ, Bool, true, false, ◌&&◌, ◌||◌, List, Option, None, Some, ⊤}
use Rattle.std.specs.List.{list_all, list_any}
use Rattle.point_core.specs.declared.entry.Point.{Point}
use Rattle.point_core.specs.declared.listing.TopRow.{TopRow}
use Rattle.point_core.specs.Named.{same_name}
use Rattle.point_core.specs.Reach.{is_reached}
use Rattle.timeline_core.specs.Timeline.{Timeline, name_at, reach_of}
use Rattle.resv_core.specs.Resv.{rows_of as table_rows}
use Rattle.dmabuf_core.specs.Buffers.{entries_of}
use Rattle.command_core.specs.declared.command.Command.{Command}
use Rattle.command_core.specs.declared.command.Command.TheVariants as command
use Rattle.desk_core.specs.Keeping.{points_at}
use Rattle.desk_core.specs.theorem.Desk.{DeskState}
use Rattle.explore_core.specs.declared.flow.Flow.{Flow}
use Rattle.explore_core.specs.declared.flow.Put.{Put}
use Rattle.explore_core.specs.Independence.{Bounds}

-- points of that timeline may be pending in the file or buffer of that name
abbrev pub is_put : List ℕ → List ℕ → Put → Bool
is_put into timeline put = same_name put.into into && same_name put.timeline timeline

abbrev pub has_put : List Put → List ℕ → List ℕ → Bool
has_put puts into timeline = list_any (is_put into timeline) puts

-- only points that the flow has may be pending in a file or a buffer
abbrev pub bounds_of : Flow → Bounds
bounds_of flow = record { file = has_put flow.files.items; buffer = has_put flow.buffers.items }

abbrev pub allows_name : (List ℕ → Bool) → Option (List ℕ) → Bool
allows_name allows None = false
allows_name allows (Some timeline) = allows timeline

-- the timeline of that context is allowed
abbrev pub allows_context : List Timeline → (List ℕ → Bool) → ℕ → Bool
allows_context timelines allows ctx = allows_name allows (name_at timelines ctx)

-- the point is reached, or its timeline is allowed
abbrev pub allows_point : List Timeline → (List ℕ → Bool) → Point → Bool
allows_point timelines allows point = is_reached (reach_of timelines) point || allows_context timelines allows point.ctx

abbrev pub allows_row : List Timeline → (List ℕ → Bool) → TopRow → Bool
allows_row timelines allows row = allows_context timelines allows row.ctx

-- what is pending in the file of that name is within the bounds
abbrev pub allows_file : Bounds → DeskState → List ℕ → Bool
allows_file bounds d name = list_all (allows_point d.timelines (bounds.file name)) (points_at d.files name)

-- what is pending in the buffer of that name is within the bounds
abbrev pub allows_buffer : Bounds → DeskState → List ℕ → Bool
allows_buffer bounds d name =
    list_all (allows_row d.timelines (bounds.buffer name)) (table_rows (entries_of d.buffers name) (reach_of d.timelines))

-- each timeline that the one allows the other allows too
abbrev pub AllowsAll : (List ℕ → Bool) → (List ℕ → Bool) → Type 0
AllowsAll one other = (timeline : List ℕ) → one timeline ≡ true → other timeline ≡ true

-- what the command puts into a file or a buffer is within the bounds, if what it takes from others is
abbrev pub RespectsBounds : Bounds → Command → Type 0
RespectsBounds bounds (command.Fence f t p) = bounds.file f t ≡ true
RespectsBounds bounds (command.Merge f a b) =
    AllowsAll (bounds.file a) (bounds.file f) × AllowsAll (bounds.file b) (bounds.file f)
RespectsBounds bounds (command.Add b t p u) = bounds.buffer b t ≡ true
RespectsBounds bounds (command.Import b f flags) = AllowsAll (bounds.file f) (bounds.buffer b)
RespectsBounds bounds (command.Export f b flags) = AllowsAll (bounds.buffer b) (bounds.file f)
RespectsBounds bounds _ = ⊤
