-- What can be seen of a desk, now or later.
use Rattle.std.specs.Prelude.{◌≡◌, ℕ, Bool, true, List, length, count_by, option_map}
use Rattle.std.specs.List.{AllZip}
use Rattle.point_core.specs.Agreement.{AgreesAbove, as_entries}
use Rattle.timeline_core.specs.Timeline.{reach_of}
use Rattle.syncfile_core.specs.SyncFile.{File, file_at}
use Rattle.syncfile_core.specs.Files.{is_named}
use Rattle.dmabuf_core.specs.Buffers.{names_of, entries_of}
use Rattle.fence_core.specs.Watch.{Watch}
use Rattle.desk_core.specs.theorem.Desk.{DeskState}
use Rattle.desk_core.specs.Keeping.{points_at}

-- the same cookie, and the same points to come
pub record WaitsAlike (reach : List ℕ) (x y : Watch) : Type 0 where
  pub cookie : x.cookie ≡ y.cookie
  pub points : AgreesAbove reach (as_entries x.points) (as_entries y.points)

-- The timelines are equal. The files have the same names, in any order; buffers and watches are in the same order. Each file, buffer
-- and watch has the same pending points, and a file that `info` may query lists the same points.
pub record LooksAlike (asked : List ℕ → Bool) (d e : DeskState) : Type 0 where
  pub timelines : d.timelines ≡ e.timelines
  pub file_counts : (name : List ℕ) → count_by (is_named name) d.files ≡ count_by (is_named name) e.files
  pub files_made : length d.files ≡ length e.files
  pub files : (name : List ℕ)
      → AgreesAbove (reach_of d.timelines) (as_entries (points_at d.files name)) (as_entries (points_at e.files name))
  pub lists : (name : List ℕ) → asked name ≡ true
      → option_map (λ (f : File). f.points) (file_at d.files name) ≡ option_map (λ (f : File). f.points) (file_at e.files name)
  pub buffer_names : names_of d.buffers ≡ names_of e.buffers
  pub buffers : (name : List ℕ) → AgreesAbove (reach_of d.timelines) (entries_of d.buffers name) (entries_of e.buffers name)
  pub watches : AllZip (WaitsAlike (reach_of d.timelines)) d.watches.pending e.watches.pending
  pub watches_made : d.watches.made ≡ e.watches.made
