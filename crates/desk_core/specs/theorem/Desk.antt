-- What a desk holds, the histories that it stands for, and the answers that it gives.
use Rattle.std.specs.Prelude.{◌≡◌, ℕ, List, map}
use Rattle.std.specs.List.{AllZip}
use Rattle.timeline_core.specs.Timeline.{Timeline, reach_of}
use Rattle.syncfile_core.specs.SyncFile.{File}
use Rattle.dmabuf_core.specs.Buffers.{Buffer, AreBuffers, names_of, entries_of}
use Rattle.fence_core.specs.Watch.{Watch, Registry, IsWatchOf}
use Rattle.desk_core.specs.theorem.World.{MadeFile, MadeBuffer, MadeWatch, World, buffer_put_set}
use Rattle.desk_core.specs.theorem.Answer.{listed_points}
use Rattle.command_core.specs.declared.answer.Answer.{Answer}
use Rattle.command_core.specs.declared.command.Command.{Command}
use Rattle.desk_core.specs.theorem.History.{world_of, IsHistory, IsAnswer}
use Rattle.point_core.specs.Agreement.{AgreesAbove}

pub record DeskState : Type 0 where
  pub timelines : List Timeline
  pub files : List File
  pub buffers : List Buffer
  pub watches : Registry

-- the kept watches are those of the world, by registration: each has its cookie, and points that agree above the reach with
-- its put set
abbrev pub AreWatchesOf : List ℕ → List Watch → List MadeWatch → Type 0
AreWatchesOf reach ws xs = AllZip (IsWatchOf (λ (x : MadeWatch). x.cookie) (λ (x : MadeWatch). x.put) reach) ws xs

-- the desk holds what the world has: its timelines; its files by name and order, each with the points that it lists;
-- its buffers by name and order, each with a table that is within its places and agrees above the reach with all that
-- was put in; its pending watches by registration, and how many were ever registered
pub record Holds (desk : DeskState) (world : World) : Type 0 where
  pub timelines : desk.timelines ≡ world.timelines
  pub names : map (λ (f : File). f.name) desk.files ≡ map (λ (f : MadeFile). f.name) world.files
  pub points : map (λ (f : File). f.points) desk.files ≡ map listed_points world.files
  pub buffers : names_of desk.buffers ≡ map (λ (b : MadeBuffer). b.name) world.buffers
  pub kept : AreBuffers desk.buffers
  pub tables : (name : List ℕ) →
      AgreesAbove (reach_of world.timelines) (entries_of desk.buffers name) (buffer_put_set world.buffers name)
  pub watches : AreWatchesOf (reach_of world.timelines) desk.watches.pending world.watches
  pub watches_made : desk.watches.made ≡ world.watches_made

-- the list of commands is a history, and the desk holds what its world has
pub record HasHistory (desk : DeskState) (history : List Command) : Type 0 where
  pub accepted : IsHistory history
  pub holds : Holds desk (world_of history)

-- the desk may give that answer: for each history that it stands for it is the command's one answer, or Memory
abbrev pub Answers : DeskState → Command → Answer → Type 0
Answers desk command given = (history : List Command) → HasHistory desk history → IsAnswer history command given
