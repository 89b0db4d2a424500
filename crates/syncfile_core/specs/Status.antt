-- A file's status by the clocks.
use Rattle.std.specs.Prelude.{◌≢◌, ◌↔◌, List, [], ◌∷◌, map, None, Some}
use Rattle.point_core.specs.declared.entry.Point.{Point}
use Rattle.point_core.specs.Reach.{IsAtLeast}
use Rattle.point_core.specs.Agreement.{IsReached}
use Rattle.point_core.specs.declared.entry.Entry.{Entry}
use Rattle.point_core.specs.declared.status.Status.TheVariants.{Active, Signalled}
use Rattle.point_core.specs.declared.clocks.Clock.{Clock}
use Rattle.point_core.specs.Clocks.{reach_of_clocks, status_at, common_status}
use Rattle.syncfile_core.specs.declared.status.FenceInfo.{FenceInfo}
use Rattle.syncfile_core.specs.declared.status.FileInfo.{FileInfo}
use Rattle.syncfile_core.specs.SyncFile.{File, StandsFor}

abbrev pub fence_of : List Clock → Point → FenceInfo
fence_of clocks p = record { ctx = Some p.ctx; point = p.value; status = status_at clocks p }

-- the fence that was signalled from the start
abbrev pub stub : FenceInfo
stub = record { ctx = None; point = 0; status = Signalled }

-- a fence for each point, and the stub if there is none
abbrev pub fences_of : List Point → List Clock → List FenceInfo
fences_of [] clocks = stub ∷ []
fences_of (p ∷ ps) clocks = map (fence_of clocks) (p ∷ ps)

abbrev pub info_of : File → List Clock → FileInfo
info_of f clocks = record { name = f.name; status = common_status clocks f.points; fences = fences_of f.points clocks }

-- for each set that the file abstracts to, if its floor was reached: no longer active exactly if each point of the set
-- is reached
abbrev pub ReportsSetsOf : File → List Clock → Type 0
ReportsSetsOf f clocks =
    (set : List Entry) → StandsFor f set → IsAtLeast (reach_of_clocks clocks) f.floor
    → ((common_status clocks f.points ≢ Active) ↔ IsReached set 0 (reach_of_clocks clocks))
