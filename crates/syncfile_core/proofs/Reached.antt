-- A file's status, by the set that it abstracts to.
use Rattle.std.proofs.Common.{List}
use Rattle.std.specs.List.{list_all}
use Rattle.point_core.specs.Reach.{is_reached}
use Rattle.point_core.specs.declared.clocks.Clock.{Clock}
use Rattle.point_core.specs.Clocks.{reach_of_clocks, some_cancelled}
use Rattle.point_core.proofs.Ticking.{status_of-not_active}
use Rattle.point_core.proofs.Agreement.{AgreesAbove-later, AgreesAbove-sym}
use Rattle.point_core.proofs.Reached.{IsReached-AgreesAbove, list_all-IsReached}
use Rattle.syncfile_core.specs.SyncFile.{File}
use Rattle.syncfile_core.specs.Status.{ReportsSetsOf}

-- a file is no longer active exactly if each point of its set is reached
pub ReportsSetsOf-always : (f : File) (clocks : List Clock) → ReportsSetsOf f clocks
ReportsSetsOf-always f clocks = λ set stands above.
    let reach = reach_of_clocks clocks in
    let agrees = AgreesAbove-later above stands in
    let listed = list_all-IsReached f.points reach in
    status_of-not_active (list_all (is_reached reach) f.points) (some_cancelled clocks f.points) (
      λ is. IsReached-AgreesAbove 0 agrees (listed.0 is),
      λ reached. listed.1 (IsReached-AgreesAbove 0 (AgreesAbove-sym agrees) reached),
    )
