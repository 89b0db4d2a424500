use Rattle.std.proofs.Common.{◌≡◌, true, ◌⊎◌}
use Rattle.point_core.specs.Reach.{reaching}
use Rattle.fence_core.specs.declared.watches.point_index.point_queue.Standing.{Standing as Stands}
use Rattle.fence_core.specs.PointIndex.{has, is_low, IsRising}
use Rattle.fence_core.specs.Reported.{IsReported, HasGathered}
use Rattle.fence_core.proofs.watches.point_index.firing.report_low.Given as goal

abbrev pub invariant-loop-watch : goal.invariant-loop-watch
invariant-loop-watch l =
    (goal.iterator-loop-watch).can_next l.watch-iterator ×
    (goal.iterator-loop-watch).is_finite l.watch-iterator ×
    HasGathered l.pending.entries (reaching l.reach l.point) l.fn.fired.items l.fired.items ×
    IsRising l.watch-iterator ×
    ((s : Stands) → is_low l.fn.value s ≡ true → has l.queue s ≡ true → (has l.watch-iterator s ≡ true) ⊎ IsReported l.pending.entries (reaching l.reach l.point) l.fired.items s.registration)
