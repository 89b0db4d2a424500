use Rattle.std.proofs.Common.{[]}
use Rattle.device_core.proofs.Waking.{HavePassed}
use Rattle.device_core.proofs.woken.wakes_some.Given as goal

abbrev pub invariant-loop-due : goal.invariant-loop-due
invariant-loop-due l =
    (goal.iterator-loop-due).can_next l.due-iterator ×
    (goal.iterator-loop-due).is_finite l.due-iterator ×
    HavePassed l.timeline l.value l.points.keys l.files.entries l.due-iterator []
