use Rattle.std.proofs.Common.{◌≡◌}
use Rattle.draw_core.proofs.tasks.enter_tasks.Given as goal

abbrev pub invariant-loop-wait : goal.invariant-loop-wait
invariant-loop-wait l = record {
  refused : l.history.refused ≡ l.fn.history.refused;
}
