use Rattle.std.proofs.Common.{◌≡◌}
use Rattle.draw_core.proofs.hearing.hear_notes.Given as goal

abbrev pub invariant-loop-number : goal.invariant-loop-number
invariant-loop-number l = record {
  refused : l.history.refused ≡ l.fn.history.refused;
}
