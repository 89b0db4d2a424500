use Rattle.std.proofs.Common.{◌≡◌, ◌+◌, drop}
use Rattle.std.specs.List.{prefix_len}
use Rattle.explore_core.specs.Shortening.{comes_before}
use Rattle.explore_core.proofs.turns.count_before.Given as goal

abbrev pub invariant-loop-at : goal.invariant-loop-at
invariant-loop-at l = record {
  counted : l.count + prefix_len (comes_before l.turn) (drop l.at l.lines) ≡ prefix_len (comes_before l.turn) (drop l.place l.lines);
  at : l.place + l.count ≡ l.at;
}
