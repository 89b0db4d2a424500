use Rattle.std.proofs.Common.{◌≡◌, ◌++◌, map, take}
use Rattle.explore_report.specs.Turns.{in_round}
use Rattle.explore_report.proofs.unrolling.push_round.Given as goal

abbrev pub invariant-loop-turn : goal.invariant-loop-turn
invariant-loop-turn l = l.made.items ≡ l.fn.made.items ++ map (in_round l.round) (take l.turn-index l.body)
