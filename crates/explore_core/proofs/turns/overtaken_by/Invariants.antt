use Rattle.std.proofs.Common.{◌≡◌, drop, get_or, map}
use Rattle.std.specs.List.{prefix_len, range_with_len, sum_by}
use Rattle.explore_core.specs.Schedule.{lines_of}
use Rattle.explore_core.specs.Shortening.{comes_before}
use Rattle.explore_core.proofs.turns.overtaken_by.Given as goal

abbrev pub invariant-loop-client : goal.invariant-loop-client
invariant-loop-client l =
    l.overtaken ≡ sum_by (prefix_len (comes_before l.turn)) (map (λ client. drop (get_or l.made client 0) (lines_of l.plan client)) (range_with_len 0 l.client))
