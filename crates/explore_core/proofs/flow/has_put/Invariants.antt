use Rattle.std.proofs.Common.{◌≡◌, false, take}
use Rattle.explore_core.specs.Flow.{has_put}
use Rattle.explore_core.proofs.flow.has_put.Given as goal

abbrev pub invariant-loop-put : goal.invariant-loop-put
invariant-loop-put l = has_put (take l.put-index l.puts) l.into l.timeline ≡ false
