use Rattle.std.proofs.Common.{take}
use Rattle.explore_core.specs.Flow.{AllowsAll, has_put}
use Rattle.explore_core.proofs.flow.allows_all.Given as goal

abbrev pub invariant-loop-put : goal.invariant-loop-put
invariant-loop-put l = AllowsAll (has_put (take l.put-index l.puts) l.from) (has_put l.others l.into)
