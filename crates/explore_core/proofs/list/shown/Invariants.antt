use Rattle.std.proofs.Common.{◌≡◌, take}
use Rattle.explore_core.proofs.list.shown.Given as goal

abbrev pub invariant-loop-client : goal.invariant-loop-client
invariant-loop-client l = l.shown.items ≡ take l.client-index l.clients
