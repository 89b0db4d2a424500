use Rattle.std.proofs.Common.{◌≡◌, false, take}
use Rattle.explore_core.specs.Search.{has_name}
use Rattle.explore_core.proofs.look.has_name.Given as goal

abbrev pub invariant-loop-name : goal.invariant-loop-name
invariant-loop-name l = has_name (take l.name-index l.names) l.file ≡ false
