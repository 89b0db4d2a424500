use Rattle.std.proofs.Common.{◌≡◌, map, take}
use Rattle.explore_core.specs.Search.{buffer_look}
use Rattle.explore_core.proofs.look.buffer_looks.Given as goal

abbrev pub invariant-loop-name : goal.invariant-loop-name
invariant-loop-name l = l.looks.items ≡ map (buffer_look l.desk) (take l.name-index l.names)
