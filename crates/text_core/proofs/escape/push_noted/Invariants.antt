use Rattle.std.proofs.Common.{◌≡◌, ◌++◌, map, take}
use Rattle.text_core.specs.Escape.{noted}
use Rattle.text_core.proofs.escape.push_noted.Given as goal

abbrev pub invariant-loop-byte : goal.invariant-loop-byte
invariant-loop-byte l = l.out.items ≡ l.fn.out.items ++ map noted (take l.byte-index l.text)
