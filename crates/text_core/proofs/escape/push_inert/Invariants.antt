use Rattle.std.proofs.Common.{◌≡◌, ◌++◌, take}
use Rattle.text_core.specs.Escape.{inert}
use Rattle.text_core.proofs.escape.push_inert.Given as goal

abbrev pub invariant-loop-byte : goal.invariant-loop-byte
invariant-loop-byte l = l.out.items ≡ l.fn.out.items ++ inert (take l.byte-index l.text)
