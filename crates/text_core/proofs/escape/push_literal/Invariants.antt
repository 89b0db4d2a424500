use Rattle.std.proofs.Common.{◌≡◌, ◌++◌, take}
use Rattle.text_core.specs.Escape.{literal}
use Rattle.text_core.proofs.escape.push_literal.Given as goal

abbrev pub invariant-loop-byte : goal.invariant-loop-byte
invariant-loop-byte l = l.out.items ≡ l.fn.out.items ++ literal (take l.byte-index l.text)
