use Rattle.std.proofs.Common.{◌≡◌, map, take}
use Rattle.trace_script.specs.Names.{safe_byte}
use Rattle.trace_script.proofs.safe_names.safe.Given as goal

abbrev pub invariant-loop-byte : goal.invariant-loop-byte
invariant-loop-byte l = l.name.items ≡ map safe_byte (take l.byte-index l.byte-items)
