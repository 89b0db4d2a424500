use Rattle.std.proofs.Common.{◌≡◌, ◌++◌, take}
use Rattle.text_core.specs.Part.{text_of}
use Rattle.text_core.proofs.part.push_parts.Given as goal

abbrev pub invariant-loop-part : goal.invariant-loop-part
invariant-loop-part l = l.text.items ≡ l.fn.text.items ++ text_of (take l.part-index l.parts)
