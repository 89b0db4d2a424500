-- The parts of a text, as bytes.
use Rattle.std.specs.Prelude.{ℕ, List, map, decimal}
use Rattle.std.specs.List.{flat_map}
use Rattle.text_core.specs.declared.part.Part.{Part}
use Rattle.text_core.specs.declared.part.Part.TheVariants as part
use Rattle.text_core.specs.Escape.{inert, literal, noted}
use Rattle.text_core.specs.Number.{seconds}

abbrev pub bytes_of : Part → List ℕ
bytes_of (part.Text text) = text.now
bytes_of (part.Bytes bytes) = bytes.now
bytes_of (part.Number n) = decimal n
bytes_of (part.Seconds time) = seconds time
bytes_of (part.Literal bytes) = literal bytes.now
bytes_of (part.Noted bytes) = map noted bytes.now
bytes_of (part.Inert bytes) = inert bytes.now

abbrev pub text_of : List Part → List ℕ
text_of parts = flat_map bytes_of parts
