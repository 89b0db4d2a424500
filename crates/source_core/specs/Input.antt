-- The input that an argument names.
use Rattle.std.specs.Prelude.{ℕ, List, Option, Some, None, codes, if◌then◌else◌}
use Rattle.std.specs.Str.{bytes_eq}
use Rattle.source_core.specs.declared.input.Input.{Input}
use Rattle.source_core.specs.declared.input.Input.TheVariants as input

-- the name of the file; none for `-`, standard input
abbrev pub file_named : Option (List ℕ) → Option (List ℕ)
file_named None = None
file_named (Some name) = if bytes_eq name (codes "-") then None else Some name

abbrev pub file_of : Input → Option (List ℕ)
file_of input.StandardInput = None
file_of (input.File name) = Some name.now
