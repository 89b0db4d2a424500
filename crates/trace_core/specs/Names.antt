-- Names by number.
use Rattle.std.specs.Prelude.{ℕ, List, [], Option, option_map, slice_get, unwrap_or}
use Rattle.trace_core.specs.declared.names.Names.{Names}

-- the name of that number
abbrev pub name_at : Names → ℕ → Option (List ℕ)
name_at names n = option_map (λ name. name.items) (slice_get names.names.keys n)

-- the name of that number, or an empty one
abbrev pub name_or_none : Names → ℕ → List ℕ
name_or_none names n = unwrap_or (name_at names n) []
