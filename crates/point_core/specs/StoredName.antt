-- A name is determined by its bytes.
use Rattle.std.specs.Prelude.{◌≡◌, ℕ, List}
use Rattle.std.proofs.Common.{ap}
use Rattle.point_core.specs.declared.name.Name.TheInside.{Inside}
use Rattle.point_core.specs.Name.{IsStored, bytes_of, stored_of}

abbrev pub inside_of : List ℕ → Inside
inside_of bytes = record { stored = stored_of bytes }

abbrev pub made : List ℕ → Inside
made stored = record { stored = stored }

pub inside_of_stored : (n : Inside) → IsStored n.stored → inside_of (bytes_of n.stored) ≡ n
inside_of_stored n h = ap made h.1
