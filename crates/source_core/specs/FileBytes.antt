-- The bytes that are read from a file, and written to one.
use Rattle.std.specs.Prelude.{◌≡◌, ℕ, List, take, Option, IfSome}
use Rattle.std.specs.Io.KnownBytes.{Appends}

module _ {F : Type 0} (of_file : F → Option (List ℕ)) where
  -- the first unread bytes of a file, at most this many. Only the system knows which file has a name.
  abbrev pub HasFront : ℕ → List ℕ → Type 0
  HasFront limit bytes = (file : F) × IfSome (of_file file) (λ unread. bytes ≡ take limit unread)

  -- a file was given these bytes, after those that it had
  abbrev pub WasGiven : List ℕ → Type 0
  WasGiven bytes = (before : F) × (after : F) × Appends (of_file before) (of_file after) bytes
