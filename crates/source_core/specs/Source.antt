-- The bytes of an input's reader, if the reader beneath it knows them.
use Rattle.std.specs.Prelude.{◌≡◌, ℕ, List, Option, Some, None}
use Rattle.source_core.specs.declared.input.Source.{Source}
use Rattle.source_core.specs.declared.input.Source.TheVariants.{StandardInput, File}

module _ {R S F D : Type 0} (of_file : F → Option (List ℕ)) (of_input : S → Option (List ℕ)) where
  -- the bytes of standard input, or of the file
  abbrev pub bytes_of : Source R S F D → Option (List ℕ)
  bytes_of (StandardInput input) = of_input input
  bytes_of (File rt name file) = of_file file

module _ {F S : Type 0} (of_file : F → Option (List ℕ)) (of_input : S → Option (List ℕ)) where
  -- an input has these bytes when it is opened: standard input's, or a file's. Only the system knows which file has a
  -- name.
  abbrev pub HasUnread : Option (List ℕ) → S → Option (List ℕ) → Type 0
  HasUnread None input unread = unread ≡ of_input input
  HasUnread (Some name) input unread = (file : F) × (unread ≡ of_file file)
