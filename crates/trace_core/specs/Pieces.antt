-- The pieces of a text that a reader gives.
use Rattle.std.specs.Prelude.{◌≡◌, ℕ, ◌<◌, ◌≤◌, ◌⊎◌, Bool, true, false, List, [], ◌++◌, length, drop, Option}
use Rattle.std.specs.Io.KnownBytes.{Consumes, IsAtEnd}
use Rattle.trace_core.specs.declared.item.TheConstants.{PIECE_BYTES}
use Rattle.trace_core.specs.declared.pieces.TheConstants.{HELD_BYTES}
use Rattle.trace_core.specs.Cutting.{MayFollow, HasNoLineFeed}
use Rattle.trace_core.specs.Item.{Meaning}
use Rattle.trace_core.specs.Piece.{first_item, ReadsAs}

-- how far a text was read, and its pieces were passed
pub record Unpassed : Type 0 where
  -- what was read and not passed
  pub bytes : List ℕ
  -- whether that is all that is left of the text
  pub whole : Bool
  -- whether it begins within a line that is too long
  pub long : Bool

-- the bytes already dropped from the line in which these bytes begin: none, or more than a piece may have
pub record WasLetGo (s : Unpassed) (front : List ℕ) : Type 0 where
  pub short : s.long ≡ false → front ≡ []
  pub long : s.long ≡ true → PIECE_BYTES < length front
  pub alone : HasNoLineFeed front

-- the pieces of what was read so far are these and those that are still to come
pub record HasPassed (before now : Option (List ℕ)) (s : Unpassed) (items : List Meaning) : Type 0 where
  pub text : List ℕ
  pub consumed : Consumes before now text
  pub whole : s.whole ≡ true → IsAtEnd now
  pub front : List ℕ
  pub gone : WasLetGo s front
  pub reads : (more : List ℕ) → (later : List Meaning) → MayFollow s.whole more
      → ReadsAs (front ++ s.bytes ++ more) later → ReadsAs (text ++ more) (items ++ later)

-- the text was read to its end, and is these pieces
pub record HasReadAll (before now : Option (List ℕ)) (items : List Meaning) : Type 0 where
  pub text : List ℕ
  pub consumed : Consumes before now text
  pub end : IsAtEnd now
  pub reads : ReadsAs text items

-- the next piece is that item, `len` bytes long, for every continuation of the text
pub record IsNext (s : Unpassed) (item : Meaning) (len : ℕ) : Type 0 where
  pub within : len ≤ length s.bytes
  pub some : s.long ≡ false → 1 ≤ len
  pub first : (front more : List ℕ) → WasLetGo s front → MayFollow s.whole more
      → first_item (front ++ s.bytes ++ more) ≡ (item, drop len s.bytes ++ more)

-- no piece ends before more was read
pub record IsWaiting (s : Unpassed) : Type 0 where
  pub all : s.whole ≡ true → (s.long ≡ false) × (s.bytes ≡ [])
  pub short : length s.bytes ≤ PIECE_BYTES ⊎ HasNoLineFeed s.bytes
  pub long : s.long ≡ true → HasNoLineFeed s.bytes

-- bytes came from the reader, or the end of the text was found
abbrev pub HasReadOn : Unpassed → Unpassed → Option (List ℕ) → Option (List ℕ) → Type 0
HasReadOn old new before after =
    ((bytes : List ℕ) × (1 ≤ length bytes) × Consumes before after bytes) ⊎ ((old.whole ≡ false) × (new.whole ≡ true))

-- without the first bytes
abbrev pub passed : Unpassed → ℕ → Unpassed
passed s len = record { bytes = drop len s.bytes; whole = s.whole; long = false }

-- the places lie within the bytes that are held
pub record AreWithin (start end : ℕ) (held : List ℕ) : Type 0 where
  pub order : start ≤ end
  pub within : end ≤ HELD_BYTES
