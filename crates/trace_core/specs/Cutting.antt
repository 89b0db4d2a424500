-- The first piece of a text that may be there only up to some byte.
use Rattle.std.specs.Prelude.{◌≡◌, ℕ, suc, ◌+◌, ◌-◌, ◌≤◌, ◌⊎◌, Bool, true, false, List, [], ◌∷◌, ◌++◌, length, take, drop, Option, None, Some}
use Rattle.std.specs.List.{position_or_len}
use Rattle.trace_core.specs.declared.item.TheConstants.{PIECE_BYTES}
use Rattle.trace_core.specs.declared.piece.Joining.{Joining}
use Rattle.trace_core.specs.declared.piece.Joining.TheVariants.{Waits, Alone, Whole, Longer}
use Rattle.trace_core.specs.declared.piece.Piece.{Piece}
use Rattle.trace_core.specs.Item.{Meaning, meaning_of}
use Rattle.trace_core.specs.Piece.{is_line_feed, joined_from, joined_or_alone, first_item}
use Rattle.trace_core.specs.Record.{Printed, printed}

-- more that may follow: nothing where the text is whole
abbrev pub MayFollow : Bool → List ℕ → Type 0
MayFollow whole more = whole ≡ true → more ≡ []

abbrev pub HasNoLineFeed : List ℕ → Type 0
HasNoLineFeed bytes = position_or_len is_line_feed bytes ≡ length bytes

-- the bytes begin with the line and its line feed, together `len` bytes
abbrev pub EndsByLineFeed : List ℕ → List ℕ → ℕ → Type 0
EndsByLineFeed bytes line len = (bytes ≡ line ++ 10 ∷ drop len bytes) × (len ≡ length line + 1)

-- the line is all of the bytes, and the text ends with it
abbrev pub EndsText : List ℕ → Bool → List ℕ → ℕ → Type 0
EndsText bytes whole line len = (line ≡ bytes) × (len ≡ length bytes) × (whole ≡ true)

-- the line comes first, `len` bytes with its line feed, or it is the last line of the text
pub record IsLine (bytes : List ℕ) (whole : Bool) (line : List ℕ) (len : ℕ) : Type 0 where
  pub some : 1 ≤ len
  pub within : len ≤ length bytes
  pub alone : HasNoLineFeed line
  pub ends : EndsByLineFeed bytes line len ⊎ EndsText bytes whole line len

-- `lines` are the bytes up to the line feed before `end`, or all of the text
pub record AreLines (bytes : List ℕ) (whole : Bool) (lines : List ℕ) (end : ℕ) : Type 0 where
  pub some : 1 ≤ end
  pub within : end ≤ length bytes
  pub ends : (take end bytes ≡ lines ++ 10 ∷ []) ⊎ ((end ≡ length bytes) × (whole ≡ true))

-- joining the lines with those after `end` gives `given`, for every continuation of the text
abbrev pub JoinsTo : List ℕ → Bool → List ℕ → ℕ → (ℕ → List ℕ → Option (Printed × List ℕ)) → Type 0
JoinsTo bytes whole lines end given =
    (n : ℕ) (more : List ℕ) → MayFollow whole more → joined_from (suc n) lines (drop end bytes ++ more) ≡ given n more

-- what the lines are with the next line, for every continuation of the text
abbrev pub IsJoining : List ℕ → Bool → List ℕ → ℕ → Joining → Type 0
IsJoining bytes whole lines end Waits = (whole ≡ false) × (length bytes ≤ PIECE_BYTES)
IsJoining bytes whole lines end Alone = JoinsTo bytes whole lines end (λ n more. None)
IsJoining bytes whole lines end (Whole r next) =
    (end ≤ next) × (next ≤ length bytes)
    × JoinsTo bytes whole lines end (λ n more. Some (printed r, drop next bytes ++ more))
IsJoining bytes whole lines end (Longer next) =
    (end ≤ next) × ((longer : List ℕ) × AreLines bytes whole longer next
    × JoinsTo bytes whole lines end (λ n more. joined_from n longer (drop next bytes ++ more)))

-- the piece has at least one byte, and no more than there are
abbrev pub Takes : List ℕ → Piece → Type 0
Takes bytes piece = (1 ≤ piece.length) × (piece.length ≤ length bytes)

-- what the piece is, and the bytes after it, for one continuation of the text
abbrev pub piece_and_rest : List ℕ → Piece → List ℕ → Meaning × List ℕ
piece_and_rest bytes piece more = (meaning_of piece.item, drop piece.length bytes ++ more)

-- the piece is made of the first lines, for every continuation of the text
abbrev pub IsJoined : List ℕ → Bool → List ℕ → ℕ → Piece → Type 0
IsJoined bytes whole line first piece =
    (more : List ℕ) → MayFollow whole more →
    joined_or_alone line (drop first bytes ++ more) ≡ piece_and_rest bytes piece more

-- the piece is the text's first, for every continuation of the text
abbrev pub IsFirstPiece : List ℕ → Bool → Piece → Type 0
IsFirstPiece bytes whole piece =
    (more : List ℕ) → MayFollow whole more → first_item (bytes ++ more) ≡ piece_and_rest bytes piece more

-- no piece ends before more was read
pub record NeedsMore (bytes : List ℕ) (whole : Bool) : Type 0 where
  pub all : whole ≡ true → bytes ≡ []
  pub short : length bytes ≤ PIECE_BYTES ⊎ HasNoLineFeed bytes

-- the rest of a line is `len` bytes, the last of them its line feed
abbrev pub RunsToLineFeed : List ℕ → ℕ → Type 0
RunsToLineFeed bytes len = (1 ≤ len) × (position_or_len is_line_feed bytes ≡ len - 1)

-- the rest of a line is all of the bytes, and the text ends with it
abbrev pub RunsToTheEnd : List ℕ → Bool → ℕ → Type 0
RunsToTheEnd bytes whole len = HasNoLineFeed bytes × (len ≡ length bytes) × (whole ≡ true)

-- the bytes that the rest of a line takes, with its line feed, or all of the text
pub record IsRestOfLine (bytes : List ℕ) (whole : Bool) (len : ℕ) : Type 0 where
  pub within : len ≤ length bytes
  pub ends : RunsToLineFeed bytes len ⊎ RunsToTheEnd bytes whole len
