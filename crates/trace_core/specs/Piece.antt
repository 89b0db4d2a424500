-- The pieces of a text.
use Rattle.std.specs.Prelude.{◌≡◌, ℕ, zero, suc, ◌-◌, ◌==◌, Bool, true, false, ◌||◌, nat_lt, is_some, if◌then◌else◌, List, [], ◌∷◌, ◌++◌, length, Option, None, Some, codes}
use Rattle.std.specs.List.{before_first, after_first}
use Rattle.trace_core.specs.declared.event.Event.{Event as EventKind}
use Rattle.trace_core.specs.declared.item.TheConstants.{END, PIECE_BYTES}
use Rattle.trace_core.specs.declared.piece.TheConstants.{RECORD_LINES}
use Rattle.trace_core.specs.Event.{event_at}
use Rattle.trace_core.specs.Header.{Head, header_of}
use Rattle.trace_core.specs.Item.{Meaning, Event, Other, Unread, Lost}
use Rattle.trace_core.specs.Loss.{lost, note}
use Rattle.trace_core.specs.Record.{Printed, record_of, record_with}
use Rattle.trace_core.specs.Steps.{after, before}

-- whether another event marks the end of the trace
abbrev pub marks_end : List ℕ → Bool
marks_end text = is_some (before text END.now)

abbrev pub event_or_unread : Option Printed → Meaning
event_or_unread None = Unread
event_or_unread (Some r) = Event r

-- a header and its event
abbrev pub meaning_of_event : Head → Option (EventKind × List ℕ) → Meaning
meaning_of_event head None = Other head.time (marks_end head.text)
meaning_of_event head (Some event) = event_or_unread (record_with head event.0 event.1)

abbrev pub meaning_of_header : Option Head → Meaning
meaning_of_header None = Unread
meaning_of_header (Some head) = meaning_of_event head (event_at head.text)

unfoldable pub record_or_other : List ℕ → Meaning
record_or_other piece = meaning_of_header (header_of piece)

abbrev pub lost_or_record : Option (ℕ × Option ℕ) → List ℕ → Meaning
lost_or_record (Some loss) piece = Lost loss.0 loss.1
lost_or_record None piece = record_or_other piece

-- what the piece is
unfoldable pub item_of : List ℕ → Meaning
item_of piece =
    if nat_lt PIECE_BYTES (length piece) then Unread
    else if is_some (after piece (codes "#")) then note piece
    else lost_or_record (lost piece) piece

-- 10 is the line feed
abbrev pub is_line_feed : ℕ → Bool
is_line_feed b = b == 10

-- the first line of a text, and what follows it
abbrev pub first_line : List ℕ → List ℕ
first_line text = before_first is_line_feed text

abbrev pub after_line : List ℕ → List ℕ
after_line text = after_first is_line_feed text

-- whether a line begins as a record
unfoldable pub begins_record : List ℕ → Bool
begins_record line = is_some (header_of line)

abbrev pub record_or : Option Printed → List ℕ → Option (Printed × List ℕ) → Option (Printed × List ℕ)
record_or None rest later = later
record_or (Some r) rest later = Some (r, rest)

-- the record that these lines are together with the next line, or the next few, if none of them begins as a record
unfoldable pub joined_from : ℕ → List ℕ → List ℕ → Option (Printed × List ℕ)
joined_from zero lines rest = None
joined_from (suc n) lines [] = None
joined_from (suc n) lines (x ∷ xs) =
    let line = first_line (x ∷ xs) in
    let piece = lines ++ 10 ∷ line in
    if nat_lt PIECE_BYTES (length piece) || begins_record line then None
    else record_or (record_of piece) (after_line (x ∷ xs)) (joined_from n piece (after_line (x ∷ xs)))

abbrev pub is_unread : Meaning → Bool
is_unread Unread = true
is_unread _ = false

abbrev pub joined_or_unread : Option (Printed × List ℕ) → List ℕ → Meaning × List ℕ
joined_or_unread None rest = (Unread, rest)
joined_or_unread (Some joined) rest = (Event joined.0, joined.1)

-- the line with the next few if they are a record together, else only the line
abbrev pub joined_or_alone : List ℕ → List ℕ → Meaning × List ℕ
joined_or_alone line rest = joined_or_unread (joined_from (RECORD_LINES - 1) line rest) rest

-- an unread line that begins as a record may continue in the next lines
abbrev pub with_lines : Meaning → List ℕ → List ℕ → Meaning × List ℕ
with_lines Unread line rest = if begins_record line then joined_or_alone line rest else (Unread, rest)
with_lines item line rest = (item, rest)

-- what the first piece of a text is, and what follows it
unfoldable pub first_item : List ℕ → Meaning × List ℕ
first_item text = with_lines (item_of (first_line text)) (first_line text) (after_line text)

-- the text, piece after piece, is these
abbrev pub ReadsAs : List ℕ → List Meaning → Type 0
ReadsAs text [] = text ≡ []
ReadsAs [] (item ∷ items) = ⊥
ReadsAs (x ∷ xs) (item ∷ items) =
    ((first_item (x ∷ xs)).0 ≡ item) × ReadsAs (first_item (x ∷ xs)).1 items
