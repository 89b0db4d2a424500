-- What a line says to the reader of a plan.
use Rattle.std.specs.Prelude.{ℕ, ◌==◌, ◌&&◌, length, Bool, false, is_some, if◌then◌else◌, List, [], ◌∷◌, Option, None, Some, codes, unwrap_or}
use Rattle.std.specs.Char.{is_ascii_alphabetic}
use Rattle.std.specs.Str.{bytes_eq}
use Rattle.point_core.specs.declared.name.TheConstants.{NAME_BYTES}
use Rattle.line_core.specs.Following.{is_name}
use Rattle.line_core.specs.Fronts.{drop_spaces, strip_prefix}
use Rattle.line_core.specs.Line.{body_of}
use Rattle.line_core.specs.declared.line.Body.{Body}
use Rattle.line_core.specs.declared.line.Body.TheVariants.{Cmd, Bad}
use Rattle.explore_report.specs.declared.cause.Cause.TheVariants as cause
use Rattle.explore_report.specs.declared.cause.TheConstants.{PLAN_ROUNDS, PLAN_TURNS, REPEATED_LINES}
use Rattle.explore_report.specs.declared.mark.Mark.{Mark}
use Rattle.explore_report.specs.declared.mark.Mark.TheVariants as mark
use Rattle.explore_report.specs.declared.verb.Verb.{Verb}
use Rattle.explore_report.specs.declared.verb.Verb.TheVariants as verb
use Rattle.explore_report.specs.Rounds.{number_said, rounds_said}
use Rattle.explore_report.specs.Words.{first_word, words_after}

-- A `#repeat` that was not made: a number of rounds has to follow, or it has no `#end`, is in two others, or makes too many lines.
abbrev pub repeat_mark : List ℕ → Mark
repeat_mark words =
    mark.Wrong (if is_some (rounds_said words) then cause.NotRepeated REPEATED_LINES else cause.NoRounds PLAN_ROUNDS)

-- a letter follows the first byte
abbrev pub begins_directive : List ℕ → Bool
begins_directive [] = false
begins_directive (a ∷ []) = false
begins_directive (a ∷ b ∷ word) = is_ascii_alphabetic b

-- the name that the words are, if they are one
abbrev pub name_said : List ℕ → Option (List ℕ)
name_said words = if length (words_after words) == 0 && is_name (first_word words) then Some (first_word words) else None

-- a client of that name
abbrev pub client_named : Option (List ℕ) → Mark
client_named None = mark.Wrong (cause.NoName NAME_BYTES)
client_named (Some name) = mark.Client name

-- a mark of that name
abbrev pub mark_named : Option (List ℕ) → Mark
mark_named None = mark.Wrong (cause.NoName NAME_BYTES)
mark_named (Some name) = mark.Named name

-- an order behind the mark of that name
abbrev pub after_named : Option (List ℕ) → Mark
after_named None = mark.Wrong (cause.NoName NAME_BYTES)
after_named (Some name) = mark.After name

-- an access to the buffer of that name
abbrev pub access_named : Verb → Option (List ℕ) → Mark
access_named v None = mark.Wrong (cause.NoBuffer NAME_BYTES)
access_named v (Some name) = mark.Access v name

-- a place in the order of lines
abbrev pub turn_numbered : Option ℕ → Mark
turn_numbered None = mark.Wrong (cause.NoTurn PLAN_TURNS)
turn_numbered (Some number) = mark.Turn number

-- that mark, if no word follows
abbrev pub without_words : List ℕ → Mark → Mark
without_words [] said = said
without_words (b ∷ words) said = mark.Wrong cause.WordFollows

-- the first line of an answer has to follow
abbrev pub if_mark : List ℕ → Mark
if_mark [] = mark.Wrong cause.NoText
if_mark (b ∷ words) = mark.If

-- the words would be a directive directly behind a `#`
abbrev pub is_directive : List ℕ → List ℕ → Bool
is_directive word words =
    if bytes_eq word (codes "client") then length (words_after words) == 0
    else if bytes_eq word (codes "finally") then length words == 0
    else if bytes_eq word (codes "await") then length words == 0
    else false

-- a note with a blank behind its `#` says nothing, unless it reads as a directive
abbrev pub blank_note : List ℕ → Option Mark
blank_note words = if is_directive (first_word words) (words_after words) then Some (mark.Wrong cause.BlankFollows) else None

-- by the first word of a note, and what follows it
abbrev pub directive_of : List ℕ → List ℕ → Option Mark
directive_of word words =
    if bytes_eq word (codes "#client") then Some (client_named (name_said words))
    else if bytes_eq word (codes "#finally") then Some (without_words words mark.Finally)
    else if bytes_eq word (codes "#await") then Some (without_words words mark.Await)
    else if bytes_eq word (codes "#once") then Some (without_words words mark.Once)
    else if bytes_eq word (codes "#mark") then Some (mark_named (name_said words))
    else if bytes_eq word (codes "#after") then Some (after_named (name_said words))
    else if bytes_eq word (codes "#turn") then Some (turn_numbered (number_said PLAN_TURNS words))
    else if bytes_eq word (codes "#if") then Some (if_mark words)
    else if bytes_eq word (codes "#else") then Some (without_words words mark.Else)
    else if bytes_eq word (codes "#atomic") then Some (without_words words mark.Atomic)
    else if bytes_eq word (codes "#end") then Some (without_words words mark.End)
    else if bytes_eq word (codes "#repeat") then Some (repeat_mark words)
    else if bytes_eq word (codes "#reads") then Some (access_named verb.Reads (name_said words))
    else if bytes_eq word (codes "#writes") then Some (access_named verb.Writes (name_said words))
    else if bytes_eq word (codes "#done") then Some (access_named verb.Done (name_said words))
    else if bytes_eq word (codes "#") then blank_note words
    else if begins_directive word then Some (mark.Wrong cause.NoDirective)
    else None

-- of a note from its `#` on
abbrev pub note_of : List ℕ → Option Mark
note_of note =
    if is_some (strip_prefix note (codes "#=")) then Some mark.Expected
    else if is_some (strip_prefix note (codes "#|..")) then Some mark.OrBegins
    else if is_some (strip_prefix note (codes "#|")) then Some mark.OrExpected
    else directive_of (first_word note) (words_after note)

abbrev pub mark_of_body : Body → Mark
mark_of_body (Cmd command) = mark.Command command
mark_of_body (Bad refusal) = mark.Wrong cause.NoCommand

abbrev pub mark_or_note : Option Body → List ℕ → Option Mark
mark_or_note None line = note_of (drop_spaces line)
mark_or_note (Some body) line = Some (mark_of_body body)

-- a command, or what a note says; nothing of an empty line and of a note to its reader
abbrev pub mark_of : List ℕ → Option Mark
mark_of line = mark_or_note (body_of line) line

-- what follows the mark of a note that begins another answer
abbrev pub after_other : List ℕ → List ℕ
after_other note = unwrap_or (strip_prefix note (codes "#|..")) (unwrap_or (strip_prefix note (codes "#|")) note)

-- what follows the mark of a note that expects a line
abbrev pub after_mark : List ℕ → List ℕ
after_mark note = unwrap_or (strip_prefix note (codes "#=")) (after_other note)

-- the text that a note expects: what follows its mark, but for one space
abbrev pub expected_text : List ℕ → List ℕ
expected_text line =
    let text = after_mark (drop_spaces line) in
    unwrap_or (strip_prefix text (codes " ")) text

-- the first line of an answer that an `#if` names: what follows its mark, without the spaces between
abbrev pub branch_text : List ℕ → List ℕ
branch_text line = words_after (drop_spaces line)
