-- The lines of a plan: the lines of its script, where those of a `#repeat` come once in each round.
use Rattle.std.specs.Prelude.{ℕ, ◌+◌, ◌*◌, ◌-◌, ◌==◌, nat_le, Bool, ◌&&◌, ◌||◌, if◌then◌else◌, List, [], ◌∷◌, ◌++◌, length, map, take, slice_get, suc, zero, Option, None, Some, option_map, codes, unwrap_or}
use Rattle.std.specs.Option.{option_and_then}
use Rattle.std.specs.Str.{bytes_eq}
use Rattle.line_core.specs.Fronts.{drop_spaces}
use Rattle.explore_report.specs.declared.cause.TheConstants.{REPEATED_LINES}
use Rattle.explore_report.specs.declared.turn.Turn.{Turn}
use Rattle.explore_report.specs.declared.unrolling.Block.{Block}
use Rattle.explore_report.specs.Context.{one_more}
use Rattle.explore_report.specs.Filling.{filled}
use Rattle.explore_report.specs.Lines.{text_at}
use Rattle.explore_report.specs.Rounds.{rounds_said}
use Rattle.explore_report.specs.Words.{first_word, words_after}

-- the word that a line begins with
abbrev pub word_of : List ℕ → List ℕ
word_of line = first_word (drop_spaces line)

abbrev pub begins_block : List ℕ → Bool
begins_block line =
    bytes_eq (word_of line) (codes "#if") || bytes_eq (word_of line) (codes "#atomic") || bytes_eq (word_of line) (codes "#repeat")

abbrev pub ends_block : List ℕ → Bool
ends_block line = bytes_eq (word_of line) (codes "#end")

-- the rounds of a line that is a `#repeat`
abbrev pub rounds_of : List ℕ → Option ℕ
rounds_of line = if bytes_eq (word_of line) (codes "#repeat") then rounds_said (words_after (drop_spaces line)) else None

-- how many blocks are open below a line
abbrev pub open_below : List ℕ → ℕ → ℕ
open_below line depth = if ends_block line then depth - 1 else if begins_block line then one_more depth else depth

-- The place of the `#end` of a block, in which that many others are open above these turns; the first turn has that place.
abbrev pub end_from : List (List ℕ) → ℕ → ℕ → List Turn → Option ℕ
end_from lines place depth [] = None
end_from lines place depth (t ∷ turns) =
    let line = text_at lines t.number in
    if ends_block line && (depth == 0) then Some place else end_from lines (place + 1) (open_below line depth) turns

-- a block of that many rounds and turns, if it makes no more turns than there is room for
abbrev pub block_of : ℕ → ℕ → ℕ → Option Block
block_of room rounds len =
    if nat_le (len * rounds) room then Some (record { rounds = rounds; length = len; made = len * rounds }) else None

-- the block that a turn begins, if it is a `#repeat` with an `#end` among the turns below
abbrev pub block_at : List (List ℕ) → ℕ → Turn → List Turn → Option Block
block_at lines room t below =
    option_and_then
    (λ rounds. option_and_then (block_of room rounds) (end_from lines 0 0 below))
    (rounds_of (text_at lines t.number))

-- a turn in that round of one more `#repeat`, which is inside the others
abbrev pub in_round : ℕ → Turn → Turn
in_round round t =
    if t.outer == 0
    then record { number = t.number; outer = round; inner = 0 }
    else record { number = t.number; outer = t.outer; inner = round }

-- the turns of the first rounds
abbrev pub rounds_made : List Turn → ℕ → List Turn
rounds_made body zero = []
rounds_made body (suc rounds) = rounds_made body rounds ++ map (in_round (suc rounds)) body

-- the turns that a turn makes: itself, or the rounds of its block
abbrev pub made_at : Option Block → Turn → List Turn → List Turn
made_at None t below = t ∷ []
made_at (Some block) t below = rounds_made (take block.length below) block.rounds

-- how many turns below belong to the block: those in it, and its `#end`
abbrev pub in_block : Option Block → ℕ
in_block None = 0
in_block (Some block) = block.length + 1

abbrev pub room_below : ℕ → Option Block → ℕ
room_below room None = room
room_below room (Some block) = room - block.made

-- Each outermost `#repeat` made. The first turns belong to a block that is made already, and there is room for that many more turns.
abbrev pub expanded : List (List ℕ) → ℕ → ℕ → List Turn → List Turn
expanded lines skipped room [] = []
expanded lines (suc skipped) room (t ∷ turns) = expanded lines skipped room turns
expanded lines zero room (t ∷ turns) =
    let block = block_at lines room t turns in
    made_at block t turns ++ expanded lines (in_block block) (room_below room block) turns

-- the first lines of a script, in no `#repeat`
abbrev pub numbered : ℕ → List Turn
numbered zero = []
numbered (suc count) = numbered count ++ record { number = suc count; outer = 0; inner = 0 } ∷ []

abbrev pub made_once : List (List ℕ) → List Turn → List Turn
made_once lines turns = expanded lines 0 REPEATED_LINES turns

-- the turns of a plan: each `#repeat` is made, and each that is in one other
abbrev pub turns_of : List (List ℕ) → List Turn
turns_of lines = made_once lines (made_once lines (numbered (length lines)))

-- a line with the rounds of a turn filled in
abbrev pub text_in : Turn → List ℕ → List ℕ
text_in t line =
    if t.outer == 0 then line
    else if t.inner == 0 then filled t.outer line
    else filled t.inner (filled t.outer line)

abbrev pub turn_text : List (List ℕ) → Turn → List ℕ
turn_text lines t = text_in t (text_at lines t.number)

-- the lines of a plan, which the script's lines make
abbrev pub plan_lines : List (List ℕ) → List (List ℕ)
plan_lines lines = map (turn_text lines) (turns_of lines)

-- the number of the script's line that makes the plan's line of that number
abbrev pub line_number : List (List ℕ) → ℕ → ℕ
line_number lines number = unwrap_or (option_map (λ (t : Turn). t.number) (slice_get (turns_of lines) (number - 1))) (length lines)
