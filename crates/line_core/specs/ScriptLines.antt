-- The lines of a script that a reader gives.
use Rattle.std.specs.Prelude.{◌≡◌, ℕ, ◌+◌, ◌-◌, ◌*◌, ◌==◌, ◌≤◌, min, Bool, true, false, if◌then◌else◌, List, [], ◌∷◌, ◌++◌, length, take, drop, position, Option, None, Some}
use Rattle.std.specs.Io.KnownBytes.{Consumes}
use Rattle.line_core.specs.declared.cutter.TheConstants.{HELD_BYTES}
use Rattle.line_core.specs.declared.script_lines.TheConstants.{BLOCK_BYTES}
use Rattle.line_core.specs.declared.script.Ending.{Ending}
use Rattle.line_core.specs.declared.script.TheConstants.{SCRIPT_BYTES}
use Rattle.line_core.specs.Reading.{WasRead}
use Rattle.line_core.specs.Cutting.{cut}
use Rattle.line_core.specs.Script.{is_line_feed, lines_of}

-- how far a script was read, and the line that was returned last
pub record LinesState : Type 0 where
  -- how many bytes were read
  pub read : ℕ
  -- the line: its number, whether its line feed was read, the bytes that are kept of it, and its length so far
  pub number : ℕ
  pub ended : Bool
  pub line : List ℕ
  pub length : ℕ
  -- the bytes that were read after it
  pub ready : List ℕ

-- the bytes so far of the line after the lines that were returned
abbrev pub open_line : LinesState → List ℕ
open_line s = if s.ended then [] else s.line

abbrev pub open_length : LinesState → ℕ
open_length s = if s.ended then 0 else s.length

abbrev pub open_number : LinesState → ℕ
open_number s = if s.ended then s.number + 1 else s.number

-- The lines `given` were returned, of all bytes that were read: `front` has the bytes so far of the next line.
pub record HasGiven (before now : Option (List ℕ)) (s : LinesState) (given : List (List ℕ)) : Type 0 where
  pub bytes : List ℕ
  pub consumed : Consumes before now bytes
  pub read : s.read ≡ length bytes
  pub few : s.read ≤ SCRIPT_BYTES + 1
  pub number : open_number s ≡ length given + 1
  pub front : List ℕ
  pub begun : open_line s ≡ cut front
  pub long : open_length s ≡ length front
  pub alone : lines_of front ≡ front ∷ []
  pub split : (more : List ℕ) → lines_of (take SCRIPT_BYTES bytes ++ more) ≡ given ++ lines_of (front ++ (s.ready ++ more))

-- the line of the state is that one
pub record IsLineOf (s : LinesState) (line : List ℕ) : Type 0 where
  pub held : s.line ≡ cut line
  pub long : s.length ≡ length line

-- one more line was returned
pub record GivesLine (before now : Option (List ℕ)) (given : List (List ℕ)) (s : LinesState) : Type 0 where
  pub line : List ℕ
  pub is : IsLineOf s line
  pub number : s.number ≡ length given + 1
  pub more : HasGiven before now s (given ++ line ∷ [])

-- each line whose line feed was read was returned
abbrev pub IsDrained : LinesState → Type 0
IsDrained s = (s.ended ≡ false) × (s.ready ≡ [])

-- one more line was returned, if there is one
abbrev pub GoesOn : Option (List ℕ) → Option (List ℕ) → List (List ℕ) → Bool → LinesState → Type 0
GoesOn before now given true s = GivesLine before now given s
GoesOn before now given false s = HasGiven before now s given × IsDrained s

-- The script was read and ends so: `given` and after them `last` are its lines.
pub record HasEnded (before now : Option (List ℕ)) (s : LinesState) (end : Ending) (given : List (List ℕ)) : Type 0 where
  pub bytes : List ℕ
  pub read : WasRead before now bytes end
  pub last : List ℕ
  pub is : IsLineOf s last
  pub number : s.number ≡ length given + 1
  pub split : lines_of (take SCRIPT_BYTES bytes) ≡ given ++ last ∷ []

-- an upper bound on the lines that are returned and the reads that are made
abbrev pub turns_to_come : LinesState → ℕ
turns_to_come s = 2 * (SCRIPT_BYTES + 1 - s.read) + length s.ready

-- ---- the steps

-- the state without the line that was returned last
abbrev pub gone_on : LinesState → LinesState
gone_on s = record {
  read = s.read;
  number = open_number s;
  ended = false;
  line = open_line s;
  length = open_length s;
  ready = s.ready;
}

-- the line ends at that place of the ready bytes
abbrev pub ended_at : LinesState → ℕ → LinesState
ended_at s place = record {
  read = s.read;
  number = s.number;
  ended = true;
  line = cut (s.line ++ take place s.ready);
  length = s.length + place;
  ready = drop (place + 1) s.ready;
}

-- all ready bytes belong to the line
abbrev pub all_held : LinesState → LinesState
all_held s = record {
  read = s.read;
  number = s.number;
  ended = s.ended;
  line = cut (s.line ++ s.ready);
  length = s.length + length s.ready;
  ready = [];
}

-- the bytes were read, and those within the limit are ready
abbrev pub filled_with : LinesState → List ℕ → LinesState
filled_with s bytes = record {
  read = s.read + length bytes;
  number = s.number;
  ended = s.ended;
  line = s.line;
  length = s.length;
  ready = take (SCRIPT_BYTES - s.read) bytes;
}

-- the next line ends at its line feed, the first among the ready bytes
pub record EndsLine (old new : LinesState) : Type 0 where
  pub place : ℕ
  pub found : position is_line_feed old.ready ≡ Some place
  pub is : new ≡ ended_at (gone_on old) place

-- the next line ends, or all ready bytes belong to it
abbrev pub Advances : LinesState → Bool → LinesState → Type 0
Advances old true new = EndsLine old new
Advances old false new = (position is_line_feed old.ready ≡ None) × (new ≡ all_held (gone_on old))

-- ---- how they are stored

-- The bytes of the line: the front that is held, or bytes of the block if no front is held.
abbrev pub line_bytes : List ℕ → List ℕ → ℕ → ℕ → List ℕ
line_bytes held block start len = if length held == 0 then take (min len HELD_BYTES) (drop start block) else held

-- the places are within the block, and the counts within the bytes that were read
pub record IsLaidOut (next filled start len read num : ℕ) (ended : Bool) (held : List ℕ) : Type 0 where
  pub within : next ≤ filled
  pub block : filled ≤ BLOCK_BYTES
  pub few : read ≤ SCRIPT_BYTES + 1
  pub start_in : start ≤ BLOCK_BYTES
  pub line : length held ≡ 0 → start + len ≤ BLOCK_BYTES
  pub begun : ended ≡ false → length held ≡ 0 → len ≡ 0
  pub long : len + (filled - next) ≤ read
  pub numbers : num + (if ended then 1 else 0) + (filled - next) ≤ read + 1
