-- How a record of a dma_fence event is printed.
use Rattle.std.specs.Prelude.{◌≡◌, ℕ, ◌+◌, ◌*◌, ◌^◌, ◌<◌, ◌≤◌, ◌⊎◌, true, List, [], ◌++◌, length, take, Some, codes}
use Rattle.std.specs.Char.{is_ascii_digit}
use Rattle.std.specs.List.{list_all}
use Rattle.std.specs.Str.Parse.{digits_value}
use Rattle.trace_core.specs.declared.event.Event.{Event}
use Rattle.trace_core.specs.declared.header.TheConstants.{TASK_BYTES, FLAGS_FEWEST, FLAGS_MOST}
use Rattle.trace_core.specs.declared.number.TheConstants.{DECIMALS, SECOND}
use Rattle.trace_core.specs.declared.runs.Class.TheVariants.{Dark, Group}
use Rattle.trace_core.specs.Event.{kind_of}
use Rattle.trace_core.specs.Fields.{Body}
use Rattle.trace_core.specs.Header.{Head, trimmed}
use Rattle.trace_core.specs.Record.{Printed, joined}
use Rattle.trace_core.specs.Runs.{is_blank, is_of}

-- one decimal digit or more, which spell a number below the limit. Leading zeros are allowed
pub record Spells (limit : ℕ) (digits : List ℕ) (n : ℕ) : Type 0 where
  pub some : 1 ≤ length digits
  pub each : list_all is_ascii_digit digits ≡ true
  pub value : digits_value 10 digits ≡ n
  pub fits : n < limit

-- one blank or more
pub record AreBlanks (bytes : List ℕ) : Type 0 where
  pub some : 1 ≤ length bytes
  pub each : list_all is_blank bytes ≡ true

-- a dash as in the kernel's text, or blanks as `perf script` prints them
abbrev pub IsDash : List ℕ → Type 0
IsDash bytes = (bytes ≡ codes "-") ⊎ AreBlanks bytes

-- blanks, dashes and digits in parentheses, and a blank
abbrev pub IsSomeGroup : List ℕ → Type 0
IsSomeGroup bytes =
    (inner : List ℕ) × (bytes ≡ codes "(" ++ (inner ++ codes ") ")) × (list_all (is_of Group) inner ≡ true)

-- nothing, or the thread's group
abbrev pub IsGroup : List ℕ → Type 0
IsGroup bytes = (bytes ≡ []) ⊎ IsSomeGroup bytes

-- 4 to 6 flags and blanks
pub record AreSomeFlags (bytes : List ℕ) : Type 0 where
  pub flags : List ℕ
  pub blanks : List ℕ
  pub is : bytes ≡ flags ++ blanks
  pub many : FLAGS_FEWEST ≤ length flags
  pub few : length flags ≤ FLAGS_MOST
  pub each : list_all (is_of Dark) flags ≡ true
  pub apart : AreBlanks blanks

abbrev pub AreFlags : List ℕ → Type 0
AreFlags bytes = (bytes ≡ []) ⊎ AreSomeFlags bytes

-- seconds with six decimals or more; the first six are read, as microseconds
pub record IsTime (seconds decimals : List ℕ) (time : ℕ) : Type 0 where
  pub whole : ℕ
  pub spelt : Spells (2 ^ 64) seconds whole
  pub many : DECIMALS ≤ length decimals
  pub each : list_all is_ascii_digit decimals ≡ true
  pub value : time ≡ whole * SECOND + digits_value 10 (take DECIMALS decimals)
  pub fits : time < 2 ^ 64

-- the processor in brackets, and what follows it
abbrev pub bracketed : List ℕ → List ℕ → List ℕ
bracketed cpu rest = codes "[" ++ (cpu ++ (codes "]" ++ rest))

-- the time, and the text of the event
abbrev pub timed : List ℕ → List ℕ → List ℕ → List ℕ
timed seconds decimals text = seconds ++ (codes "." ++ (decimals ++ (codes ": " ++ text)))

-- the header of a record and the text of its event
pub record IsHead (piece : List ℕ) (head : Head) : Type 0 where
  pub name : List ℕ
  pub dash : List ℕ
  pub pid : List ℕ
  pub blanks : List ℕ
  pub group : List ℕ
  pub cpu : List ℕ
  pub gap : List ℕ
  pub flags : List ℕ
  pub seconds : List ℕ
  pub decimals : List ℕ
  pub is : piece
      ≡ name ++ (dash ++ (pid ++ (blanks ++ (group ++ bracketed cpu (gap ++ (flags ++ timed seconds decimals head.text))))))
  pub padded : length name ≡ TASK_BYTES
  pub task : head.task ≡ trimmed name
  pub dashed : IsDash dash
  pub thread : Spells (2 ^ 32) pid head.pid
  pub apart : AreBlanks blanks
  pub grouped : IsGroup group
  pub processor : Spells (2 ^ 32) cpu head.cpu
  pub before : AreBlanks gap
  pub flagged : AreFlags flags
  pub time : IsTime seconds decimals head.time

-- the event's name, after the name of the events' system if `perf script` printed it, and then the fields
pub record IsEvent (text : List ℕ) (event : Event) (fields : List ℕ) : Type 0 where
  pub blanks : List ℕ
  pub system : List ℕ
  pub kind : List ℕ
  pub gap : List ℕ
  pub is : text ≡ blanks ++ (codes "dma_fence" ++ (system ++ (codes "_" ++ (kind ++ (codes ":" ++ (gap ++ fields))))))
  pub blank : list_all is_blank blanks ≡ true
  pub named : (system ≡ []) ⊎ (system ≡ codes ":dma_fence")
  pub known : kind_of kind ≡ Some event
  pub apart : AreBlanks gap

-- the names of the driver and the timeline
abbrev pub named : List ℕ → List ℕ → List ℕ
named driver timeline = driver ++ (codes " timeline=" ++ timeline)

-- the numbers of the context and the fence
abbrev pub numbered : List ℕ → List ℕ → List ℕ
numbered context seqno = codes " context=" ++ (context ++ (codes " seqno=" ++ seqno))

-- The fields. The driver's name is the shortest that fits: it goes up to the first ` timeline=`. No digit is a blank, so
-- the timeline's name goes up to the last ` context=`.
pub record IsFields (text : List ℕ) (body : Body) : Type 0 where
  pub context : List ℕ
  pub seqno : List ℕ
  pub is : text ≡ codes "driver=" ++ named body.driver (body.timeline ++ numbered context seqno)
  pub shortest : (driver timeline : List ℕ) →
      named body.driver body.timeline ≡ named driver timeline → length body.driver ≤ length driver
  pub of_context : Spells (2 ^ 32) context body.context
  pub of_seqno : Spells (2 ^ 32) seqno body.seqno

-- the piece is a record of a dma_fence event, and says that
pub record IsRecord (piece : List ℕ) (r : Printed) : Type 0 where
  pub head : Head
  pub fields : List ℕ
  pub body : Body
  pub begins : IsHead piece head
  pub names : IsEvent head.text r.event fields
  pub ends : IsFields fields body
  pub says : r ≡ joined head r.event body
