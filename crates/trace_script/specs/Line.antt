-- The lines of a script.
use Rattle.std.specs.Prelude.{◌≡◌, ℕ, Bool, if◌then◌else◌, ⊤, All, List, [], ◌++◌, map, take, codes, decimal, Option, None, Some}
use Rattle.std.specs.List.{flat_map}
use Rattle.point_core.specs.Name.{IsName}
use Rattle.text_core.specs.Escape.{noted}
use Rattle.text_core.specs.Number.{seconds}
use Rattle.trace_script.specs.declared.line.TraceLine.{TraceLine}
use Rattle.trace_script.specs.declared.line.TraceLine.TheVariants as line
use Rattle.trace_script.specs.declared.line.TheConstants.{NOTED_BYTES}

-- what a line says, with the bytes of its names
pub data Said : Type 0 where
  Time : ℕ → Said
  Timeline : List ℕ → List ℕ → Option ℕ → List ℕ → Said
  Unsignalled : List ℕ → Said
  Fence : List ℕ → List ℕ → ℕ → Said
  Signal : List ℕ → Said
  Close : List ℕ → Said
  Wait : List ℕ → List ℕ → ℕ → ℕ → Bool → Said
  End : ℕ → Said

abbrev pub said : TraceLine → Said
said (line.Time time) = Time time
said (line.Timeline driver raw context name) = Timeline driver.now raw.now context name.now
said (line.Unsignalled file) = Unsignalled file.now
said (line.Fence file timeline point) = Fence file.now timeline.now point
said (line.Signal name) = Signal name.now
said (line.Close file) = Close file.now
said (line.Wait file task pid time is_over) = Wait file.now task.now pid time is_over
said (line.End time) = End time

-- the first bytes of a name of the trace, in a note
abbrev pub name_noted : List ℕ → List ℕ
name_noted name = map noted (take NOTED_BYTES name)

-- which context of several it is
abbrev pub context_noted : Option ℕ → List ℕ
context_noted None = []
context_noted (Some context) = codes " context " ++ decimal context

-- the names of a driver and a timeline as a note, and the timeline of the script
abbrev pub timeline_text : List ℕ → List ℕ → Option ℕ → List ℕ → List ℕ
timeline_text driver raw context name =
    (codes "# " ++ (name_noted driver ++ (codes "/" ++ name_noted raw)))
    ++ (context_noted context ++ (codes "\ntimeline " ++ (name ++ codes "\n")))

abbrev pub verb : Bool → List ℕ
verb is_over = if is_over then codes " waited for " else codes " waits for "

-- Before each timeline a note gives its driver's and its own name. A fence is a file at a point of its timeline; its signal
-- reaches the point by one step, and its end closes the file. Times, waits and what is not signalled are notes.
abbrev pub line_text : Said → List ℕ
line_text (Time time) = codes "# " ++ (seconds time ++ codes "\n")
line_text (Timeline driver raw context name) = timeline_text driver raw context name
line_text (Unsignalled file) = codes "# " ++ (file ++ codes " is not signalled\n")
line_text (Fence file timeline point) =
    codes "fence " ++ (file ++ (codes " " ++ (timeline ++ (codes " " ++ (decimal point ++ codes "\n")))))
line_text (Signal name) = codes "inc " ++ (name ++ codes " 1\n")
line_text (Close file) = codes "close " ++ (file ++ codes "\n")
line_text (Wait file task pid time is_over) =
    codes "# "
    ++ (seconds time
    ++ (codes " "
    ++ (name_noted task ++ (codes "-" ++ (decimal pid ++ (verb is_over ++ (file ++ codes "\n")))))))
line_text (End time) = codes "# " ++ (seconds time ++ codes " end\n")

-- the names in a line are names that a script may have, so that the line is a command, or a note
abbrev pub IsNamed : Said → Type 0
IsNamed (Time time) = ⊤
IsNamed (Timeline driver raw context name) = IsName name
IsNamed (Unsignalled file) = IsName file
IsNamed (Fence file timeline point) = IsName file × IsName timeline
IsNamed (Signal name) = IsName name
IsNamed (Close file) = IsName file
IsNamed (Wait file task pid time is_over) = IsName file
IsNamed (End time) = ⊤

-- the text has these lines, one after another
abbrev pub IsOf : List Said → List ℕ → Type 0
IsOf lines text = text ≡ flat_map line_text lines

-- each line of the text is one that a script of a trace has
abbrev pub AreLines : List ℕ → Type 0
AreLines text = (lines : List Said) × IsOf lines text × All IsNamed lines
