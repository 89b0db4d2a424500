-- What the words of a command line ask for.
use Rattle.std.specs.Prelude.{◌≡◌, ◌≢◌, ◌⊎◌, ◌∷◌, ℕ, Bool, true, false, List, [], Option, Some, None, codes, map, option_map, if◌then◌else◌}
use Rattle.std.specs.Str.Parse.{digits_value, without_leading_plus}
use Rattle.std.specs.Str.{bytes_eq}
use Rattle.clap.specs.Words.{IsAmong, Kinds, Row, Text, all_of, first_of, one_of, subcommand_of, takes}
use Rattle.clap.specs.declared.error.kind.ErrorKind.{ErrorKind}
use Rattle.clap.specs.declared.error.kind.ErrorKind.TheVariants.{DisplayHelp, DisplayVersion}
use Rattle.point_core.specs.declared.refusal.Refusal.{Refusal}
use Rattle.point_core.specs.declared.refusal.Refusal.TheVariants.{Limit, Memory, Write as WriteFault}
use Rattle.point_core.specs.declared.refusal.LimitKind.TheVariants as limit
use Rattle.source_core.specs.Input.{file_named, file_of}
use Rattle.fencectl_core.specs.Words.{fencectl}
use Rattle.fencectl_core.specs.declared.action.Action.{Action}
use Rattle.fencectl_core.specs.declared.action.Action.TheVariants as action
use Rattle.fencectl_core.specs.declared.action.Check.{Check as CheckAction}
use Rattle.fencectl_core.specs.declared.action.Draw.{Draw as DrawAction}
use Rattle.fencectl_core.specs.declared.action.Explore.{Explore as ExploreAction}
use Rattle.fencectl_core.specs.declared.action.Trace.{Trace as TraceAction}
use Rattle.fencectl_core.specs.declared.action.CheckReport.{CheckReport}
use Rattle.fencectl_core.specs.declared.action.CheckReport.TheVariants as report
use Rattle.fencectl_core.specs.declared.action.Table.{Table}
use Rattle.fencectl_core.specs.declared.action.Table.TheVariants as table

-- a check of scripts: the paths that name them, what is reported, and whether a script may expect nothing
pub record AskedCheck : Type 0 where
  pub paths : List Text
  pub report : CheckReport
  pub allows_empty : Bool

-- a trace: the name of its file, or none on standard input; whether a JSON document is asked for, a script, a picture or trace
-- events; and the texts of the options
pub record AskedTrace : Type 0 where
  pub file : Option Text
  pub is_json : Bool
  pub is_script : Bool
  pub is_drawing : Bool
  pub is_perfetto : Bool
  pub is_hanging : Bool
  pub from : Option Text
  pub to : Option Text
  pub output : Option Text

-- a drawing of a script: of its file, or of standard input; a graph or not, and the texts of the options
pub record AskedDraw : Type 0 where
  pub file : Option Text
  pub graph : Bool
  pub line : Option Text
  pub lines : Option Text
  pub output : Option Text

-- an exploration of a plan: of its file, or of standard input; what is written, and the texts of the options
pub record AskedExplore : Type 0 where
  pub file : Option Text
  pub is_json : Bool
  pub states : Option Text
  pub witness : Option Text
  pub draw : Option Text
  pub answers : Bool
  pub all_orders : Bool
  pub is_first : Bool
  pub predicts : Bool

-- a script has the name of its file, or none on standard input; clients have their number, their rounds and their table
pub data Asked : Type 0 where
  Run : Option Text → Asked
  Json : Option Text → Asked
  Check : AskedCheck → Asked
  Update : List Text → Asked
  Explain : Option Text → Asked
  Trace : AskedTrace → Asked
  Draw : AskedDraw → Asked
  Clients : ℕ → ℕ → Table → Asked
  Explore : AskedExplore → Asked

abbrev pub number_named : Option Text → ℕ
number_named None = 0
number_named (Some text) = digits_value 10 (without_leading_plus text)

abbrev pub flag_named : Option Text → Bool
flag_named None = false
flag_named (Some text) = bytes_eq text (codes "true")

abbrev pub paths_named : Option (List Text) → List Text
paths_named None = []
paths_named (Some paths) = paths

abbrev pub report_named : List Row → CheckReport
report_named rows =
    if flag_named (one_of (codes "tap") rows) then report.Tap
    else if flag_named (one_of (codes "quiet") rows) then report.Counts
    else report.All

abbrev pub table_named : List Row → Table
table_named rows = if flag_named (one_of (codes "locks") rows) then table.Locks else table.Board

abbrev pub clients_after : List Row → Asked
clients_after rows =
    Clients (number_named (one_of (codes "N") rows)) (number_named (one_of (codes "ROUNDS") rows)) (table_named rows)

abbrev pub check_after : List Row → AskedCheck
check_after rows = record {
  paths = paths_named (all_of (codes "PATH") rows);
  report = report_named rows;
  allows_empty = flag_named (one_of (codes "allow-empty") rows);
}

abbrev pub check_or_update : List Row → Asked
check_or_update rows =
    if flag_named (one_of (codes "update") rows) then Update (paths_named (all_of (codes "PATH") rows))
    else Check (check_after rows)

abbrev pub script_named : List Row → Option Text
script_named rows = file_named (first_of (codes "FILE") rows)

abbrev pub run_or_json : List Row → Asked
run_or_json rows =
    if flag_named (one_of (codes "json") rows) then Json (script_named rows) else Run (script_named rows)

abbrev pub trace_after : List Row → AskedTrace
trace_after rows = record {
  file = file_named (first_of (codes "FILE") rows);
  is_json = flag_named (one_of (codes "json") rows);
  is_script = flag_named (one_of (codes "script") rows);
  is_drawing = flag_named (one_of (codes "draw") rows);
  is_perfetto = flag_named (one_of (codes "perfetto") rows);
  is_hanging = flag_named (one_of (codes "hangs") rows);
  from = first_of (codes "from") rows;
  to = first_of (codes "to") rows;
  output = first_of (codes "output") rows;
}

abbrev pub draw_after : List Row → AskedDraw
draw_after rows = record {
  file = file_named (first_of (codes "FILE") rows);
  graph = flag_named (one_of (codes "graph") rows);
  line = first_of (codes "line") rows;
  lines = first_of (codes "lines") rows;
  output = first_of (codes "output") rows;
}

abbrev pub explore_after : List Row → AskedExplore
explore_after rows = record {
  file = file_named (first_of (codes "FILE") rows);
  is_json = flag_named (one_of (codes "json") rows);
  states = first_of (codes "states") rows;
  witness = first_of (codes "witness") rows;
  draw = first_of (codes "draw") rows;
  answers = flag_named (one_of (codes "answers") rows);
  all_orders = flag_named (one_of (codes "all-orders") rows);
  is_first = flag_named (one_of (codes "first") rows);
  predicts = flag_named (one_of (codes "predict") rows);
}

-- of a script, by the word of a subcommand
abbrev pub asked_on : Text → List Row → Asked
asked_on word rows = if bytes_eq word (codes "explain") then Explain (script_named rows) else run_or_json rows

-- by the word of a subcommand, and the values after it
abbrev pub asked_after : Text → List Row → Asked
asked_after word rows =
    if bytes_eq word (codes "clients") then clients_after rows
    else if bytes_eq word (codes "check") then check_or_update rows
    else if bytes_eq word (codes "trace") then Trace (trace_after rows)
    else if bytes_eq word (codes "draw") then Draw (draw_after rows)
    else if bytes_eq word (codes "explore") then Explore (explore_after rows)
    else asked_on word rows

-- without a subcommand the script of standard input is run
abbrev pub asked_by : Option (Text × List Row) → Asked
asked_by None = Run None
asked_by (Some subcommand) = asked_after subcommand.0 subcommand.1

abbrev pub asked_of_check : CheckAction → AskedCheck
asked_of_check check = record {
  paths = map (λ p. p.now) check.paths.items;
  report = check.report;
  allows_empty = check.allows_empty;
}

abbrev pub asked_of_trace : TraceAction → AskedTrace
asked_of_trace trace = record {
  file = file_of trace.text;
  is_json = trace.is_json;
  is_script = trace.is_script;
  is_drawing = trace.is_drawing;
  is_perfetto = trace.is_perfetto;
  is_hanging = trace.is_hanging;
  from = option_map (λ t. t.now) trace.from;
  to = option_map (λ t. t.now) trace.to;
  output = option_map (λ t. t.now) trace.output;
}

abbrev pub asked_of_draw : DrawAction → AskedDraw
asked_of_draw draw = record {
  file = file_of draw.script;
  graph = draw.graph;
  line = option_map (λ t. t.now) draw.line;
  lines = option_map (λ t. t.now) draw.lines;
  output = option_map (λ t. t.now) draw.output;
}

abbrev pub asked_of_explore : ExploreAction → AskedExplore
asked_of_explore explore = record {
  file = file_of explore.script;
  is_json = explore.is_json;
  states = option_map (λ t. t.now) explore.states;
  witness = option_map (λ t. t.now) explore.witness;
  draw = option_map (λ t. t.now) explore.draw;
  answers = explore.answers;
  all_orders = explore.all_orders;
  is_first = explore.is_first;
  predicts = explore.predicts;
}

-- nothing if the program is to end
abbrev pub asked_of : Action → Option Asked
asked_of (action.Run script) = Some (Run (file_of script))
asked_of (action.Json script) = Some (Json (file_of script))
asked_of (action.Update paths) = Some (Update (map (λ p. p.now) paths.items))
asked_of (action.Check check) = Some (Check (asked_of_check check))
asked_of (action.Explain script) = Some (Explain (file_of script))
asked_of (action.Trace trace) = Some (Trace (asked_of_trace trace))
asked_of (action.Draw draw) = Some (Draw (asked_of_draw draw))
asked_of (action.Clients clients) = Some (Clients clients.count clients.rounds clients.table)
asked_of (action.Explore explore) = Some (Explore (asked_of_explore explore))
asked_of (action.End status) = None

-- the second of two words is asked for as the name of a script's file
pub record IsFileOf (words : List Text) (asked : Asked) : Type 0 where
  pub program : Text
  pub name : Text
  pub two : words ≡ program ∷ name ∷ []
  pub is : asked ≡ Run (Some name)

-- after the program's own word there is one, run
pub record IsRunAlone (words : List Text) : Type 0 where
  pub program : Text
  pub two : words ≡ program ∷ codes "run" ∷ []

-- what the subcommand asks for; or a file, by words that the command line does not take
abbrev pub IsAsked : List Text → Asked → Type 0
IsAsked words asked =
    (asked ≡ asked_by (subcommand_of fencectl words)) ⊎ (IsFileOf words asked × (takes fencectl words ≢ true))

-- the status with which the program ends: 0 once help or the version is printed, and 2 once wrong usage is reported
abbrev pub kind_status : ErrorKind → ℕ
kind_status DisplayHelp = 0
kind_status DisplayVersion = 0
kind_status kind = 2

-- if the program is to end, its status is the status of one of these kinds
abbrev pub EndsBy : Kinds → Action → Type 0
EndsBy kinds (action.End status) = (kind : ErrorKind) × IsAmong kind kinds × (status ≡ kind_status kind)
EndsBy kinds (action.Run script) = Unit {0}
EndsBy kinds (action.Json script) = Unit {0}
EndsBy kinds (action.Update paths) = Unit {0}
EndsBy kinds (action.Check check) = Unit {0}
EndsBy kinds (action.Explain script) = Unit {0}
EndsBy kinds (action.Trace trace) = Unit {0}
EndsBy kinds (action.Draw draw) = Unit {0}
EndsBy kinds (action.Clients clients) = Unit {0}
EndsBy kinds (action.Explore explore) = Unit {0}

abbrev pub asks_clients : Option (Text × List Row) → Bool
asks_clients None = false
asks_clients (Some subcommand) = bytes_eq subcommand.0 (codes "clients")

-- a number of clients, or of their rounds, is out of its range
abbrev pub IsRangeFault : Refusal → Type 0
IsRangeFault refusal = (refusal ≡ Limit limit.Clients) ⊎ (refusal ≡ Limit limit.Plan)

-- memory was refused, or clients are asked for and one of their numbers is out of its range
abbrev pub IsAskedFault : Bool → Refusal → Type 0
IsAskedFault of_clients refusal = (refusal ≡ Memory) ⊎ (IsRangeFault refusal × (of_clients ≡ true))

-- help, the version or a mistake could not be printed; or the words were taken, and not what they ask for
abbrev pub IsUsageFault : List Text → Refusal → Type 0
IsUsageFault words refusal =
    (refusal ≡ WriteFault) ⊎ (IsAskedFault (asks_clients (subcommand_of fencectl words)) refusal)
