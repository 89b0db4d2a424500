-- The command line that the program takes.
use Rattle.std.specs.Prelude.{◌≡◌, false, ℕ, List, [], ◌∷◌, map, Some, true, codes, pos}
use Rattle.clap.specs.declared.builder.command.Command.{Command}
use Rattle.clap.specs.declared.builder.command.Command.TheViews.{out-Command}
use Rattle.clap.specs.Words.{App, app_of, Rule, Text, new_app, new_rule, with_rule, with_subcommand}
use Rattle.clap.specs.declared.builder.ArgAction.TheVariants.{Append, Set, SetTrue}
use Rattle.clap.specs.declared.builder.value_parser.ValueParser.TheVariants as parser
use Rattle.clients_core.specs.declared.plans.TheConstants.{CLIENTS}
use Rattle.clients_core.specs.declared.rounds.TheConstants.{ROUNDS}
use Rattle.fencectl_core.specs.declared.subcommands.Argument.{Argument}
use Rattle.fencectl_core.specs.declared.subcommands.ArgumentForm.{ArgumentForm}
use Rattle.fencectl_core.specs.declared.subcommands.ArgumentForm.TheVariants as form
use Rattle.fencectl_core.specs.declared.subcommands.Subcommand.{Subcommand}

abbrev pub file_rule : Text → Rule
file_rule name = record (new_rule name) { defaults = codes "-" ∷ [] }

abbrev pub paths_rule : Text → Rule
paths_rule name = record (new_rule name) { action = Some Append; defaults = codes "-" ∷ [] }

abbrev pub flag_rule : Text → Rule
flag_rule name = record (new_rule name) { long = Some name; action = Some SetTrue }

abbrev pub option_rule : Text → Rule
option_rule name = record (new_rule name) { long = Some name; action = Some Set; value_names = 1 }

-- with the letter o
abbrev pub output_rule : Text → Rule
output_rule name = record (option_rule name) { short = Some 111 }

abbrev pub number_rule : Text → ℕ → Rule
number_rule name most = record (new_rule name) { required = true; parser = Some (parser.Signed (pos 1) (pos most)) }

-- a command with these arguments
abbrev pub with_rules : App → List Rule → App
with_rules app [] = app
with_rules app (rule ∷ rules) = with_rules (with_rule app rule) rules

-- a command with these subcommands
abbrev pub with_subcommands : App → List App → App
with_subcommands app [] = app
with_subcommands app (more ∷ rest) = with_subcommands (with_subcommand app more.top) rest

abbrev pub run_app : App
run_app = with_rules (new_app (codes "run")) (file_rule (codes "FILE") ∷ flag_rule (codes "json") ∷ [])

abbrev pub check_app : App
check_app = with_rules (new_app (codes "check"))
    (paths_rule (codes "PATH") ∷ flag_rule (codes "quiet") ∷ flag_rule (codes "tap") ∷ flag_rule (codes "allow-empty")
    ∷ flag_rule (codes "update") ∷ [])

abbrev pub explain_app : App
explain_app = with_rules (new_app (codes "explain")) (file_rule (codes "FILE") ∷ [])

abbrev pub trace_app : App
trace_app = with_rules (new_app (codes "trace"))
    (file_rule (codes "FILE") ∷ flag_rule (codes "json") ∷ flag_rule (codes "script") ∷ flag_rule (codes "draw")
    ∷ flag_rule (codes "perfetto") ∷ flag_rule (codes "hangs") ∷ option_rule (codes "from") ∷ option_rule (codes "to")
    ∷ output_rule (codes "output") ∷ [])

abbrev pub draw_app : App
draw_app = with_rules (new_app (codes "draw"))
    (file_rule (codes "FILE") ∷ flag_rule (codes "graph") ∷ option_rule (codes "line") ∷ option_rule (codes "lines")
    ∷ output_rule (codes "output") ∷ [])

abbrev pub clients_app : App
clients_app = with_rules (new_app (codes "clients"))
    (number_rule (codes "N") CLIENTS ∷ number_rule (codes "ROUNDS") ROUNDS ∷ flag_rule (codes "locks") ∷ [])

abbrev pub explore_app : App
explore_app = with_rules (new_app (codes "explore"))
    (file_rule (codes "FILE") ∷ flag_rule (codes "json") ∷ option_rule (codes "states") ∷ option_rule (codes "witness")
    ∷ option_rule (codes "draw") ∷ flag_rule (codes "answers") ∷ flag_rule (codes "all-orders")
    ∷ flag_rule (codes "first") ∷ flag_rule (codes "predict") ∷ [])

abbrev pub apps : List App
apps = run_app ∷ check_app ∷ explain_app ∷ trace_app ∷ draw_app ∷ clients_app ∷ explore_app ∷ []

-- without its subcommands
abbrev pub program_app : App
program_app = record (new_app (codes "fencectl")) { top = record (new_app (codes "fencectl")).top { has_version = true } }

abbrev pub fencectl : App
fencectl = with_subcommands program_app apps

-- the rows of the table
abbrev pub rule_in : Text → ArgumentForm → Rule
rule_in name form.File = file_rule name
rule_in name form.Paths = paths_rule name
rule_in name form.Flag = flag_rule name
rule_in name (form.Option value) = option_rule name
rule_in name (form.Output value) = output_rule name
rule_in name (form.Number most) = number_rule name most

abbrev pub rule_by : Argument → Rule
rule_by argument = rule_in argument.name.now argument.form

abbrev pub app_by : Subcommand → App
app_by subcommand = with_rules (new_app subcommand.word.now) (map rule_by subcommand.arguments.now)

-- the command is that one, and none of its arguments is global
abbrev pub IsApp : App → Command → Type 0
IsApp app command = (app_of command ≡ app) × ((out-Command command).has_globals ≡ false)
