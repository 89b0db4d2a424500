-- The command line, piece by piece.
use Rattle.std.proofs.Common.{ℕ, ◌+◌, ◌<◌, false, List, length, get_or, drop, drop-cons, add-one, ◌≡◌, ◌∙◌, ap, map}
use Rattle.clap.specs.declared.builder.arg.Arg.{Arg}
use Rattle.clap.specs.declared.builder.command.Command.{Command}
use Rattle.clap.specs.Words.{AddsArg, AddsSubcommand, App, app_of, rule_of, with_rule, with_subcommand}
use Rattle.fencectl_core.specs.declared.subcommands.Argument.{Argument}
use Rattle.fencectl_core.specs.declared.subcommands.Subcommand.{Subcommand}
use Rattle.fencectl_core.specs.Words.{IsApp, app_by, rule_by, with_rules, with_subcommands}

-- the next of the arguments that are to come
pub with_rules-next : (old new : Command) (arg : Arg) (rows : List Argument) (i : ℕ) (d : Argument) (all : App)
    → i < length rows → rule_of arg ≡ rule_by (get_or rows i d) → arg.global ≡ false → AddsArg old arg new
    → with_rules (app_of old) (map rule_by (drop i rows)) ≡ all
    → with_rules (app_of new) (map rule_by (drop (i + 1) rows)) ≡ all
with_rules-next old new arg rows i d all within is local adds to_come =
    let one : app_of new ≡ with_rule (app_of old) (rule_by (get_or rows i d)) =
    adds.shape local ∙ ap (with_rule (app_of old)) is in
    rw (one, add-one) (rw (drop-cons rows i d within) at to_come)

-- the next of the subcommands that are to come
pub with_subcommands-next : (old sub new : Command) (rows : List Subcommand) (i : ℕ) (d : Subcommand) (all : App)
    → i < length rows → IsApp (app_by (get_or rows i d)) sub → AddsSubcommand old sub new
    → with_subcommands (app_of old) (map app_by (drop i rows)) ≡ all
    → with_subcommands (app_of new) (map app_by (drop (i + 1) rows)) ≡ all
with_subcommands-next old sub new rows i d all within is adds to_come =
    let one : app_of new ≡ with_subcommand (app_of old) (app_by (get_or rows i d)).top =
    adds.shape is.1 ∙ ap (λ (a : App). with_subcommand (app_of old) a.top) is.0 in
    rw (one, add-one) (rw (drop-cons rows i d within) at to_come)
