use Rattle.std.proofs.Common.{◌≡◌, map, drop, false}
use Rattle.clap.specs.Words.{app_of}
use Rattle.clap.specs.declared.builder.command.Command.TheViews.{out-Command}
use Rattle.fencectl_core.specs.Words.{app_by, rule_by, with_rules}
use Rattle.fencectl_core.proofs.arguments.subcommand.Given as goal

abbrev pub invariant-loop-argument : goal.invariant-loop-argument
invariant-loop-argument l = record {
  app : with_rules (app_of l.command) (map rule_by (drop l.argument-index l.argument-items)) ≡ app_by l.form;
  local : (out-Command l.command).has_globals ≡ false;
}
