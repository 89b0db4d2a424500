use Rattle.std.proofs.Common.{◌≡◌, map, drop, false}
use Rattle.clap.specs.Words.{app_of}
use Rattle.clap.specs.declared.builder.command.Command.TheViews.{out-Command}
use Rattle.fencectl_core.specs.Words.{app_by, fencectl, with_subcommands}
use Rattle.fencectl_core.proofs.arguments.command.Given as goal

abbrev pub invariant-loop-form : goal.invariant-loop-form
invariant-loop-form l = record {
  app : with_subcommands (app_of l.command) (map app_by (drop l.form-index l.form-items)) ≡ fencectl;
  local : (out-Command l.command).has_globals ≡ false;
}
