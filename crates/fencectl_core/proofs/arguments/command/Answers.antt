-- Each subcommand is the next of those that are to come.
use Rattle.std.proofs.Common.{rules}
use Rattle.fencectl_core.proofs.Adding.{with_subcommands-next}
use Rattle.fencectl_core.proofs.arguments.command.Goals as goal

pub loop-form-preserved : goal.loop-form-preserved
loop-form-preserved c = record {
  app = with_subcommands-next _ _ _ c.subcommands-form-items.result.now c.loop-form.form-index _ _ c.loop-form-test.true
      c.in_ok-subcommand.ensures c.in_ok-command-2.ensures c.loop-form.invariant.app;
  local = search rules;
}
