-- Each argument is the next of those that are to come.
use Rattle.std.proofs.Common.{rules}
use Rattle.fencectl_core.proofs.Adding.{with_rules-next}
use Rattle.fencectl_core.proofs.arguments.subcommand.Goals as goal

pub loop-argument-preserved : goal.loop-argument-preserved
loop-argument-preserved c = record {
  app = with_rules-next _ _ _ c.args.form.now.arguments.now c.loop-argument.argument-index _ _ c.loop-argument-test.true
      c.argument_of.ensures.rule c.argument_of.ensures.local c.in_ok-command.ensures c.loop-argument.invariant.app;
  local = search rules;
}
