use Rattle.std.proofs.Common.{sym, ◌∙◌}
use Rattle.explore_core.proofs.Replaying.{asked-history}
use Rattle.explore_core.proofs.position.make_again.Goals as goal

pub returns-then-keeps_world : goal.returns-then-keeps_world
returns-then-keeps_world c = record {
  along = λ history has. asked-history c.args.desk.now history c.args.command (sym c.keeps_world.ensures ∙ c.if-keeps_world.true) has;
}

pub returns : goal.returns
returns c = record {
  along = λ history has. (c.in_ok-make.ensures.made history has).1;
}
