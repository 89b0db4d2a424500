use Rattle.std.proofs.Common.{◌∙◌, arith}
use Rattle.words_core.proofs.LoadingAll.{put_closed}
use Rattle.words_core.proofs.clocks.put.Goals as goal

pub returns-then-clock-clause-put : goal.returns-then-clock-clause-put
returns-then-clock-clause-put c =
    c.close.ensures.clocks ∙ put_closed c.args.clocks.now c.raise_to.new.self c.args.ctx c.args.clock c.requires.new c.raise_to.ensures.clocks c.raise_to.ensures.context.0 (omega arith) c.if-clock.true
