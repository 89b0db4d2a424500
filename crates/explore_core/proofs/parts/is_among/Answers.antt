use Rattle.std.proofs.lemmas.Bool.{false≢true}
use Rattle.explore_core.proofs.Parting.{Contains-at}
use Rattle.explore_core.proofs.parts.is_among.Goals as goal

pub returns-then-is_at : goal.returns-then-is_at
returns-then-is_at c = λ is. c.is_at.ensures c.if-is_at.true

pub returns-then-other-file : goal.returns-then-other-file
returns-then-other-file c = λ is. Contains-at c.args.others.now c.loop-other.other-index _ c.args.file c.loop-other-test.true c.if-other-file.true

pub returns : goal.returns
returns c = λ bad. absurd (false≢true bad)
