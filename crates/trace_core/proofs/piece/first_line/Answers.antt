use Rattle.std.proofs.Common.{sym, arith}
use Rattle.std.proofs.lemmas.Bool.Decides.{nat_tests}
use Rattle.trace_core.proofs.Lines.{IsLine-some, IsLine-last, feed-none}
use Rattle.trace_core.proofs.piece.first_line.Goals as goal

pub returns-in-Some-clause-line : goal.returns-in-Some-clause-line
returns-in-Some-clause-line c = IsLine-some c.args.bytes.now c.args.whole c.in-Some.end (sym c.in-Some.ensures.place)

pub returns-in-None-clause-line : goal.returns-in-None-clause-line
returns-in-None-clause-line c =
    IsLine-last c.args.bytes.now c.args.whole (sym c.in-None.ensures.place) c.if-whole.true (grind (arith, nat_tests))

pub returns-in-None-2-clause-none : goal.returns-in-None-2-clause-none
returns-in-None-2-clause-none c = feed-none c.args.bytes.now (sym c.in-None.ensures.place)
