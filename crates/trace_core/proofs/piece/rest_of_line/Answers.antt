use Rattle.std.proofs.Common.{sym}
use Rattle.trace_core.proofs.Lines.{IsRestOfLine-some, IsRestOfLine-last, feed-none}
use Rattle.trace_core.proofs.piece.rest_of_line.Goals as goal
use Rattle.trace_core.proofs.piece.rest_of_line.Goals.{in-Some, in-None}

pub returns-in-None-2-clause-none : goal.returns-in-None-2-clause-none
returns-in-None-2-clause-none c = (c.if-whole.false, feed-none c.args.bytes.now (sym c.in-None.ensures.place))

pub returns-clause-rest : goal.returns-clause-rest
returns-clause-rest c = elim c.match-line_feed.branch [
  | in-Some w ↦ rw (c.unread_line.ensures.length, w.length-is) (IsRestOfLine-some c.args.bytes.now c.args.whole w.in-Some.end (sym w.in-Some.ensures.place))
  | in-None w ↦ rw (c.unread_line.ensures.length, w.length-is) (IsRestOfLine-last c.args.bytes.now c.args.whole (sym w.in-None.ensures.place) w.if-whole.true)
]
