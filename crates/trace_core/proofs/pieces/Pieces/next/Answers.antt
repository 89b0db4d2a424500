use Rattle.std.proofs.Common.{sym, ap, ◌∙◌}
use Rattle.trace_core.proofs.Passing.{if-rest, if-all}
use Rattle.trace_core.proofs.pieces.Pieces.next.Goals as goal

pub returns-then-self-clause-next : goal.returns-then-self-clause-next
returns-then-self-clause-next c =
    if-rest c.args.self.now c.unread.result.now c.self.inside.whole c.unread.ensures.bytes (ap (λ s. s.whole) c.self.view_is) (sym (ap (λ s. s.long) c.self.view_is) ∙ c.if-self.true) c.rest_of_line.result c.rest_of_line.ensures.unread c.rest_of_line.ensures.rest

pub returns-else-self-clause-all : goal.returns-else-self-clause-all
returns-else-self-clause-all c =
    if-all c.args.self.now c.unread-else-self.result.now c.self.inside.whole c.unread-else-self.ensures.bytes (ap (λ s. s.whole) c.self.view_is) (sym (ap (λ s. s.long) c.self.view_is) ∙ c.if-self.false) c.first_piece.result c.first_piece.ensures.none
