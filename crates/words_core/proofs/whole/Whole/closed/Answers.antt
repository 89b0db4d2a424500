use Rattle.std.proofs.Common.{◌+◌, ◌∙◌, sym, ap, arith}
use Rattle.words_core.specs.theorem.Layout.{mark_word}
use Rattle.words_core.specs.theorem.Seat.{SeatModel, added_to}
use Rattle.words_core.specs.theorem.Trace.{shuts_of, mark_of}
use Rattle.words_core.proofs.Driving.{shuts_of-marked, shut_if_marked}
use Rattle.words_core.proofs.whole.Whole.closed.Goals as goal

pub returns-clause-last : goal.returns-clause-last
returns-clause-last c = λ set.
    let w = mark_word c.args.ctx in
    let load = c.total_mark.ensures in
    let seat = c.self.view_is in
    let shut = shut_if_marked w c.total_mark.result c.self.inside.seat.trace load.state set in
    ap (λ (s : SeatModel). mark_of w s.trace) (sym seat) ∙ sym load.state ∙ load.last shut ∙ ap (λ (s : SeatModel). added_to s c.args.ctx + 1) seat

pub returns-clause-state : goal.returns-clause-state
returns-clause-state c =
    let load = c.total_mark.ensures in
    ap (λ (s : SeatModel). shuts_of (mark_word c.args.ctx) s.trace) (sym c.self.view_is)
    ∙ shuts_of-marked (mark_word c.args.ctx) c.total_mark.result c.self.inside.seat.trace load.state load.once (λ some. let last = load.last some in omega arith)
