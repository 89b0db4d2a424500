use Rattle.std.proofs.Common.{◌≡◌, ◌∙◌, ℕ, sym, ap, arith}
use Rattle.words_core.specs.theorem.Layout.{value_word, mark_word}
use Rattle.words_core.specs.theorem.Loads.{clock_marked}
use Rattle.words_core.specs.theorem.Seat.{SeatModel, seen}
use Rattle.words_core.specs.theorem.Trace.{load}
use Rattle.words_core.proofs.LoadingAll.{clock_marked-closed, seen_mark-loaded}
use Rattle.words_core.proofs.Seen.{seen-with_step_later}
use Rattle.words_core.proofs.words.Words.clock.Goals as goal

pub returns-then-mark-gt0-clause-found : goal.returns-then-mark-gt0-clause-found
returns-then-mark-gt0-clause-found c =
    let ctx = c.args.ctx in
    let mark = c.mark-mark.result in
    let after = c.mark-mark.new.seat in
    let is : seen after (mark_word ctx) ≡ mark = ap (λ (s : SeatModel). seen s (mark_word ctx)) c.mark-mark.ensures.entered ∙ seen-with_step_later c.args.seat.now (load (mark_word ctx) mark) c.mark-mark.ensures.later in
    sym (ap (λ (m : ℕ). clock_marked m (seen after (value_word ctx))) is ∙ clock_marked-closed mark (seen after (value_word ctx)) (omega arith))

pub returns-else-mark-gt0-clause-found : goal.returns-else-mark-gt0-clause-found
returns-else-mark-gt0-clause-found c =
    let ctx = c.args.ctx in
    let mark = c.mark-mark.result in
    let between = c.mark-mark.new.seat in
    let is : seen between (mark_word ctx) ≡ mark = ap (λ (s : SeatModel). seen s (mark_word ctx)) c.mark-mark.ensures.entered ∙ seen-with_step_later c.args.seat.now (load (mark_word ctx) mark) c.mark-mark.ensures.later in
    let zero : mark ≡ 0 = omega arith in
    let after : seen c.load-value.new.seat (mark_word ctx) ≡ 0 = ap (λ (s : SeatModel). seen s (mark_word ctx)) c.load-value.ensures.entered ∙ seen_mark-loaded between ctx c.load-value.result ∙ is ∙ zero in
    sym (λ i. clock_marked (after i) (c.load-value.ensures.seen i))
