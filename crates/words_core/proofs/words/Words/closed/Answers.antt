use Rattle.std.proofs.Common.{◌≡◌, ◌<◌, ◌∙◌, ℕ, nat_lt, sym, ap, subst, arith}
use Rattle.std.proofs.lemmas.Bool.Decides.{nat_tests}
use Rattle.words_core.specs.theorem.Layout.{value_word, mark_word}
use Rattle.words_core.specs.theorem.Seat.{SeatModel, seen, with_step}
use Rattle.words_core.specs.theorem.Trace.{load}
use Rattle.words_core.proofs.LoadingAll.{clock_marked_test, marked_if_closed, clock_marked_stays}
use Rattle.words_core.proofs.Seen.{seen-with_step_later}
use Rattle.words_core.proofs.words.Words.closed.Goals as goal

pub returns : goal.returns
returns c =
    let ctx = c.args.ctx in
    let w = mark_word ctx in
    let before = c.args.seat.now in
    let after = c.mark.new.seat in
    let mark = c.mark.result in
    let at = c.mark.ensures in
    let is : seen after w ≡ mark = ap (λ (s : SeatModel). seen s w) at.entered ∙ seen-with_step_later before (load w mark) at.later in
    record {
      entered = at.entered ∙ ap (λ (m : ℕ). with_step before (load w m)) (sym is);
      found = ap (nat_lt 0) (sym is) ∙ clock_marked_test (seen after w) (seen after (value_word ctx));
      last = λ set. subst (λ (m : ℕ). seen before (value_word ctx) < m) (sym is) (at.last (grind (arith, nat_tests)));
      stays = λ closed. clock_marked_stays (seen after w) (seen before w) (seen before (value_word ctx)) (seen after (value_word ctx)) (is ∙ at.stays (marked_if_closed (seen before w) (seen before (value_word ctx)) closed)) closed;
    }
