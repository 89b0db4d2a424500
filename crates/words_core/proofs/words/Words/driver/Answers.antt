use Rattle.std.proofs.Common.{◌≡◌, ◌<◌, ◌≤◌, sym, ap, ◌∙◌, refl, subst, arith}
use Rattle.words_core.specs.theorem.Layout.{claim_word, mark_word}
use Rattle.words_core.specs.theorem.Seat.{SeatModel, added_to}
use Rattle.words_core.specs.theorem.Trace.{won, wins_of, shuts_of}
use Rattle.words_core.specs.theorem.Words.{WordsModel}
use Rattle.words_core.proofs.Driving.{wins_of-won, added_to-won, shuts_of-other}
use Rattle.words_core.proofs.words.Words.driver.Goals as goal

pub invariant_of-result : goal.invariant_of-result
invariant_of-result c =
    let ctx = c.args.ctx in
    let entered = c.if-claim.ensures.entered in
    let first = c.if-claim.ensures.first refl in
    let wins = wins_of-won c.args.seat (claim_word ctx) in (
      subst (λ (s : SeatModel). 0 < wins_of (claim_word ctx) s.trace) (sym entered) (omega arith),
      sym (ap (λ (s : SeatModel). added_to s ctx) entered ∙ (added_to-won c.args.seat ctx ∙ first.2)),
      subst (λ (s : SeatModel). ctx ≤ s.words.contexts) (sym entered) (subst (λ (w : WordsModel). ctx ≤ w.contexts) (sym c.requires.own) c.requires.context),
      ap (λ (s : SeatModel). shuts_of (mark_word ctx) s.trace) entered ∙ (shuts_of-other c.args.seat ctx (won (claim_word ctx)) (λ bad. absurd (omega arith)) ∙ first.3),
    )

pub returns-then-claim-clause-first : goal.returns-then-claim-clause-first
returns-then-claim-clause-first c =
    let ctx = c.args.ctx in
    let first = c.if-claim.ensures.first refl in
    let wins = wins_of-won c.args.seat (claim_word ctx) in
    subst (λ (s : SeatModel). wins_of (claim_word ctx) s.trace ≡ 1) (sym c.if-claim.ensures.entered) (omega arith)
