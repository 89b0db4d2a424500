use Rattle.std.proofs.Common.{◌<◌, ◌≤◌, sym, ap, ◌∙◌, subst, arith}
use Rattle.words_core.specs.theorem.Layout.{value_word, claim_word, mark_word}
use Rattle.words_core.specs.theorem.Seat.{SeatModel, added_to}
use Rattle.words_core.specs.theorem.Trace.{add, wins_of, shuts_of}
use Rattle.words_core.proofs.Driving.{wins_of-add, added_to-add, shuts_of-other}
use Rattle.words_core.proofs.driver.Driver.inc.Goals as goal

pub invariant_of-self : goal.invariant_of-self
invariant_of-self c =
    let ctx = c.self.inside.ctx in
    let seat = c.self.inside.seat in
    let entered = c.add-self-inside.ensures.entered in
    let value = c.add-self-inside.result in (
      subst (λ (s : SeatModel). 0 < wins_of (claim_word ctx) s.trace) (sym entered) (wins_of-add seat ctx c.args.n value c.self.invariant.0),
      c.add-self-inside.ensures.value ∙ sym (ap (λ (s : SeatModel). added_to s ctx) entered ∙ added_to-add seat ctx c.args.n value),
      subst (λ (s : SeatModel). ctx ≤ s.words.contexts) (sym entered) c.self.invariant.2,
      ap (λ (s : SeatModel). shuts_of (mark_word ctx) s.trace) entered ∙ (shuts_of-other seat ctx (add (value_word ctx) c.args.n value) (λ bad. absurd (omega arith)) ∙ c.self.invariant.3),
    )
