use Rattle.std.proofs.Common.{◌≡◌, ◌^◌, ◌<◌, ◌≤◌, ◌*◌, ℕ, sym, ap, ◌∙◌, arith, inl, inr, true≢false}
use Rattle.std.proofs.lemmas.Bool.{cases_lt}
use Rattle.resv_core.specs.Rounds.{rounds_of}
use Rattle.resv_core.specs.Settled.{increments_of}
use Rattle.clients_core.proofs.PlansOfRounds.{increments-all, increments-past, product-fits, product-is}
use Rattle.clients_core.proofs.plans.total_increment.Goals as goal

pub returns-in_err-increment_of_all-clause-fits : goal.returns-in_err-increment_of_all-clause-fits
returns-in_err-increment_of_all-clause-fits c =
    let round = c.round-round.result in
    let some : 0 < round.times = omega arith in
    let past : 2 ^ 64 ≤ increments_of round.acts.now = elim (cases_lt (increments_of round.acts.now) (2 ^ 64)) [
      | inl low ↦ absurd (true≢false (sym (c.in_err-increment_of_all.ensures.fits.1 low)))
      | inr past ↦ past
    ] in
    let all = increments-past round.acts.now round.times some past in
    let same : increments_of (rounds_of round.acts.now round.times) ≡ increments_of c.args.plan.now = ap increments_of c.round-round.ensures.acts in
    rw c.from_residual.ensures ((λ found. absurd (true≢false (sym found))), (λ low. absurd (omega (arith, low, all, same))))

pub returns-clause-fits : goal.returns-clause-fits
returns-clause-fits c =
    let round = c.round-round.result in
    let one = c.in_ok-increment_of_all.field-0 in
    let total : c.in_ok-increment_of_all.field-0 * c.from.result ≡ increments_of c.args.plan.now =
    ap (λ (n : ℕ). one * n) c.from.ensures
    ∙ ap (λ (n : ℕ). n * round.times) c.in_ok-increment_of_all.ensures.total
    ∙ sym (increments-all round.acts.now round.times)
    ∙ ap increments_of c.round-round.ensures.acts in
    product-fits c.checked_mul.result (one * c.from.result) (increments_of c.args.plan.now) total c.checked_mul.ensures

pub returns-clause-total : goal.returns-clause-total
returns-clause-total c =
    let round = c.round-round.result in
    let one = c.in_ok-increment_of_all.field-0 in
    let total : c.in_ok-increment_of_all.field-0 * c.from.result ≡ increments_of c.args.plan.now =
    ap (λ (n : ℕ). one * n) c.from.ensures
    ∙ ap (λ (n : ℕ). n * round.times) c.in_ok-increment_of_all.ensures.total
    ∙ sym (increments-all round.acts.now round.times)
    ∙ ap increments_of c.round-round.ensures.acts in
    product-is c.checked_mul.result (one * c.from.result) (increments_of c.args.plan.now) total c.checked_mul.ensures
