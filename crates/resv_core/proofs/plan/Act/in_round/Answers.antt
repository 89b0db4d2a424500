use Rattle.std.proofs.Common.{◌≡◌, ◌*◌, ℕ, sym, ap, ◌∙◌, arith}
use Rattle.resv_core.specs.Rounds.{in_round}
use Rattle.resv_core.proofs.RoundActs.{act-first, point-fits}
use Rattle.resv_core.proofs.plan.Act.in_round.Goals as goal

pub returns-then-number-eq1 : goal.returns-then-number-eq1
returns-then-number-eq1 c =
    sym (ap (λ (n : ℕ). in_round n c.args.self.now) c.if-number-eq1.true ∙ act-first c.args.self.now)

pub overflow_mul-value : goal.overflow_mul-value
overflow_mul-value c =
    let fits = point-fits c.args.number c.in-Put.buffer c.in-Put.point c.in-Put.usage c.if-number-eq1.false (rw c.in-Put.is at c.requires) in
    let same : c.in-Put.point.value * c.from.result ≡ c.in-Put.point.value * c.args.number = ap (λ (n : ℕ). c.in-Put.point.value * n) c.from.ensures in
    omega (arith, fits, same)
