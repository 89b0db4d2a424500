use Rattle.std.proofs.Common.{ℕ, ◌<◌, ◌^◌, sym, subst}
use Rattle.draw_core.proofs.window.number_of.Goals as goal

pub returns-in-Ok : goal.returns-in-Ok
returns-in-Ok c =
    let parsed = c.in-Ok.ensures.value.0 in
    record { number = record { digits = parsed.0.0; value = parsed.1; fits = subst (λ (n : ℕ). n < 2 ^ 32) (sym parsed.1) parsed.0.1 } }

pub returns-in-Err : goal.returns-in-Err
returns-in-Err c = record {
  number = λ number spells. c.in-Err.ensures.value.0 (spells.digits, subst (λ (n : ℕ). n < 2 ^ 32) spells.value spells.fits);
}
