-- The texts of statuses.
use Rattle.std.proofs.Common.{◌≡◌, sym, ap, arith, [], ◌∷◌}
use Rattle.std.proofs.lemmas.Fmt.{decimal_digit}
use Rattle.point_core.specs.declared.status.Status.TheVariants.{Active, Signalled, Cancelled}
use Rattle.report_core.specs.Status.{status_text}

pub text-Active : 48 ∷ [] ≡ status_text Active
text-Active = sym (decimal_digit 0 (omega arith))

pub text-Signalled : 49 ∷ [] ≡ status_text Signalled
text-Signalled = sym (decimal_digit 1 (omega arith))

pub text-Cancelled : 45 ∷ 50 ∷ [] ≡ status_text Cancelled
text-Cancelled = ap (λ text. 45 ∷ text) (sym (decimal_digit 2 (omega arith)))
