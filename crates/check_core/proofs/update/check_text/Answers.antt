use Rattle.std.proofs.Common.{◌≡◌, arith}
use Rattle.std.proofs.lemmas.Result.{err_from_is_err_and}
use Rattle.check_core.proofs.Passing.{passes}
use Rattle.check_core.proofs.Refusals.{not-limit}
use Rattle.check_core.proofs.update.check_text.Goals as goal

pub returns-in_err-differing-clause-limit : goal.returns-in_err-differing-clause-limit
returns-in_err-differing-clause-limit c =
    let p = err_from_is_err_and c.from_residual.result c.from_residual.ensures.1 in
    rw (p.1, p.2) (not-limit _ c.in_err-differing.ensures.refusals)

pub returns-clause-passes : goal.returns-clause-passes
returns-clause-passes c =
    let none : c.in_ok-differing.differing ≡ 0 = omega (arith, c.if-differing-gt0.false) in
    passes c.args.text.now (c.is_too_long.ensures.fits c.if-is_too_long.false) (c.in_ok-differing.ensures.answers none)

pub returns-then-is_too_long-clause-limit : goal.returns-then-is_too_long-clause-limit
returns-then-is_too_long-clause-limit c limit =
    let none : c.in_ok-differing.differing ≡ 0 = omega (arith, c.if-differing-gt0.false) in
    (c.in_ok-differing.ensures.answers none, c.is_too_long.ensures.long c.if-is_too_long.true)
