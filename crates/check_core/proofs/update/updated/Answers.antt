-- The rewritten text is the update that may be too long.
use Rattle.std.proofs.Common.{inl, inr}
use Rattle.std.proofs.lemmas.Result.{err_from_is_err_and}
use Rattle.check_core.specs.Update.{IsLongUpdate}
use Rattle.check_core.proofs.Refusals.{not-limit}
use Rattle.check_core.proofs.update.updated.Goals as goal

pub returns-then-is_too_long-clause-limit : goal.returns-then-is_too_long-clause-limit
returns-then-is_too_long-clause-limit c limit = inl (c.is_too_long.ensures.long c.if-is_too_long.true)

pub returns-in_err-rewrite-clause-limit : goal.returns-in_err-rewrite-clause-limit
returns-in_err-rewrite-clause-limit c =
    let p = err_from_is_err_and c.from_residual.result c.from_residual.ensures.1 in
    rw (p.1, p.2) (not-limit _ c.in_err-rewrite.ensures.refusals)

pub returns-in_err-check_text-clause-limit : goal.returns-in_err-check_text-clause-limit
returns-in_err-check_text-clause-limit c =
    let p = err_from_is_err_and c.from_residual-in_err-check_text.result c.from_residual-in_err-check_text.ensures.1 in
    rw (p.1, p.2) (λ limit.
    (let long = c.in_err-check_text.ensures.limit limit in
    let is : IsLongUpdate c.args.script.now c.as_slice.result.now = record {
      answers = long.0;
      asked = rw c.as_slice.ensures.value c.in_ok-rewrite.ensures.asked;
      kept = rw c.as_slice.ensures.value c.in_ok-rewrite.ensures.kept;
      long = long.1;
    } in
    inr (c.as_slice.result.now, is)))
