use Rattle.std.proofs.Common.{take}
use Rattle.std.specs.List.{flat_map}
use Rattle.std.proofs.lemmas.Result.{err_from_is_err_and}
use Rattle.report_core.specs.Answer.{fired_text}
use Rattle.report_core.proofs.Fronts.{StartsWith-trans}
use Rattle.report_core.proofs.answer.push_fired.Goals as goal

pub returns-in_err-push_callback-clause-err : goal.returns-in_err-push_callback-clause-err
returns-in_err-push_callback-clause-err c =
    let old = c.args.out.now.items in
    let so_far = flat_map fired_text (take c.loop-cookie.cookie-index c.args.fired.now) in
    let begins = StartsWith-trans c.push_callback.new.out.items c.loop-cookie.out.items old so_far c.in_err-push_callback.ensures.err.1 c.loop-cookie.invariant in
    let p = err_from_is_err_and c.from_residual.result c.from_residual.ensures.1 in
    rw (p.1, p.2) (c.in_err-push_callback.ensures.err.0, begins)
