-- By the ending.
use Rattle.std.proofs.Common.{refl}
use Rattle.line_core.proofs.Handling.{if-err, not-failed, on-ok}
use Rattle.line_core.proofs.handler.end_script.Goals as goal

pub returns-in-Whole-clause-ok : goal.returns-in-Whole-clause-ok
returns-in-Whole-clause-ok g c =
    let whole = not-failed c.args.ending c.in-Whole.is in
    on-ok c.handle_last.result (λ handled. record { whole = λ _. handled; broken = λ failed. absurd (whole failed) }) c.handle_last.ensures.ok

pub returns-in-Whole-clause-err : goal.returns-in-Whole-clause-err
returns-in-Whole-clause-err g c =
    let whole = not-failed c.args.ending c.in-Whole.is in
    if-err c.handle_last.result (λ e fails. record { whole = whole; at = fails }) c.handle_last.ensures.err

pub returns-in-Failed-clause-ok : goal.returns-in-Failed-clause-ok
returns-in-Failed-clause-ok g c = record { whole = λ other. absurd (other c.in-Failed.is); broken = λ _. refl }
