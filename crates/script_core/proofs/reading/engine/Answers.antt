use Rattle.std.proofs.Common.{inr}
use Rattle.std.proofs.lemmas.Result.{err_from_is_err_and}
use Rattle.script_core.proofs.Runs.{RunsScript-unbegun}
use Rattle.script_core.proofs.reading.engine.Goals as goal

pub returns-in_err-answers : goal.returns-in_err-answers
returns-in_err-answers g c =
    let q = err_from_is_err_and c.from_residual.result c.from_residual.ensures.1 in
    let unread = g.R.Read.remaining c.args.reader.now in
    record { run = rw (q.1, q.2) (RunsScript-unbegun unread (g.W.Write.contents c.args.writer.now) _ (inr c.in_err-answers.ensures.refusals)) }
