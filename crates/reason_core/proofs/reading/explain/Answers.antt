use Rattle.std.proofs.Common.{inr}
use Rattle.std.proofs.lemmas.Result.{err_from_is_err_and}
use Rattle.script_core.proofs.Runs.{RunsScript-unbegun}
use Rattle.reason_core.proofs.NotedLines.{NotesFollow-none}
use Rattle.reason_core.proofs.reading.explain.Goals as goal

pub returns-in_err-explainer-clause-run : goal.returns-in_err-explainer-clause-run
returns-in_err-explainer-clause-run g c =
    let q = err_from_is_err_and c.from_residual.result c.from_residual.ensures.1 in
    rw (q.1, q.2) (RunsScript-unbegun _ _ _ (inr c.in_err-explainer.ensures.refusals))

pub returns-in_err-explainer-clause-follows : goal.returns-in_err-explainer-clause-follows
returns-in_err-explainer-clause-follows g c = NotesFollow-none g.N.Write.contents (g.R.Read.remaining c.args.reader.now) (g.W.Write.contents c.args.writer.now) c.args.notes.now
