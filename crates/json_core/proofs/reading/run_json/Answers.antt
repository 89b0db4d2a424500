use Rattle.std.proofs.Common.{◌+◌, inr}
use Rattle.std.proofs.lemmas.Result.{err_from_is_err_and}
use Rattle.line_core.specs.declared.script.TheConstants.{SCRIPT_BYTES}
use Rattle.script_core.proofs.Runs.{ConsumesAtMost-none}
use Rattle.json_core.proofs.Counting.{Grows-none}
use Rattle.json_core.proofs.Runs.{RunsJson-fault}
use Rattle.json_core.proofs.reading.run_json.Goals as goal

pub returns-in_err-objects : goal.returns-in_err-objects
returns-in_err-objects g c =
    let q = err_from_is_err_and c.from_residual.result c.from_residual.ensures.1 in
    let unread = g.R.Read.remaining c.args.reader.now in
    record { run = rw (q.1, q.2) (RunsJson-fault _ _ _ _ (ConsumesAtMost-none (SCRIPT_BYTES + 1) unread) (Grows-none _) _ (inr c.in_err-objects.ensures.refusals)) }
