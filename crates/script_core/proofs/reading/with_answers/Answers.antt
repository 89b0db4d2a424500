-- Each exit follows from the lines that were handled.
use Rattle.std.proofs.Common.{inl}
use Rattle.std.proofs.lemmas.Result.{err_from_is_err_and}
use Rattle.line_core.proofs.Handling.{all-handled}
use Rattle.script_core.proofs.Handled.{HasHandled-none}
use Rattle.script_core.proofs.Runs.{RunsScript-broken, RunsScript-ended, RunsScript-stopped}
use Rattle.script_core.proofs.reading.with_answers.Goals as goal

pub for_each_line-requires : goal.for_each_line-requires
for_each_line-requires g c = record { fresh = HasHandled-none _ _ c.requires.fresh }

pub returns-in_err-ending : goal.returns-in_err-ending
returns-in_err-ending g c =
    let q = err_from_is_err_and c.from_residual.result c.from_residual.ensures.1 in
    let s = c.in_err-ending.ensures.err in
    record { run = rw (q.1, q.2) (RunsScript-stopped _ _ _ _ c.in_err-ending.ensures.within _ s.lines s.said s.begins s.at) }

pub returns-in_err-totals : goal.returns-in_err-totals
returns-in_err-totals g c =
    let q = err_from_is_err_and c.from_residual-in_err-totals.result c.from_residual-in_err-totals.ensures.1 in
    let b = c.in_ok-ending.ensures.ok in
    let at = all-handled _ _ c.in_ok-ending.ending _ _ b in
    let written = c.in_err-totals.ensures.err b.said (g.W.Write.contents c.args.writer.now) at.answered in
    record {
      run = rw (q.1, q.2) (RunsScript-stopped _ _ _ _ c.in_ok-ending.ensures.within _ b.lines b.said b.begins (record { is = inl c.in_err-totals.ensures.refusals; written = written }));
    }

pub returns-in-Failed : goal.returns-in-Failed
returns-in-Failed g c =
    let b = c.in_ok-ending.ensures.ok in
    let at = all-handled _ _ c.in_ok-ending.ending _ _ b in
    let w = c.in_ok-totals.ensures.ok b.said (g.W.Write.contents c.args.writer.now) at.answered in
    record { run = RunsScript-broken _ _ _ _ c.in_ok-ending.ensures.within _ c.in_ok-ending.ending _ _ b c.in_ok-totals.totals w c.in-Failed.is }

pub returns-in-Whole : goal.returns-in-Whole
returns-in-Whole g c =
    let b = c.in_ok-ending.ensures.ok in
    let at = all-handled _ _ c.in_ok-ending.ending _ _ b in
    let w = c.in_ok-totals.ensures.ok b.said (g.W.Write.contents c.args.writer.now) at.answered in
    record { run = RunsScript-ended _ _ _ _ c.in_ok-ending.ensures.within _ c.in_ok-ending.ending _ _ b c.in_ok-totals.totals w c.in-Whole.is }
