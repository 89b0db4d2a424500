-- Each exit follows from the lines that were handled.
use Rattle.std.proofs.Common.{subst, inl}
use Rattle.std.proofs.lemmas.Result.{err_from_is_err_and}
use Rattle.line_core.proofs.Handling.{all-handled}
use Rattle.line_core.proofs.Inputs.{reads_front}
use Rattle.json_core.specs.Answering.{CountsAnswers}
use Rattle.json_core.proofs.Counting.{Grows-trans, answers-counted, script-counted}
use Rattle.json_core.proofs.Runs.{RunsJson-whole, RunsJson-unread, RunsJson-fault}
use Rattle.json_core.proofs.reading.with_objects.Goals as goal

pub returns-in_err-ending : goal.returns-in_err-ending
returns-in_err-ending g c =
    let q = err_from_is_err_and c.from_residual.result c.from_residual.ensures.1 in
    let s = c.in_err-ending.ensures.err in
    record { run = rw (q.1, q.2) (RunsJson-fault _ _ _ _ c.in_err-ending.ensures.within s.at.grows _ s.at.is) }

pub returns-in_err-totals : goal.returns-in_err-totals
returns-in_err-totals g c =
    let q = err_from_is_err_and c.from_residual-in_err-totals.result c.from_residual-in_err-totals.ensures.1 in
    let at = all-handled _ _ c.in_ok-ending.ending _ _ c.in_ok-ending.ensures.ok in
    record { run = rw (q.1, q.2) (RunsJson-fault _ _ _ _ c.in_ok-ending.ensures.within (Grows-trans _ _ _ at.grows c.finish.ensures.grows) _ (inl c.in_err-totals.ensures.refusals)) }

pub returns-in-Failed : goal.returns-in-Failed
returns-in-Failed g c =
    let at = all-handled _ _ c.in_ok-ending.ending _ _ c.in_ok-ending.ensures.ok in
    record { run = RunsJson-unread _ _ _ _ c.in_ok-ending.ensures.within (Grows-trans _ _ _ at.grows c.finish.ensures.grows) }

pub returns-in-Whole : goal.returns-in-Whole
returns-in-Whole g c =
    let b = c.in_ok-ending.ensures.ok in
    let ending = c.in_ok-ending.ending in
    let at = all-handled _ _ ending _ _ b in
    let now = c.for_each_line.new.handler in
    let counted = subst (λ said. CountsAnswers said now.totals) b.is (answers-counted at) in
    let answers = script-counted _ _ b.bytes ending b.read now.totals counted c.in-Whole.is in
    record { run = RunsJson-whole _ _ _ _ c.in_ok-ending.ensures.within (Grows-trans _ _ _ at.grows c.finish.ensures.grows) c.in_ok-totals.totals (reads_front _ _ b.bytes ending b.read c.in-Whole.is) (rw c.in_ok-totals.ensures.totals answers) }
