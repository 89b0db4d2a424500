-- Each exit follows from the lines that were handled.
use Rattle.std.proofs.Common.{[], inl}
use Rattle.std.proofs.lemmas.Result.{err_from_is_err_and}
use Rattle.line_core.proofs.Handling.{all-handled}
use Rattle.script_core.proofs.Handled.{HasHandled-none}
use Rattle.script_core.proofs.Runs.{RunsScript-broken, RunsScript-ended, RunsScript-stopped}
use Rattle.reason_core.proofs.NotedLines.{NotesAmong-grows, NotesAmong-none, NotesFollow-from}
use Rattle.reason_core.proofs.reading.with_explainer.Goals as goal

pub for_each_line-requires : goal.for_each_line-requires
for_each_line-requires g c = record {
  fresh = record {
    handled = HasHandled-none _ _ c.requires.fresh;
    notes = NotesAmong-none g.N.Write.contents [] (g.W.Write.contents c.args.writer.now) c.args.notes.now;
  };
}

pub returns-in_err-ending-clause-run : goal.returns-in_err-ending-clause-run
returns-in_err-ending-clause-run g c =
    let q = err_from_is_err_and c.from_residual.result c.from_residual.ensures.1 in
    let s = c.in_err-ending.ensures.err in
    rw (q.1, q.2) (RunsScript-stopped _ _ _ _ c.in_err-ending.ensures.within _ s.lines s.said s.begins s.at.stopped)

pub returns-in_err-ending-clause-follows : goal.returns-in_err-ending-clause-follows
returns-in_err-ending-clause-follows g c =
    let s = c.in_err-ending.ensures.err in
    NotesFollow-from g.N.Write.contents _ _ _ _ _ s.lines s.said s.begins s.at.notes

pub returns-in_err-totals-clause-run : goal.returns-in_err-totals-clause-run
returns-in_err-totals-clause-run g c =
    let q = err_from_is_err_and c.from_residual-in_err-totals.result c.from_residual-in_err-totals.ensures.1 in
    let b = c.in_ok-ending.ensures.ok in
    let at = all-handled _ _ c.in_ok-ending.ending _ _ b in
    let written = c.in_err-totals.ensures.err b.said (g.W.Write.contents c.args.writer.now) at.handled.answered in
    rw (q.1, q.2) (RunsScript-stopped _ _ _ _ c.in_ok-ending.ensures.within _ b.lines b.said b.begins (record { is = inl c.in_err-totals.ensures.refusals; written = written }))

pub returns-in_err-totals-clause-follows : goal.returns-in_err-totals-clause-follows
returns-in_err-totals-clause-follows g c =
    let b = c.in_ok-ending.ensures.ok in
    let at = all-handled _ _ c.in_ok-ending.ending _ _ b in
    NotesFollow-from g.N.Write.contents _ _ _ _ _ b.lines b.said b.begins (NotesAmong-grows g.N.Write.contents b.said _ _ _ _ _ at.notes c.in_err-totals.ensures.grows)

pub returns-in-Failed-clause-run : goal.returns-in-Failed-clause-run
returns-in-Failed-clause-run g c =
    let b = c.in_ok-ending.ensures.ok in
    let at = all-handled _ _ c.in_ok-ending.ending _ _ b in
    let w = c.in_ok-totals.ensures.ok b.said (g.W.Write.contents c.args.writer.now) at.handled.answered in
    RunsScript-broken _ _ _ _ c.in_ok-ending.ensures.within _ c.in_ok-ending.ending _ _ b c.in_ok-totals.totals w c.in-Failed.is

pub returns-in-Failed-clause-follows : goal.returns-in-Failed-clause-follows
returns-in-Failed-clause-follows g c =
    let b = c.in_ok-ending.ensures.ok in
    let at = all-handled _ _ c.in_ok-ending.ending _ _ b in
    NotesFollow-from g.N.Write.contents _ _ _ _ _ b.lines b.said b.begins (NotesAmong-grows g.N.Write.contents b.said _ _ _ _ _ at.notes c.in_ok-totals.ensures.grows)

pub returns-in-Whole-clause-run : goal.returns-in-Whole-clause-run
returns-in-Whole-clause-run g c =
    let b = c.in_ok-ending.ensures.ok in
    let at = all-handled _ _ c.in_ok-ending.ending _ _ b in
    let w = c.in_ok-totals.ensures.ok b.said (g.W.Write.contents c.args.writer.now) at.handled.answered in
    RunsScript-ended _ _ _ _ c.in_ok-ending.ensures.within _ c.in_ok-ending.ending _ _ b c.in_ok-totals.totals w c.in-Whole.is

pub returns-in-Whole-clause-follows : goal.returns-in-Whole-clause-follows
returns-in-Whole-clause-follows g c =
    let b = c.in_ok-ending.ensures.ok in
    let at = all-handled _ _ c.in_ok-ending.ending _ _ b in
    NotesFollow-from g.N.Write.contents _ _ _ _ _ b.lines b.said b.begins (NotesAmong-grows g.N.Write.contents b.said _ _ _ _ _ at.notes c.in_ok-totals.ensures.grows)
