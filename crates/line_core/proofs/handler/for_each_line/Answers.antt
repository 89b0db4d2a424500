-- Each exit follows from the lines that were given, and by how they were handled.
use Rattle.std.proofs.Common.{[], ◌∷◌, ◌++◌, ◌∙◌, refl}
use Rattle.std.proofs.lemmas.Result.{err_from_is_err_and}
use Rattle.line_core.proofs.EndedLines.{ended_lines, ended-within, given-within}
use Rattle.line_core.proofs.Handling.{given-begins, last-failed, line-handled, script-handled}
use Rattle.line_core.proofs.handler.for_each_line.Goals as goal

pub loop-lines-init : goal.loop-lines-init
loop-lines-init g c = record { given = []; has = c.new-lines.ensures.none (g.R.Read.remaining c.args.reader.now); so_far = c.requires.fresh }

pub handle-requires : goal.handle-requires
handle-requires g c =
    let at = c.loop-lines.invariant in
    let more = c.if-advance.ensures.next (g.R.Read.remaining c.args.reader.now) (g.R.Read.remaining c.loop-lines.reader) at.given at.has in
    record {
      next = record {
        start = (c.args.handler.now, c.args.output.now, c.args.notes.now);
        lines = at.given;
        said = ended_lines 1 at.given;
        so_far = at.so_far;
        is = c.line-line.ensures.number ∙ more.number;
      };
    }

pub loop-lines-preserved-in-Continue-1 : goal.loop-lines-preserved-in-Continue-1
loop-lines-preserved-in-Continue-1 g c =
    let at = c.loop-lines.invariant in
    let more = c.if-advance.ensures.next (g.R.Read.remaining c.args.reader.now) (g.R.Read.remaining c.loop-lines.reader) at.given at.has in
    let line = c.line-line.result in
    let handled = g.H.LineHandler.handled in
    record {
      given = at.given ++ more.line ∷ [];
      has = more.more;
      so_far = line-handled handled handled at.given more.line line.bytes.now line.number _ _ _ at.so_far (c.line-line.ensures.number ∙ more.number) (c.line-line.ensures.bytes ∙ more.is.held) c.in_ok-handle.ensures.ok;
    }

pub returns-in_err-handle-clause-err : goal.returns-in_err-handle-clause-err
returns-in_err-handle-clause-err g c =
    let q = err_from_is_err_and c.from_residual.result c.from_residual.ensures.1 in
    let at = c.loop-lines.invariant in
    let before = g.R.Read.remaining c.args.reader.now in
    let now = g.R.Read.remaining c.loop-lines.reader in
    let more = c.if-advance.ensures.next before now at.given at.has in
    let line = c.line-line.result in
    let given = at.given ++ more.line ∷ [] in
    rw (q.1, q.2) (record {
      lines = given;
      said = ended_lines 1 given;
      begins = given-begins before now c.advance.new.self given more.more;
      at = line-handled g.H.LineHandler.handled (g.H.LineHandler.failed _) at.given more.line line.bytes.now line.number _ _ _ at.so_far (c.line-line.ensures.number ∙ more.number) (c.line-line.ensures.bytes ∙ more.is.held) c.in_err-handle.ensures.err;
    })

pub returns-in_err-pause-clause-err : goal.returns-in_err-pause-clause-err
returns-in_err-pause-clause-err g c =
    let q = err_from_is_err_and c.from_residual-in_err-pause.result c.from_residual-in_err-pause.ensures.1 in
    let at = c.loop-lines.invariant in
    let before = g.R.Read.remaining c.args.reader.now in
    let now = g.R.Read.remaining c.loop-lines.reader in
    let none = c.if-advance.ensures.next before now at.given at.has in
    rw (q.1, q.2) (record {
      lines = at.given;
      said = ended_lines 1 at.given;
      begins = given-begins before now c.advance.new.self at.given none.0;
      at = c.in_err-pause.ensures.err _ at.given (ended_lines 1 at.given) at.so_far;
    })

pub returns-in_err-handle-clause-within : goal.returns-in_err-handle-clause-within
returns-in_err-handle-clause-within g c =
    let at = c.loop-lines.invariant in
    let before = g.R.Read.remaining c.args.reader.now in
    let now = g.R.Read.remaining c.loop-lines.reader in
    let more = c.if-advance.ensures.next before now at.given at.has in
    given-within before now c.advance.new.self (at.given ++ more.line ∷ []) more.more

pub returns-in_err-pause-clause-within : goal.returns-in_err-pause-clause-within
returns-in_err-pause-clause-within g c =
    let at = c.loop-lines.invariant in
    let before = g.R.Read.remaining c.args.reader.now in
    let now = g.R.Read.remaining c.loop-lines.reader in
    let none = c.if-advance.ensures.next before now at.given at.has in
    given-within before now c.advance.new.self at.given none.0

pub read-requires : goal.read-requires
read-requires g c =
    let at = c.loop-lines.invariant in
    let none = c.if-advance.ensures.next (g.R.Read.remaining c.args.reader.now) (g.R.Read.remaining c.loop-lines.reader) at.given at.has in
    record { drained = none.1 }

pub loop-lines-preserved : goal.loop-lines-preserved
loop-lines-preserved g c =
    let at = c.loop-lines.invariant in
    let before = g.R.Read.remaining c.args.reader.now in
    let none = c.if-advance.ensures.next before (g.R.Read.remaining c.loop-lines.reader) at.given at.has in
    record { given = at.given; has = c.in_default.ensures.more refl before at.given none.0; so_far = c.in_ok-pause.ensures.ok _ at.given (ended_lines 1 at.given) at.so_far }

pub end_script-requires : goal.end_script-requires
end_script-requires g c =
    let at = c.loop-lines.invariant in
    let before = g.R.Read.remaining c.args.reader.now in
    let none = c.if-advance.ensures.next before (g.R.Read.remaining c.loop-lines.reader) at.given at.has in
    let ended = c.in-Some.ensures.ended before at.given none.0 in
    record {
      next = record {
        start = (c.args.handler.now, c.args.output.now, c.args.notes.now);
        lines = at.given;
        said = ended_lines 1 at.given;
        so_far = c.in_ok-pause.ensures.ok _ at.given (ended_lines 1 at.given) at.so_far;
        is = c.line-line-in-Some.ensures.number ∙ ended.number;
      };
    }

pub returns-in_err-end_script-clause-err : goal.returns-in_err-end_script-clause-err
returns-in_err-end_script-clause-err g c =
    let q = err_from_is_err_and c.from_residual-in_err-end_script.result c.from_residual-in_err-end_script.ensures.1 in
    let at = c.loop-lines.invariant in
    let before = g.R.Read.remaining c.args.reader.now in
    let now = g.R.Read.remaining c.loop-lines.reader in
    let none = c.if-advance.ensures.next before now at.given at.has in
    let ended = c.in-Some.ensures.ended before at.given none.0 in
    let line = c.line-line-in-Some.result in
    let waited = c.in_ok-pause.ensures.ok _ at.given (ended_lines 1 at.given) at.so_far in
    rw (q.1, q.2) (last-failed g.H.LineHandler.handled before now (g.R.Read.remaining c.read.new.reader) c.advance.new.self c.read.new.self at.given line.number line.bytes.now _ _ _ none.0 waited c.in-Some.ending (g.H.LineHandler.failed _) ended c.line-line-in-Some.ensures.number c.line-line-in-Some.ensures.bytes c.in_err-end_script.ensures.err)

pub returns-in_err-end_script-clause-within : goal.returns-in_err-end_script-clause-within
returns-in_err-end_script-clause-within g c =
    let at = c.loop-lines.invariant in
    let before = g.R.Read.remaining c.args.reader.now in
    let none = c.if-advance.ensures.next before (g.R.Read.remaining c.loop-lines.reader) at.given at.has in
    ended-within before (g.R.Read.remaining c.read.new.reader) c.read.new.self c.in-Some.ending at.given (c.in-Some.ensures.ended before at.given none.0)

pub returns-in-Some-clause-within : goal.returns-in-Some-clause-within
returns-in-Some-clause-within g c =
    let at = c.loop-lines.invariant in
    let before = g.R.Read.remaining c.args.reader.now in
    let none = c.if-advance.ensures.next before (g.R.Read.remaining c.loop-lines.reader) at.given at.has in
    ended-within before (g.R.Read.remaining c.read.new.reader) c.read.new.self c.in-Some.ending at.given (c.in-Some.ensures.ended before at.given none.0)

pub returns-in-Some-clause-ok : goal.returns-in-Some-clause-ok
returns-in-Some-clause-ok g c =
    let at = c.loop-lines.invariant in
    let before = g.R.Read.remaining c.args.reader.now in
    let now = g.R.Read.remaining c.loop-lines.reader in
    let none = c.if-advance.ensures.next before now at.given at.has in
    let ended = c.in-Some.ensures.ended before at.given none.0 in
    let line = c.line-line-in-Some.result in
    let waited = c.in_ok-pause.ensures.ok _ at.given (ended_lines 1 at.given) at.so_far in
    script-handled g.H.LineHandler.handled before now (g.R.Read.remaining c.read.new.reader) c.advance.new.self c.read.new.self at.given line.number line.bytes.now _ _ _ none.0 waited c.in-Some.ending g.H.LineHandler.ended ended c.line-line-in-Some.ensures.number c.line-line-in-Some.ensures.bytes c.in_ok-end_script.ensures.ok
