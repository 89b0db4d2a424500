-- By what was done with the line.
use Rattle.std.proofs.Common.{[], ◌∷◌, ◌++◌, subst, arith}
use Rattle.line_core.specs.Script.{answered}
use Rattle.line_core.proofs.Handling.{on-err, on-ok}
use Rattle.reason_core.specs.Notes.{HasExplained, StopsExplaining}
use Rattle.reason_core.proofs.NotedLines.{NotesAmong-line}
use Rattle.script_core.proofs.Handled.{HasHandled-line}
use Rattle.reason_core.proofs.explainer.ExplainerLineHandler.handle_last.Goals as goal

pub explain_line-requires : goal.explain_line-requires
explain_line-requires g c = record { few = omega (arith, c.requires.next.so_far.handled.few, c.requires.next.is) }

pub returns-clause-ok : goal.returns-clause-ok
returns-clause-ok g c =
    let contents = g.N.Write.contents in
    let number = c.args.line.now.number in
    let body = c.last_body.result in
    let end = g.W.Write.contents c.explain_line.new.writer in
    on-ok c.explain_line.result
    (λ answers start lines said text p place held.
    subst (λ b. HasExplained contents (lines ++ text ∷ []) (said ++ answered number b []) c.explain_line.new.self.answers (g.W.Write.contents start.1) end start.2 c.explain_line.new.notes) c.last_body.ensures.body
    (record {
      handled = HasHandled-line lines said text number body _ _ _ _ _ p.handled answers c.explain_line.ensures.lines;
      notes = NotesAmong-line contents _ _ _ _ _ _ number body _ said p.notes p.handled.answered c.explain_line.ensures.grows c.explain_line.ensures.follows;
    }))
    c.explain_line.ensures.ok

pub returns-clause-err : goal.returns-clause-err
returns-clause-err g c =
    let contents = g.N.Write.contents in
    let number = c.args.line.now.number in
    let body = c.last_body.result in
    let end = g.W.Write.contents c.explain_line.new.writer in
    on-err c.explain_line.result
    (λ front refusal is start lines said text p place held.
    subst (λ b. StopsExplaining contents refusal (said ++ answered number b []) (g.W.Write.contents start.1) end start.2 c.explain_line.new.notes) c.last_body.ensures.body
    (record {
      stopped = record { is = is; written = front said (g.W.Write.contents start.1) p.handled.answered };
      notes = NotesAmong-line contents _ _ _ _ _ _ number body _ said p.notes p.handled.answered c.explain_line.ensures.grows c.explain_line.ensures.follows;
    }))
    c.explain_line.ensures.err c.explain_line.ensures.refusals
