-- By what was written.
use Rattle.std.proofs.Common.{inl, ap, arith}
use Rattle.line_core.proofs.Handling.{on-err, on-ok}
use Rattle.reason_core.proofs.NotedLines.{NotesAmong-grows}
use Rattle.reason_core.proofs.explainer.ExplainerLineHandler.pause.Goals as goal

pub returns-clause-ok : goal.returns-clause-ok
returns-clause-ok g c =
    on-ok c.write.result
    (λ kept start lines said p. record {
      handled = record {
        answered = kept said (g.W.Write.contents start.1) p.handled.answered;
        few = omega (arith, p.handled.few, ap (λ t. t.lines) c.write.ensures.lines);
      };
      notes = NotesAmong-grows g.N.Write.contents said _ _ _ _ _ p.notes c.write.ensures.grows;
    })
    c.write.ensures.ok

pub returns-clause-err : goal.returns-clause-err
returns-clause-err g c =
    on-err c.write.result
    (λ front refusal is start lines said p. record {
      stopped = record { is = inl is; written = front said (g.W.Write.contents start.1) p.handled.answered };
      notes = NotesAmong-grows g.N.Write.contents said _ _ _ _ _ p.notes c.write.ensures.grows;
    })
    c.write.ensures.err c.write.ensures.refusals
