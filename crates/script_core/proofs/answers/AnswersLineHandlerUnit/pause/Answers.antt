-- By what was written.
use Rattle.std.proofs.Common.{inl, ap, arith}
use Rattle.line_core.proofs.Handling.{on-err, on-ok}
use Rattle.script_core.proofs.answers.AnswersLineHandlerUnit.pause.Goals as goal

pub returns-clause-ok : goal.returns-clause-ok
returns-clause-ok g c =
    on-ok c.write.result
    (λ kept start lines said p. record {
      answered = kept said (g.W.Write.contents start.1) p.answered;
      few = omega (arith, p.few, ap (λ t. t.lines) c.write.ensures.lines);
    })
    c.write.ensures.ok

pub returns-clause-err : goal.returns-clause-err
returns-clause-err g c =
    on-err c.write.result
    (λ front refusal is start lines said p. record { is = inl is; written = front said (g.W.Write.contents start.1) p.answered })
    c.write.ensures.err c.write.ensures.refusals
