-- By what was done with the line.
use Rattle.std.proofs.Common.{[], ◌∷◌, ◌++◌, subst, arith}
use Rattle.std.proofs.lemmas.Result.{err_from_is_err_and}
use Rattle.line_core.specs.Script.{answered}
use Rattle.script_core.specs.Handled.{HasHandled}
use Rattle.script_core.specs.Output.{WritesPrefix}
use Rattle.script_core.proofs.Handled.{HasHandled-line}
use Rattle.script_core.proofs.answers.AnswersLineHandlerUnit.handle.Goals as goal

pub answer-requires : goal.answer-requires
answer-requires g c = record { few = omega (arith, c.requires.next.so_far.few, c.requires.next.is) }

pub returns-in_err-answer-clause-err : goal.returns-in_err-answer-clause-err
returns-in_err-answer-clause-err g c =
    let q = err_from_is_err_and c.from_residual.result c.from_residual.ensures.1 in
    let number = c.args.line.now.number in
    let end = g.W.Write.contents c.answer.new.writer in
    rw (q.1, q.2) (λ start lines said text p place held. record {
      is = c.in_err-answer.ensures.refusals;
      written = subst (λ body. WritesPrefix (said ++ answered number body []) (g.W.Write.contents start.1) end) c.body_of.ensures.body (c.in_err-answer.ensures.err said (g.W.Write.contents start.1) p.answered);
    })

pub returns-clause-ok : goal.returns-clause-ok
returns-clause-ok g c start lines said text p place held =
    let number = c.args.line.now.number in
    let end = g.W.Write.contents c.answer.new.writer in
    subst (λ body. HasHandled (lines ++ text ∷ []) (said ++ answered number body []) c.answer.new.self (g.W.Write.contents start.1) end) c.body_of.ensures.body
    (HasHandled-line lines said text number c.body_of.result _ _ _ _ _ p c.in_ok-answer.ensures.ok c.in_ok-answer.ensures.lines)
