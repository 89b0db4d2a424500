-- The line is answered, whether it could be written or not.
use Rattle.std.proofs.Common.{[], ◌∷◌, ◌++◌, subst, arith}
use Rattle.line_core.specs.Script.{answered}
use Rattle.line_core.proofs.Handling.{if-err}
use Rattle.json_core.specs.Answering.{HasAnswered}
use Rattle.json_core.proofs.Counting.{ok-anyway}
use Rattle.json_core.proofs.objects.ObjectsLineHandlerUnit.handle.Goals as goal

pub answer-requires : goal.answer-requires
answer-requires g c = record { few = omega (arith, c.requires.next.so_far.few, c.requires.next.is) }

pub returns-clause-ok : goal.returns-clause-ok
returns-clause-ok g c =
    let number = c.args.line.now.number in
    let new = c.answer.new.self in
    let end = g.W.Write.contents c.answer.new.writer in
    ok-anyway c.answer.result
    (λ start lines said text p place held.
    subst (λ body. HasAnswered (lines ++ text ∷ []) (said ++ answered number body []) new.desk new.totals (g.W.Write.contents start.1) end) c.body_of.ensures.body
    (c.answer.ensures.answered lines text said (g.W.Write.contents start.1) p))

pub returns-clause-err : goal.returns-clause-err
returns-clause-err g c =
    if-err c.answer.result
    (λ refusal is start lines said text p place held. record {
      is = is;
      grows = (c.answer.ensures.answered lines text said (g.W.Write.contents start.1) p).grows;
    })
    c.answer.ensures.refusals
