-- The text of the answer was passed on, or a prefix of it was written.
use Rattle.std.proofs.lemmas.Result.{err_from_is_err_and}
use Rattle.script_core.specs.Answering.{AnswersState}
use Rattle.script_core.proofs.Passed.{AnswersFront-stopped, AnswersMore-passed}
use Rattle.script_core.proofs.answers.Answers.answer.Goals as goal

pub returns-in_err-pass_answer-clause-err : goal.returns-in_err-pass_answer-clause-err
returns-in_err-pass_answer-clause-err g c =
    let before : AnswersState = record { desk = c.self.inside.desk; out = c.self.inside.out.items; totals = c.self.inside.totals } in
    let q = err_from_is_err_and c.from_residual.result c.from_residual.ensures.1 in
    let given = c.answer_line-answer in
    rw (q.1, c.in-Some.is, ← c.self.view_is) (AnswersFront-stopped c.args.number c.in-Some.body given.result before _ _ given.ensures.answer c.in_err-pass_answer.ensures.err)

pub returns-clause-ok : goal.returns-clause-ok
returns-clause-ok g c =
    let before : AnswersState = record { desk = c.self.inside.desk; out = c.self.inside.out.items; totals = c.self.inside.totals } in
    let given = c.answer_line-answer in
    let count = c.with-self-inside in
    let after : AnswersState = record { desk = given.new.desk; out = c.pass_answer.new.out.items; totals = count.result } in
    rw (c.in-Some.is, ← c.self.view_is) (AnswersMore-passed c.args.number c.in-Some.body given.result before _ _ given.ensures.answer after given.ensures.stands count.ensures.lines count.ensures.refused c.in_ok-pass_answer.ensures.ok)
