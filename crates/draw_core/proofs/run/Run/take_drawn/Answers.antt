use Rattle.std.proofs.Common.{refl}
use Rattle.draw_core.proofs.run.Run.take_drawn.Goals as goal

pub returns-clause-answered : goal.returns-clause-answered
returns-clause-answered g c =
    rw (c.record.ensures.desk, c.record.ensures.refused, c.ask_first.ensures.refused) (record {
      given = c.answer_line-answer.result;
      is = rw c.ask_first.ensures.desk at c.answer_line-answer.ensures.answer;
      stands = rw c.ask_first.ensures.desk at c.answer_line-answer.ensures.stands;
      refused = refl;
    })
