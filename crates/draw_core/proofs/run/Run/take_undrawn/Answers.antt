use Rattle.std.proofs.Common.{refl}
use Rattle.draw_core.proofs.run.Run.take_undrawn.Goals as goal

pub returns-clause-answered : goal.returns-clause-answered
returns-clause-answered g c =
    rw (c.enter.ensures.desk, c.enter.ensures.refused) (record {
      given = c.answer_line-answer.result;
      is = c.answer_line-answer.ensures.answer;
      stands = c.answer_line-answer.ensures.stands;
      refused = refl;
    })
