use Rattle.std.proofs.Common.{None, Some, refl}
use Rattle.json_core.proofs.Counting.{Grows-none, answered-next}
use Rattle.json_core.proofs.objects.Objects.answer.Goals as goal

pub returns-in-Some-clause-answered : goal.returns-in-Some-clause-answered
returns-in-Some-clause-answered g c lines text said start p =
    rw c.in-Some.is (answered-next lines said _ _ _ _ start _ _ text c.args.number (Some c.in-Some.body) p c.answer_body.ensures.grows c.answer_body.ensures.answered)

pub returns-in-None-clause-answered : goal.returns-in-None-clause-answered
returns-in-None-clause-answered g c lines text said start p =
    rw c.in-None.is (answered-next lines said _ _ _ _ start _ _ text c.args.number None p (Grows-none _) (refl, refl))
