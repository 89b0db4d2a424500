-- Only the pending output is written.
use Rattle.std.proofs.Common.{inl}
use Rattle.line_core.proofs.Handling.{if-err}
use Rattle.json_core.proofs.Counting.{answered-grown, ok-anyway}
use Rattle.json_core.proofs.objects.ObjectsLineHandlerUnit.pause.Goals as goal

pub returns-clause-ok : goal.returns-clause-ok
returns-clause-ok g c =
    ok-anyway c.write.result
    (λ start lines said p. rw (c.write.ensures.desk, c.write.ensures.totals) (answered-grown p c.write.ensures.grows))

pub returns-clause-err : goal.returns-clause-err
returns-clause-err g c =
    if-err c.write.result
    (λ refusal is start lines said p. record { is = inl is; grows = (answered-grown p c.write.ensures.grows).grows })
    c.write.ensures.refusals
