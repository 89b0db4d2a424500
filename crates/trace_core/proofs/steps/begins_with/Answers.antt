use Rattle.std.proofs.Common.{arith}
use Rattle.trace_core.proofs.Parts.{begins-not, begins-all}
use Rattle.trace_core.proofs.steps.begins_with.Goals as goal

pub returns-then-bytes-place-clause-begins : goal.returns-then-bytes-place-clause-begins
returns-then-bytes-place-clause-begins c =
    begins-not c.args.bytes.now c.args.text.now c.loop-place.place (omega arith) c.if-bytes-place.true

pub returns-clause-begins : goal.returns-clause-begins
returns-clause-begins c =
    begins-all c.args.bytes.now c.args.text.now (omega arith) (λ k h. c.loop-place.invariant k (omega arith))
