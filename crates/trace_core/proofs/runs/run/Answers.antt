use Rattle.std.proofs.Common.{sym, ◌∙◌, arith}
use Rattle.std.proofs.lemmas.List.Sums.{prefix_len_is}
use Rattle.trace_core.specs.Runs.{is_of}
use Rattle.trace_core.proofs.runs.run.Goals as goal

pub returns-then-not-is_of-clause-count : goal.returns-then-not-is_of-clause-count
returns-then-not-is_of-clause-count c =
    sym (prefix_len_is (is_of c.args.class) c.args.bytes.now c.loop-count.count 0 (omega arith) c.loop-count.invariant (λ _. sym c.is_of.ensures ∙ c.if-not-is_of.true))

pub returns-clause-count : goal.returns-clause-count
returns-clause-count c =
    sym (prefix_len_is (is_of c.args.class) c.args.bytes.now _ 0 (omega arith) (λ k h. c.loop-count.invariant k (omega arith)) (λ h. absurd (omega arith)))
