use Rattle.check_core.proofs.Keeping.{left-out, taken}
use Rattle.check_core.proofs.kept.push_line.Goals as goal

pub returns-then-is_expectation : goal.returns-then-is_expectation
returns-then-is_expectation c = record {
  kept = left-out c.args.text.now.items c.args.line.now c.is_expectation.result c.is_expectation.ensures c.if-is_expectation.true;
}

pub returns : goal.returns
returns c = record {
  kept = taken c.args.text.now.items c.push_begun.new.text.items c.args.line.now c.is_expectation.result c.is_expectation.ensures c.if-is_expectation.false c.in_ok-push_begun.ensures.begun;
}
