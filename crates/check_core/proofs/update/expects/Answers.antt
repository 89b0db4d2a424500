use Rattle.std.proofs.Common.{◌∙◌, sym}
use Rattle.check_core.proofs.Asking.{expects-below, expects-here, expects-last}
use Rattle.check_core.proofs.update.expects.Goals as goal

pub returns-then-is_expectation : goal.returns-then-is_expectation
returns-then-is_expectation c =
    sym (sym c.loop-line.invariant ∙ expects-here c.loop-line.rest.now c.in-Some.line.now c.in-Some.more.now c.in-Some.ensures.lines (sym c.is_expectation.ensures ∙ c.if-is_expectation.true))

pub loop-line-preserved : goal.loop-line-preserved
loop-line-preserved c =
    sym (expects-below c.loop-line.rest.now c.in-Some.line.now c.in-Some.more.now c.in-Some.ensures.lines (sym c.is_expectation.ensures ∙ c.if-is_expectation.false)) ∙ c.loop-line.invariant

pub returns : goal.returns
returns c = c.is_expectation-2.ensures ∙ sym (expects-last c.loop-line.rest.now c.in_default.ensures.lines) ∙ c.loop-line.invariant
