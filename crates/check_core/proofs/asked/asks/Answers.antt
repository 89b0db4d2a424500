use Rattle.std.proofs.Common.{rules, ◌≡◌, ◌∙◌, true, false, sym}
use Rattle.std.specs.Prelude.{is_some}
use Rattle.line_core.specs.Line.{body_of}
use Rattle.line_core.specs.Script.{lines_of}
use Rattle.check_core.proofs.Asking.{asks-below, asks-here, asks-last, asks-no_more}
use Rattle.check_core.proofs.asked.asks.Goals as goal

pub returns-then-is_expectation : goal.returns-then-is_expectation
returns-then-is_expectation c =
    sym (sym c.loop-line.invariant ∙ asks-here c.loop-line.rest.now c.in-Some.line.now (lines_of c.in-Some.more.now) c.in-Some.ensures.lines (sym c.is_expectation.ensures ∙ c.if-is_expectation.true))

pub returns-then-is_some : goal.returns-then-is_some
returns-then-is_some c =
    let some : is_some (body_of c.in-Some.line.now) ≡ true = search rules in
    sym (sym c.loop-line.invariant ∙ asks-no_more c.loop-line.rest.now c.in-Some.line.now (lines_of c.in-Some.more.now) c.in-Some.ensures.lines (sym c.is_expectation.ensures ∙ c.if-is_expectation.false) some)

pub loop-line-preserved : goal.loop-line-preserved
loop-line-preserved c =
    let none : is_some (body_of c.in-Some.line.now) ≡ false = search rules in
    sym (asks-below c.loop-line.rest.now c.in-Some.line.now (lines_of c.in-Some.more.now) c.in-Some.ensures.lines (sym c.is_expectation.ensures ∙ c.if-is_expectation.false) none) ∙ c.loop-line.invariant

pub returns : goal.returns
returns c = c.is_expectation-2.ensures ∙ sym (asks-last c.loop-line.rest.now c.in_default.ensures.lines) ∙ c.loop-line.invariant
