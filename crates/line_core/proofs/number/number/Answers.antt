use Rattle.std.proofs.Common.{◌≡◌, ◌+◌, ◌≤◌, length, take, sym, ◌∙◌, ap, subst, arith}
use Rattle.std.specs.Str.Parse.{AllDigits, digits_value}
use Rattle.std.proofs.lemmas.Bool.Decides.{nat_tests}
use Rattle.std.proofs.Math.Seq.{take-length}
use Rattle.line_core.proofs.Numbers.{number_of-no_digit, number_of-large, number_of-some, digits_value-more, AllDigits-more}
use Rattle.line_core.proofs.number.number.Goals as goal

pub returns-then-not-is_ascii_digit : goal.returns-then-not-is_ascii_digit
returns-then-not-is_ascii_digit c = record { value = number_of-no_digit c.args.word.now c.loop-byte.byte-index c.loop-byte-test.true (sym c.is_ascii_digit.ensures.value ∙ c.if-not-is_ascii_digit.true) }

pub returns-in_err-checked_mul : goal.returns-in_err-checked_mul
returns-in_err-checked_mul c =
    let word = c.args.word.now in
    let i = c.loop-byte.byte-index in
    let more = digits_value-more word i c.loop-byte.value c.loop-byte-test.true c.loop-byte.invariant.1 c.if-not-is_ascii_digit.ensures.cases in
    record { value = c.from_residual.ensures ∙ number_of-large word (i + 1) (omega (arith, more, c.in_err-checked_mul.ensures)) }

pub returns-in_err-value : goal.returns-in_err-value
returns-in_err-value c =
    let word = c.args.word.now in
    let i = c.loop-byte.byte-index in
    let more = digits_value-more word i c.loop-byte.value c.loop-byte-test.true c.loop-byte.invariant.1 c.if-not-is_ascii_digit.ensures.cases in
    record { value = c.from_residual-in_err-value.ensures ∙ number_of-large word (i + 1) (omega (arith, more, c.in_err-value.ensures, c.in_ok-checked_mul.ensures)) }

pub loop-byte-preserved : goal.loop-byte-preserved
loop-byte-preserved c =
    let word = c.args.word.now in
    let i = c.loop-byte.byte-index in
    let digit = c.if-not-is_ascii_digit.ensures.cases in
    let more = digits_value-more word i c.loop-byte.value c.loop-byte-test.true c.loop-byte.invariant.1 digit in
    (AllDigits-more word i c.loop-byte-test.true c.loop-byte.invariant.0 digit, omega (arith, more, c.in_ok-value.ensures, c.in_ok-checked_mul.ensures), omega (arith, c.in_ok-value.ensures.0, c.in_ok-value.ensures.1))

pub returns : goal.returns
returns c =
    let word = c.args.word.now in
    let end : c.loop-byte.byte-index ≡ length word = omega arith in
    let all : take c.loop-byte.byte-index word ≡ word = ap (λ i. take i word) end ∙ take-length word in
    let some : 1 ≤ length word = grind (arith, nat_tests) in
    record { value = number_of-some word c.loop-byte.value some (omega arith) (subst (AllDigits 10) all c.loop-byte.invariant.0) (c.loop-byte.invariant.1 ∙ ap (digits_value 10) all) c.loop-byte.invariant.2 }
