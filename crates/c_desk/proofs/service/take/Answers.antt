use Rattle.std.proofs.Common.{◌≡◌, ℕ, ◌+◌, ◌<◌, sym, ap, ◌∙◌, ◌∷◌, ◌++◌, length, drop, set, arith, Option}
use Rattle.std.specs.Prelude.{option_to_list}
use Rattle.std.specs.VecDeque.{deque_len}
use Rattle.c_handle.proofs.Over.{over-more, left-more, over-least}
use Rattle.c_desk.proofs.service.take.Goals as goal

pub loop-index-preserved : goal.loop-index-preserved
loop-index-preserved c =
    let fired = c.args.fired.now.items in
    let old = c.args.cookies.now in
    let i = c.loop-index.index in
    let x = c.unwrap.result in
    let before = c.loop-index.fired in
    let after = c.pop_front.new.self in
    let is : drop i fired ≡ x ∷ after.items =
    sym c.loop-index.invariant.1 ∙ c.pop_front.ensures.items ∙ ap (λ (o : Option ℕ). option_to_list o ++ after.items) c.unwrap.ensures in
    let count : deque_len after + length (option_to_list c.pop_front.result) ≡ deque_len before = c.pop_front.ensures.len in
    let one : length (option_to_list c.pop_front.result) ≡ 1 = ap (λ (o : Option ℕ). length (option_to_list o)) c.unwrap.ensures in
    let sum = c.loop-index.invariant.2 in
    let fits : i < length old = omega (arith, c.loop-index-test.true, c.min-count.ensures) in (
      ap (λ l. set l i x) c.loop-index.invariant.0 ∙ over-more fired old after.items i x is fits,
      left-more fired after.items i x is,
      omega (arith, count, one, sum),
      c.pop_front.ensures.capacity ∙ c.loop-index.invariant.3,
    )

pub returns-clause-taken : goal.returns-clause-taken
returns-clause-taken c =
    let fired = c.args.fired.now.items in
    let old = c.args.cookies.now in
    let i = c.loop-index.index in
    c.loop-index.invariant.0 ∙ over-least fired old i (omega (arith, c.loop-index-test.false, c.min-count.ensures, c.len.ensures))
