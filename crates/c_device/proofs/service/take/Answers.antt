use Rattle.std.proofs.Common.{◌≡◌, ℕ, suc, ◌<◌, sym, ap, ◌∙◌, ◌∷◌, ◌++◌, length, length-drop, drop, set, arith, Option, List}
use Rattle.std.specs.Prelude.{option_to_list}
use Rattle.c_handle.proofs.Over.{over-more, left-more, over-least}
use Rattle.c_device.specs.Service.{open_among}
use Rattle.c_device.proofs.service.take.Goals as goal

pub loop-count-preserved : goal.loop-count-preserved
loop-count-preserved c =
    let waits = open_among c.args.device.now c.args.woken.now.items in
    let left = open_among c.args.device.now c.next_open.new.woken.items in
    let old = c.args.files.now in
    let i = c.loop-count.count in
    let x = c.in-Some.file in
    let is : drop i waits ≡ x ∷ left =
    sym c.loop-count.invariant.1 ∙ c.next_open.ensures.first ∙ ap (λ (o : Option ℕ). option_to_list o ++ left) c.in-Some.is in
    let long : length (drop i waits) ≡ suc (length left) = ap (λ (l : List ℕ). length l) is in
    let rest = length-drop i waits in
    let fits : i < length old = omega (arith, c.loop-count-test.true) in (
      ap (λ l. set l i x) c.loop-count.invariant.0 ∙ over-more waits old left i x is fits,
      left-more waits left i x is,
      omega (arith, long, rest),
      λ next given. c.next_open.ensures.given next (c.loop-count.invariant.3 next given),
    )

pub returns-clause-taken : goal.returns-clause-taken
returns-clause-taken c =
    let waits = open_among c.args.device.now c.args.woken.now.items in
    let old = c.args.files.now in
    let i = c.loop-count.count in
    c.loop-count.invariant.0 ∙ over-least waits old i (omega (arith, c.loop-count-test.false))
