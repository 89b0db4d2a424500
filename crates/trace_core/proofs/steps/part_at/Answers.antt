use Rattle.std.proofs.Common.{◌≡◌, drop, sym, Some, None, arith}
use Rattle.std.proofs.lemmas.List.{take_rest}
use Rattle.trace_core.specs.Steps.{after}
use Rattle.trace_core.proofs.Parts.{part_at-later, part_at-here, part_at-nowhere, part_at-start}
use Rattle.trace_core.proofs.steps.part_at.Goals as goal

pub loop-place-init : goal.loop-place-init
loop-place-init c = part_at-start c.args.text.now c.args.bytes.now

pub loop-place-preserved : goal.loop-place-preserved
loop-place-preserved c =
    let bytes = c.args.bytes.now in
    let none : after (drop c.loop-place.place bytes) c.args.text.now ≡ None = sym (simp take_rest at c.in_default.ensures.rest) in
    part_at-later c.args.text.now bytes c.loop-place.place (omega arith) none c.loop-place.invariant

pub returns-in-Some : goal.returns-in-Some
returns-in-Some c =
    let bytes = c.args.bytes.now in
    let some : after (drop c.loop-place.place bytes) c.args.text.now ≡ Some c.in-Some.rest.now = sym (simp take_rest at c.in-Some.ensures.rest) in
    record { parts = part_at-here c.args.text.now bytes c.loop-place.place c.in-Some.rest.now (omega arith) some c.loop-place.invariant }

pub returns : goal.returns
returns c = record { parts = part_at-nowhere c.args.text.now c.args.bytes.now _ (omega arith) c.loop-place.invariant }
