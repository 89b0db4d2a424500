use Rattle.std.proofs.Common.{◌≡◌, ◌+◌, ◌-◌, ap, sym, subst, ◌∙◌, ◌++◌, ◌<◌, ◌≤◌, take, drop, length, length-take, arith}
use borrow.Rule.Slice.PartMut.{post_of}
use Rattle.std.proofs.KnownBytes.{Consumes-kept}
use Rattle.line_core.specs.declared.script.Ending.TheVariants as ending
use Rattle.line_core.specs.declared.script.TheConstants.{SCRIPT_BYTES}
use Rattle.line_core.specs.ScriptLines.{HasGiven, filled_with}
use Rattle.line_core.proofs.Blocks.{line-kept, ready-read, Consumes-none}
use Rattle.line_core.proofs.GivenLines.{Given-read, Given-end, Ended-same}
use Rattle.line_core.proofs.script_lines.ScriptLines.read.Goals as goal

pub returns-then-self-gt-SCRIPT_BYTES-clause-ended : goal.returns-then-self-gt-SCRIPT_BYTES-clause-ended
returns-then-self-gt-SCRIPT_BYTES-clause-ended g c before given p =
    let old = c.args.self.now in
    let read = ap (λ s. s.read) c.self.view_is in
    Given-end before _ old given p _ ending.TooLong c.requires.drained p.consumed (omega (arith, p.read, p.few, read, c.if-self-gt-SCRIPT_BYTES.true))

pub returns-in-Ok-eq0-clause-ended : goal.returns-in-Ok-eq0-clause-ended
returns-in-Ok-eq0-clause-ended g c before given p =
    let inside = c.self.inside in
    let count = c.in-Ok-eq0.field-0 in
    let zero : count ≡ 0 = c.in-Ok-eq0.field-0-test in
    let begun = ap (λ s. s.ended) c.self.view_is ∙ c.requires.drained.0 in
    let line = line-kept inside.cutter.bytes inside.block (c.read.new.buf ++ post_of 0 c.min-room.result inside.block) inside.start inside.length (c.self.invariant.begun begun) ∙ ap (λ s. s.line) c.self.view_is in
    let some : 0 < length c.read.new.buf = omega (arith, c.read.auto.buf, c.min-room.ensures, c.if-self-gt-SCRIPT_BYTES.false, length-take c.min-room.result inside.block, c.self.told) in
    let few : length p.bytes ≤ SCRIPT_BYTES = omega (arith, p.read, ap (λ s. s.read) c.self.view_is, c.min-room.ensures, c.if-self-gt-SCRIPT_BYTES.false, c.self.invariant.few) in
    let consumed = Consumes-none _ _ _ p.bytes (take count c.read.new.buf) p.consumed c.in-Ok-eq0.ensures.bytes.0 (ap (λ n. take n c.read.new.buf) zero) in
    Ended-same before _ c.args.self.now _ ending.Whole given (Given-end before _ c.args.self.now given p _ ending.Whole c.requires.drained consumed (few, c.in-Ok-eq0.ensures.bytes.1 zero some)) (ap (λ s. s.number) c.self.view_is) line (ap (λ s. s.length) c.self.view_is)

pub returns-in-Err-clause-ended : goal.returns-in-Err-clause-ended
returns-in-Err-clause-ended g c before given p =
    let inside = c.self.inside in
    let begun = ap (λ s. s.ended) c.self.view_is ∙ c.requires.drained.0 in
    let line = line-kept inside.cutter.bytes inside.block (c.read.new.buf ++ post_of 0 c.min-room.result inside.block) inside.start inside.length (c.self.invariant.begun begun) ∙ ap (λ s. s.line) c.self.view_is in
    let few : length p.bytes ≤ SCRIPT_BYTES = omega (arith, p.read, ap (λ s. s.read) c.self.view_is, c.min-room.ensures, c.if-self-gt-SCRIPT_BYTES.false, c.self.invariant.few) in
    let consumed = Consumes-kept before _ _ p.bytes p.consumed c.in-Err.ensures.bytes in
    Ended-same before _ c.args.self.now _ ending.Failed given (Given-end before _ c.args.self.now given p _ ending.Failed c.requires.drained consumed few) (ap (λ s. s.number) c.self.view_is) line (ap (λ s. s.length) c.self.view_is)

pub returns-in-Ok-clause-more : goal.returns-in-Ok-clause-more
returns-in-Ok-clause-more g c _ before given p =
    let inside = c.self.inside in
    let old = c.args.self.now in
    let count = c.in-Ok.count in
    let buf = c.read.new.buf in
    let rest = post_of 0 c.min-room.result inside.block in
    let begun = ap (λ s. s.ended) c.self.view_is ∙ c.requires.drained.0 in
    let read = ap (λ s. s.read) c.self.view_is in
    let within : count ≤ length buf = omega (arith, c.in-Ok.ensures.bound.0, c.in-Ok.ensures.bound.1, c.read.auto.buf) in
    let many : length (take count buf) ≡ count = omega (arith, length-take count buf) in
    let few : old.read + length (take count buf) ≤ SCRIPT_BYTES + 1 = omega (arith, many, within, read, c.read.auto.buf, c.min-room.ensures, length-take c.min-room.result inside.block, c.self.invariant.few) in
    let e-read : old.read + length (take count buf) ≡ inside.read + count = omega (arith, many, read) in
    let e-line = sym (line-kept inside.cutter.bytes inside.block (buf ++ rest) inside.start inside.length (c.self.invariant.begun begun) ∙ ap (λ s. s.line) c.self.view_is) in
    let left : SCRIPT_BYTES - old.read ≡ SCRIPT_BYTES - inside.read = omega (arith, read) in
    let e-ready : take (SCRIPT_BYTES - old.read) (take count buf) ≡ take (c.min-self-inside.result - 0) (drop 0 (buf ++ rest)) =
    ap (λ n. take n (take count buf)) left ∙ sym (ready-read buf rest count (SCRIPT_BYTES - inside.read) within) ∙ ap (λ n. take n (buf ++ rest)) (sym (omega (arith, c.min-self-inside.ensures))) in
    let same : filled_with old (take count buf) ≡ _ = λ i. record {
      read = e-read i;
      number = ap (λ s. s.number) (sym c.self.view_is) i;
      ended = ap (λ s. s.ended) (sym c.self.view_is) i;
      line = e-line i;
      length = ap (λ s. s.length) (sym c.self.view_is) i;
      ready = e-ready i;
    } in
    subst (λ s. HasGiven before (g.R.Read.remaining c.read.new.self) s given) same (Given-read before _ old given p (g.R.Read.remaining c.read.new.self) (take count buf) c.requires.drained.1 c.in-Ok.ensures.bytes.0 few)
