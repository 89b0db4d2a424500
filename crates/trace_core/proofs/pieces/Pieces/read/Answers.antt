use Rattle.std.proofs.Common.{◌≡◌, ◌≤◌, ◌<◌, ◌+◌, ◌-◌, inl, inr, refl, length, take, ap, sym, ◌∙◌, length-drop, length-take, arith}
use Rattle.std.proofs.lemmas.Bool.{false≢true}
use Rattle.trace_core.specs.declared.item.TheConstants.{PIECE_BYTES}
use Rattle.trace_core.proofs.Passing.{held-passed, kept-few, Consumes-kept_none}
use Rattle.trace_core.proofs.pieces.Pieces.read.Goals as goal

pub returns-in-Ok-clause-more : goal.returns-in-Ok-clause-more
returns-in-Ok-clause-more g c before items p =
    let inside = c.self.inside in
    let within : inside.end ≤ length inside.held = omega (arith, c.self.invariant.within, c.self.told) in
    let open_still = ap (λ s. s.whole) c.self.view_is ∙ c.requires.unfinished in
    held-passed before _ _ c.args.self.now items inside.held c.copy_within.new.self c.read.new.buf inside.start inside.end c.kept-kept.result c.in-Ok.count _ (c.kept-kept.result + c.in-Ok.count) inside.long c.is_long-self-inside.result inside.whole p c.requires.waiting c.requires.unfinished c.self.invariant.order within (ap (λ s. s.bytes) c.self.view_is) (ap (λ s. s.long) c.self.view_is) c.is_long-self-inside.ensures c.kept-kept.ensures c.copy_within.ensures.after c.in-Ok.ensures.bound.0 refl c.in-Ok.ensures.bytes.0 (λ w. absurd (false≢true (sym open_still ∙ w)))

pub returns-in-Ok-eq0-clause-more : goal.returns-in-Ok-eq0-clause-more
returns-in-Ok-eq0-clause-more g c before items p =
    let inside = c.self.inside in
    let zero : c.in-Ok-eq0.field-0 ≡ 0 = c.in-Ok-eq0.field-0-test in
    let within : inside.end ≤ length inside.held = omega (arith, c.self.invariant.within, c.self.told) in
    let few : c.kept-kept.result ≤ PIECE_BYTES = omega (arith, c.kept-kept.ensures, kept-few inside.long (inside.end - inside.start) c.is_long-self-inside.result c.is_long-self-inside.ensures) in
    let some : 0 < length c.read.new.buf = omega (arith, few, c.read.auto.buf, length-drop c.kept-kept.result c.copy_within.new.self, c.copy_within.ensures.len, c.self.told) in
    held-passed before _ _ c.args.self.now items inside.held c.copy_within.new.self c.read.new.buf inside.start inside.end c.kept-kept.result c.in-Ok-eq0.field-0 _ c.kept-kept.result inside.long c.is_long-self-inside.result _ p c.requires.waiting c.requires.unfinished c.self.invariant.order within (ap (λ s. s.bytes) c.self.view_is) (ap (λ s. s.long) c.self.view_is) c.is_long-self-inside.ensures c.kept-kept.ensures c.copy_within.ensures.after c.in-Ok-eq0.ensures.bound.0 (omega (arith, zero)) c.in-Ok-eq0.ensures.bytes.0 (λ _. c.in-Ok-eq0.ensures.bytes.1 zero some)

pub returns-in-Err-clause-more : goal.returns-in-Err-clause-more
returns-in-Err-clause-more g c before items p =
    let inside = c.self.inside in
    let within : inside.end ≤ length inside.held = omega (arith, c.self.invariant.within, c.self.told) in
    let open_still = ap (λ s. s.whole) c.self.view_is ∙ c.requires.unfinished in
    held-passed before _ _ c.args.self.now items inside.held c.copy_within.new.self c.read.new.buf inside.start inside.end c.kept-kept.result 0 _ c.kept-kept.result inside.long c.is_long-self-inside.result inside.whole p c.requires.waiting c.requires.unfinished c.self.invariant.order within (ap (λ s. s.bytes) c.self.view_is) (ap (λ s. s.long) c.self.view_is) c.is_long-self-inside.ensures c.kept-kept.ensures c.copy_within.ensures.after (omega arith) (omega arith) (Consumes-kept_none _ _ c.in-Err.ensures.bytes) (λ w. absurd (false≢true (sym open_still ∙ w)))

pub returns-in-Ok-clause-ahead : goal.returns-in-Ok-clause-ahead
returns-in-Ok-clause-ahead g c =
    let bytes = take c.in-Ok.count c.read.new.buf in
    let some : 1 ≤ length bytes = omega (arith, c.in-Ok.ensures.bound.0, length-take c.in-Ok.count c.read.new.buf) in
    inl (bytes, some, c.in-Ok.ensures.bytes.0)

pub returns-in-Ok-eq0-clause-ahead : goal.returns-in-Ok-eq0-clause-ahead
returns-in-Ok-eq0-clause-ahead g c = inr (c.requires.unfinished, refl)
