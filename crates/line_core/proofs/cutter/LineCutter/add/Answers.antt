use Rattle.std.proofs.Common.{◌≡◌, ◌∙◌, length, ap, arith}
use Rattle.line_core.specs.declared.cutter.TheConstants.{HELD_BYTES}
use Rattle.line_core.specs.Cutting.{with_bytes}
use Rattle.line_core.proofs.Cutting.{held-more}
use Rattle.line_core.proofs.cutter.LineCutter.add.Goals as goal

pub returns : goal.returns
returns c =
    let inside = c.self.inside in
    let full : length inside.held ≡ HELD_BYTES = omega (arith, c.self.told) in
    record {
      added = ap (λ b. record { number = inside.number; bytes = b }) (held-more inside.held c.args.bytes.now c.copy_from_slice.new.self inside.length c.min-count.result full c.self.invariant c.min-count.ensures c.copy_from_slice.ensures.after) ∙ ap (λ l. with_bytes l c.args.bytes.now) c.self.view_is;
    }
