use Rattle.std.proofs.Common.{◌≡◌, ◌+◌, ◌-◌, length, sym, ap, ◌∙◌, arith}
use Rattle.std.proofs.lemmas.List.{length-take-le}
use Rattle.std.proofs.lemmas.Slice.{drop-put_mid}
use Rattle.report_core.specs.declared.line.TheConstants.{TEXT_LINE_BYTES}
use Rattle.report_core.proofs.Lines.{spaces-rest}
use Rattle.report_core.proofs.line.TextLine.put.Goals as goal

pub invariant_of-self : goal.invariant_of-self
invariant_of-self c =
    let bytes = c.self.inside.bytes in
    let len = c.self.inside.len in
    let count = length c.args.text.now in
    let size : length c.args.self.now ≡ len = ap length (sym c.self.view_is) ∙ length-take-le len bytes (omega arith) in
    let kept = drop-put_mid len (len + count - len) bytes c.copy_from_slice.new.self (len + count) (omega arith) (omega arith) (omega (arith, ap length c.copy_from_slice.ensures.after)) in
    (omega (arith, size), kept ∙ spaces-rest bytes len count TEXT_LINE_BYTES c.self.invariant.1)
