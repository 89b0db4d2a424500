use Rattle.std.proofs.Common.{◌≡◌, ◌+◌, ◌++◌, length, decimal, sym, ap, ◌∙◌, arith}
use Rattle.std.proofs.lemmas.List.{length-take-le}
use Rattle.report_core.specs.declared.line.TheConstants.{TEXT_LINE_BYTES}
use Rattle.report_core.proofs.Digits.{take-digits, drop-digits}
use Rattle.report_core.proofs.Lines.{spaces-rest}
use Rattle.report_core.proofs.line.TextLine.put_counted.Goals as goal

pub write_digits-requires : goal.write_digits-requires
write_digits-requires c =
    let size : length c.args.self.now ≡ c.self.inside.len = ap length (sym c.self.view_is) ∙ length-take-le c.self.inside.len c.self.inside.bytes (omega arith) in
    (omega (arith, c.requires.count), omega (arith, size, c.requires.few, c.self.told))

pub invariant_of-self : goal.invariant_of-self
invariant_of-self c =
    let bytes = c.self.inside.bytes in
    let len = c.self.inside.len in
    let end = len + c.args.count in
    let size : length c.args.self.now ≡ len = ap length (sym c.self.view_is) ∙ length-take-le len bytes (omega arith) in
    let kept = drop-digits bytes (decimal c.args.number) c.write_digits.new.buf len c.write_digits.result end (omega (arith, c.requires.count)) (omega (arith, c.requires.count, c.write_digits.ensures.start)) c.write_digits.ensures.written in
    (omega (arith, size, c.requires.few), kept ∙ spaces-rest bytes len c.args.count TEXT_LINE_BYTES c.self.invariant.1)

pub returns-clause-text : goal.returns-clause-text
returns-clause-text c =
    let bytes = c.self.inside.bytes in
    let len = c.self.inside.len in
    let digits = decimal c.args.number in
    let put = c.write_digits in
    let end = len + c.args.count in
    take-digits bytes digits put.new.buf len put.result end (omega arith) (omega (arith, c.requires.count)) (omega (arith, c.requires.count, put.ensures.start)) put.ensures.written put.ensures.before
    ∙ ap (λ line. line ++ digits) c.self.view_is
