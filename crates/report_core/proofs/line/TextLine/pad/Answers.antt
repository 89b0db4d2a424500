use Rattle.std.proofs.Common.{◌≡◌, ◌-◌, ◌≤◌, ◌++◌, length, sym, ap, ◌∙◌, arith}
use Rattle.std.proofs.lemmas.List.{length-take-le}
use Rattle.report_core.specs.declared.line.TheConstants.{TEXT_LINE_BYTES}
use Rattle.report_core.specs.Columns.{spaces}
use Rattle.report_core.proofs.Lines.{spaces-rest, spaces-taken}
use Rattle.report_core.proofs.line.TextLine.pad.Goals as goal

pub invariant_of-self : goal.invariant_of-self
invariant_of-self c =
    let bytes = c.self.inside.bytes in
    let size : length c.args.self.now ≡ c.self.inside.len = ap length (sym c.self.view_is) ∙ length-take-le c.self.inside.len bytes (omega arith) in
    (omega (arith, size), spaces-rest bytes c.self.inside.len c.args.count TEXT_LINE_BYTES c.self.invariant.1)

pub returns-clause-text : goal.returns-clause-text
returns-clause-text c =
    let bytes = c.self.inside.bytes in
    let len = c.self.inside.len in
    let size : length c.args.self.now ≡ len = ap length (sym c.self.view_is) ∙ length-take-le len bytes (omega arith) in
    let fits : c.args.count ≤ TEXT_LINE_BYTES - len = omega (arith, size) in
    spaces-taken bytes len c.args.count TEXT_LINE_BYTES (omega arith) fits c.self.invariant.1 ∙ ap (λ line. line ++ spaces c.args.count) c.self.view_is
