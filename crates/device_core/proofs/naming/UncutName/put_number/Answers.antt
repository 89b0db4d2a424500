use Rattle.std.proofs.Common.{◌≡◌, ◌-◌, ◌≤◌, length, decimal, sym, ap, ◌∙◌, arith}
use Rattle.device_core.proofs.Texts.{length-digits, length-line}
use Rattle.device_core.proofs.naming.UncutName.put_number.Goals as goal

pub write_digits-self-inside-requires : goal.write_digits-self-inside-requires
write_digits-self-inside-requires c =
    let few : length (decimal c.args.number) ≤ 20 = length-digits c.args.number (omega (arith, c.ranges.number)) in
    let size : length c.args.self.now ≡ length c.self.inside.bytes - c.self.inside.start = ap length (sym c.self.view_is) ∙ length-line c.self.inside.bytes c.self.inside.start in
    (omega (arith, few, size), omega arith)

pub returns-clause-len : goal.returns-clause-len
returns-clause-len c =
    let few : length (decimal c.args.number) ≤ 20 = length-digits c.args.number (omega (arith, c.ranges.number)) in
    let size : length c.args.self.now ≡ length c.self.inside.bytes - c.self.inside.start = ap length (sym c.self.view_is) ∙ length-line c.self.inside.bytes c.self.inside.start in
    omega (arith, few, size, c.write_digits-self-inside.ensures.start, length-line c.write_digits-self-inside.new.buf c.write_digits-self-inside.result)
