use Rattle.std.proofs.Common.{arith, sym}
use Rattle.itoa.proofs.Decimal.{length_one}
use Rattle.report_core.proofs.Digits.{length-power}
use Rattle.report_core.proofs.line.digit_count.Goals as goal

pub returns-clause-count : goal.returns-clause-count
returns-clause-count c = length-power c.ilog10-power.result c.args.number c.ilog10-power.ensures.power_le c.ilog10-power.ensures.next_power_gt (omega (arith, c.ranges.number))

pub returns-then-number-eq0-clause-count : goal.returns-then-number-eq0-clause-count
returns-then-number-eq0-clause-count c = sym (length_one c.args.number (omega arith))
