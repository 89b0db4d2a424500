use Rattle.std.proofs.Common.{sym}
use Rattle.trace_core.proofs.Plain.{counted}
use Rattle.trace_core.proofs.tally.Tally.count.Goals as goal

pub returns-then-is_plain : goal.returns-then-is_plain
returns-then-is_plain c =
    counted c.args.found.now c.args.self.now c.count.new.self c.count.ensures (sym c.if-is_plain.ensures)
