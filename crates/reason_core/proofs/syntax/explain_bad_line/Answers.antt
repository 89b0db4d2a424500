use Rattle.reason_core.proofs.Notes.{Notes-none}
use Rattle.reason_core.proofs.syntax.explain_bad_line.Goals as goal

pub returns-in_err-fault-clause-noted : goal.returns-in_err-fault-clause-noted
returns-in_err-fault-clause-noted g c = Notes-none _ c.args.place.now.line (g.N.Write.contents c.args.notes.now)
