use Rattle.script_core.proofs.Progress.{Grows-none, Grows-trans}
use Rattle.reason_core.proofs.look.write_parts.Goals as goal

pub loop-part-init : goal.loop-part-init
loop-part-init g c = Grows-none (g.N.Write.contents c.args.notes.now)

pub loop-part-preserved : goal.loop-part-preserved
loop-part-preserved g c = Grows-trans _ _ _ c.loop-part.invariant c.in_ok-write_part.ensures.grows

pub returns-in_err-write_part-clause-grows : goal.returns-in_err-write_part-clause-grows
returns-in_err-write_part-clause-grows g c = Grows-trans _ _ _ c.loop-part.invariant c.in_err-write_part.ensures.grows
