use Rattle.script_core.proofs.Progress.{Grows-none, Grows-trans}
use Rattle.reason_core.proofs.look.write_escaped.Goals as goal

pub loop-byte-init : goal.loop-byte-init
loop-byte-init g c = Grows-none (g.N.Write.contents c.args.notes.now)

pub loop-byte-preserved : goal.loop-byte-preserved
loop-byte-preserved g c = Grows-trans _ _ _ c.loop-byte.invariant c.in_ok-write_byte.ensures.grows

pub returns-in_err-write_byte-clause-grows : goal.returns-in_err-write_byte-clause-grows
returns-in_err-write_byte-clause-grows g c = Grows-trans _ _ _ c.loop-byte.invariant c.in_err-write_byte.ensures.grows
