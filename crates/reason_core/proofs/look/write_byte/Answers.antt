use Rattle.script_core.proofs.Progress.{Grows-none, Grows-trans}
use Rattle.reason_core.proofs.look.write_byte.Goals as goal

pub loop-escaped-init : goal.loop-escaped-init
loop-escaped-init g c = Grows-none (g.N.Write.contents c.args.notes.now)

pub loop-escaped-preserved : goal.loop-escaped-preserved
loop-escaped-preserved g c = Grows-trans _ _ _ c.loop-escaped.invariant c.in_ok-write_bytes.ensures.grows

pub returns-in_err-write_bytes-clause-grows : goal.returns-in_err-write_bytes-clause-grows
returns-in_err-write_bytes-clause-grows g c = Grows-trans _ _ _ c.loop-escaped.invariant c.in_err-write_bytes.ensures.grows
