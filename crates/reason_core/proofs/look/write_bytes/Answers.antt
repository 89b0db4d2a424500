use Rattle.reason_core.proofs.Notes.{Grows-either}
use Rattle.reason_core.proofs.look.write_bytes.Goals as goal

pub returns-clause-grows : goal.returns-clause-grows
returns-clause-grows g c = Grows-either c.write_whole.result _ _ c.args.bytes.now c.write_whole.ensures.ok c.write_whole.ensures.err
