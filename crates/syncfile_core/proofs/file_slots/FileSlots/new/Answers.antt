use Rattle.syncfile_core.proofs.Placed.{AreInPlace-none}
use Rattle.syncfile_core.proofs.file_slots.FileSlots.new.Goals as goal

pub invariant_of-result : goal.invariant_of-result
invariant_of-result c = AreInPlace-none _ _ c.new.ensures.empty
