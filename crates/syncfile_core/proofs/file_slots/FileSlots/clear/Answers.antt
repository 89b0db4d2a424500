use Rattle.std.proofs.Common.{ap}
use Rattle.syncfile_core.specs.Files.{files_in}
use Rattle.syncfile_core.proofs.Placed.{AreInPlace-none}
use Rattle.syncfile_core.proofs.file_slots.FileSlots.clear.Goals as goal

pub invariant_of-self : goal.invariant_of-self
invariant_of-self c = AreInPlace-none _ _ c.clear.ensures.empty

pub returns : goal.returns
returns c = ap (λ names. files_in names c.self.inside.made.items) c.clear.ensures.empty
