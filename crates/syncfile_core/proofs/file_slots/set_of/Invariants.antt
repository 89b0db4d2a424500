use Rattle.std.proofs.Common.{◌≡◌, take}
use Rattle.syncfile_core.proofs.file_slots.set_of.Given as goal

abbrev pub invariant-loop-name : goal.invariant-loop-name
invariant-loop-name l = l.set.keys ≡ take l.name-index l.names
