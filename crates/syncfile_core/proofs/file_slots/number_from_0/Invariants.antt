use Rattle.std.proofs.Common.{◌≡◌, length}
use Rattle.syncfile_core.proofs.Renumbering.{numbered_first}
use Rattle.syncfile_core.proofs.file_slots.number_from_0.Given as goal

abbrev pub invariant-loop-index : goal.invariant-loop-index
invariant-loop-index l = record {
  numbered : l.made ≡ numbered_first 0 l.index l.initial.made;
  len : length l.made ≡ length l.initial.made;
}
