use Rattle.std.proofs.Common.{◌≡◌, true, take}
use Rattle.std.specs.List.{list_all}
use Rattle.syncfile_core.specs.Files.{has_file}
use Rattle.syncfile_core.specs.Merge.{files_at, IsGathered}
use Rattle.syncfile_core.proofs.files.Files.merge_many.Given as goal

abbrev pub invariant-loop-input : goal.invariant-loop-input
invariant-loop-input l =
    IsGathered l.gathered.latest l.gathered.floor l.reach (files_at l.fn.self (take l.input-index l.inputs))
    × (list_all (has_file l.fn.self) (take l.input-index l.inputs) ≡ true)
