use Rattle.std.proofs.Common.{take}
use Rattle.resv_core.specs.TopTable.{AreNotLater}
use Rattle.resv_core.proofs.kept_tops.first_later.Given as goal

abbrev pub invariant-loop-index : goal.invariant-loop-index
invariant-loop-index l = AreNotLater l.latest (take l.index l.points)
