use Rattle.std.proofs.Common.{ℕ, List, [], take}
use Rattle.point_core.specs.Latest.{IsLatest}
use Rattle.point_core.specs.Usage.{usage_number}
use Rattle.resv_core.proofs.tops.put_each.Given as goal

abbrev pub invariant-loop-entry : goal.invariant-loop-entry
invariant-loop-entry l = (reach : List ℕ) →
    IsLatest l.initial.latest reach [] (usage_number l.usage) →
    IsLatest l.latest reach (take l.entry-index l.entries) (usage_number l.usage)
