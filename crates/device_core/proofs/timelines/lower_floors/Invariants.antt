use Rattle.std.proofs.Common.{◌≡◌, ℕ, drop}
use Rattle.std.specs.Prelude.{option_map}
use Rattle.device_core.specs.Floors.{lowered, timelines_in}
use Rattle.device_core.specs.theorem.State.{at}
use Rattle.device_core.proofs.timelines.lower_floors.Given as goal

abbrev pub invariant-loop-fence : goal.invariant-loop-fence
invariant-loop-fence l = record {
  left : (q : ℕ) → option_map (lowered q (drop l.fence-index l.fences)) (at l.timelines.entries q) ≡ option_map (lowered q l.fences) (at l.fn.timelines.entries q);
  same : timelines_in l.timelines.entries ≡ timelines_in l.fn.timelines.entries;
}
