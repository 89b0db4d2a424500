use Rattle.std.proofs.Common.{◌≡◌, drop}
use Rattle.device_core.specs.theorem.State.{at}
use Rattle.device_core.specs.theorem.Buffers.{none_waits}
use Rattle.device_core.proofs.buffer.none_waits.Given as goal

abbrev pub invariant-loop-fence : goal.invariant-loop-fence
invariant-loop-fence l = record { left : none_waits (at l.timelines.entries) l.usage l.fences ≡ none_waits (at l.timelines.entries) l.usage (drop l.fence-index l.fences) }
