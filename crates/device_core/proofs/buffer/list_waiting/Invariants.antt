use Rattle.std.proofs.Common.{◌≡◌, drop}
use Rattle.std.specs.Prelude.{fold}
use Rattle.std.specs.List.{filter_map}
use Rattle.device_core.specs.theorem.Fences.{with_fence}
use Rattle.device_core.specs.theorem.State.{at}
use Rattle.device_core.specs.theorem.Buffers.{waiting_fence}
use Rattle.device_core.proofs.buffer.list_waiting.Given as goal

abbrev pub invariant-loop-fence : goal.invariant-loop-fence
invariant-loop-fence l = record {
  left : fold with_fence l.listed.items (filter_map (waiting_fence (at l.timelines.entries) l.usage) (drop l.fence-index l.fences))
      ≡ fold with_fence l.fn.listed.items (filter_map (waiting_fence (at l.timelines.entries) l.usage) l.fences);
}
