use Rattle.std.proofs.Common.{◌≡◌, ◌+◌, ◌≤◌, drop, length, vec_len}
use Rattle.std.specs.Prelude.{fold}
use Rattle.std.specs.Vec.{vec_capacity}
use Rattle.device_core.specs.theorem.Buffers.{imported, with_buffer_fence}
use Rattle.device_core.proofs.buffer.put_pending.Given as goal

abbrev pub invariant-loop-fence : goal.invariant-loop-fence
invariant-loop-fence l = record {
  put : fold with_buffer_fence l.fences.items (imported l.usage (drop l.fence-index l.put)) ≡ fold with_buffer_fence l.fn.fences.items (imported l.usage l.put);
  room : vec_len l.fences + length l.put ≤ vec_capacity l.fences + l.fence-index;
}
