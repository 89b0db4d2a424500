use Rattle.std.proofs.Common.{◌≡◌, take}
use Rattle.fence_core.specs.Signal.{HaveFound}
use Rattle.fence_core.proofs.shared_fence.SharedFence.signal.Given as goal

abbrev pub invariant-loop-point : goal.invariant-loop-point
invariant-loop-point l = record {
  found : HaveFound (take l.point-index l.point-items) l.initial.seat l.seat;
  words : l.seat.words ≡ l.initial.seat.words;
  parts : l.seat.parts ≡ l.initial.seat.parts;
}
