use Rattle.std.proofs.Common.{◌≡◌, not, ◌&&◌, drop}
use Rattle.device_core.specs.declared.waiting_files.Waiter.{Waiter as Key}
use Rattle.device_core.specs.theorem.State.{AreInOrder, holds, waits_of}
use Rattle.device_core.proofs.waiting_files.WaitingFiles.take_all.Given as goal

abbrev pub invariant-loop-fence : goal.invariant-loop-fence
invariant-loop-fence l = record {
  left : (k : Key) → (not (waits_of l.file (drop l.fence-index l.fences) k) && holds l.self k) ≡ (not (waits_of l.file l.fences k) && holds l.fn.self k);
  ordered : AreInOrder l.self;
}
