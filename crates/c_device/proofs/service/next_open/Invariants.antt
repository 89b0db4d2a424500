use Rattle.std.proofs.Common.{◌≡◌, ℕ}
use Rattle.std.specs.VecDeque.{deque_len}
use Rattle.c_device.specs.Service.{AreGiven, open_among}
use Rattle.c_device.proofs.service.next_open.Given as goal

abbrev pub invariant-loop-file : goal.invariant-loop-file
invariant-loop-file l =
    (open_among l.device l.fn.woken.items ≡ open_among l.device l.woken.items)
    × ((next : ℕ) → AreGiven next l.fn.woken.items → AreGiven next l.woken.items)

abbrev pub decreases-loop-file : goal.decreases-loop-file
decreases-loop-file l = deque_len l.woken
