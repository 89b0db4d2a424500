use Rattle.std.proofs.Common.{◌≡◌, ◌+◌, ◌++◌, take}
use Rattle.std.specs.VecDeque.{deque_len, deque_capacity}
use Rattle.c_device.proofs.service.push_all.Given as goal

abbrev pub invariant-loop-file : goal.invariant-loop-file
invariant-loop-file l =
    (l.woken.items ≡ l.fn.woken.items ++ take l.file-index l.fn.files)
    × (deque_len l.woken ≡ deque_len l.fn.woken + l.file-index)
    × (deque_capacity l.woken ≡ deque_capacity l.fn.woken)
