use Rattle.std.proofs.Common.{◌≡◌, ◌+◌, take, drop}
use Rattle.std.specs.VecDeque.{deque_len, deque_capacity}
use Rattle.c_handle.specs.Rows.{over}
use Rattle.c_desk.proofs.service.take.Given as goal

abbrev pub invariant-loop-index : goal.invariant-loop-index
invariant-loop-index l =
    (l.cookies ≡ over (take l.index l.fn.fired.items) l.fn.cookies)
    × (l.fired.items ≡ drop l.index l.fn.fired.items)
    × (deque_len l.fired + l.index ≡ deque_len l.fn.fired)
    × (deque_capacity l.fired ≡ deque_capacity l.fn.fired)
