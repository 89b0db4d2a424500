use Rattle.std.proofs.Common.{◌≡◌, ◌+◌, ◌++◌, take}
use Rattle.std.specs.VecDeque.{deque_len, deque_capacity}
use Rattle.c_desk.proofs.service.push_all.Given as goal

abbrev pub invariant-loop-cookie : goal.invariant-loop-cookie
invariant-loop-cookie l =
    (l.fired.items ≡ l.fn.fired.items ++ take l.cookie-index l.fn.cookies)
    × (deque_len l.fired ≡ deque_len l.fn.fired + l.cookie-index)
    × (deque_capacity l.fired ≡ deque_capacity l.fn.fired)
