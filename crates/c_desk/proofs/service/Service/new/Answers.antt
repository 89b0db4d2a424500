use Rattle.std.proofs.Common.{arith}
use Rattle.c_desk.proofs.Room.{pending-held}
use Rattle.c_desk.proofs.service.Service.new.Goals as goal

pub invariant_of-result : goal.invariant_of-result
invariant_of-result c =
    let empty = c.in_ok-new.ensures.empty in
    let none = pending-held empty in
    let len = c.new-2.ensures.len in
    record { history = _; stands = empty; room = omega (arith, none, len) }
