use Rattle.std.proofs.Common.{◌≡◌, ◌≤◌, ℕ, length, take, drop}
use Rattle.c_handle.specs.Rows.{over}
use Rattle.c_device.specs.Service.{AreGiven, open_among}
use Rattle.c_device.proofs.service.take.Given as goal

abbrev pub invariant-loop-count : goal.invariant-loop-count
invariant-loop-count l =
    (l.files ≡ over (take l.count (open_among l.fn.device l.fn.woken.items)) l.fn.files)
    × (open_among l.fn.device l.woken.items ≡ drop l.count (open_among l.fn.device l.fn.woken.items))
    × (l.count ≤ length (open_among l.fn.device l.fn.woken.items))
    × ((next : ℕ) → AreGiven next l.fn.woken.items → AreGiven next l.woken.items)
