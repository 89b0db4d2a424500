use Rattle.std.proofs.Common.{◌≡◌, map, take}
use Rattle.c_handle.specs.Rows.{over}
use Rattle.c_device.specs.Reported.{c_fence_info}
use Rattle.c_device.proofs.rows.put.Given as goal

abbrev pub invariant-loop-index : goal.invariant-loop-index
invariant-loop-index l = l.rows ≡ over (take l.index (map c_fence_info l.fn.fences)) l.fn.rows
