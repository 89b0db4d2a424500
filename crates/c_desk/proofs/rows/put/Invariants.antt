use Rattle.std.proofs.Common.{◌≡◌, map, take}
use Rattle.c_handle.specs.Rows.{over}
use Rattle.c_desk.proofs.rows.put.Given as goal

abbrev pub invariant-loop-index : goal.invariant-loop-index
invariant-loop-index g l = l.rows ≡ over (take l.index (map g.R.RowOf.made_of l.fn.given)) l.fn.rows
