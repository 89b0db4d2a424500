-- A handle can be sent to another thread if its value can.
use base.Shift.{Keyless}
use mir.Raw.{raw}
use denote.Memory.{lone}
use denote.RattleType.{RattleType}
use denote.RawPtr.{Ptr, block_ptr, null_ptr}
use denote.Param.Send.{IsSend}
use Rattle.std.proofs.Crossing as heap
use Rattle.std.specs.Global.{Global}
use Rattle.std_alloc.proofs.SendSync.{lies}
use Rattle.c_handle.specs.Owning.{handle_owns}

pub keyless : (R : RattleType) → IsSend R → (alloc : Global) (p : Ptr) (x : R.Denot) → Keyless (handle_owns R alloc p x)
keyless R send alloc (block_ptr b o) x = (lies R send (block_ptr b o) x, heap.frees.frees alloc (raw (lone R.mir)) (block_ptr b o))
keyless R send alloc null_ptr x = tt
