-- Ownership of a handle: a boxed value if it is open, and nothing if it is closed.
use Rattle.std.specs.Prelude.{Bool, true, false}
use base.Fml.{Fml, ftrue}
use denote.RattleType.{RattleType}
use denote.RawPtr.{Ptr, block_ptr, null_ptr}
use Rattle.std.specs.Box.Ownership.{box_owns}
use Rattle.std.specs.Global.{Global}
use Rattle.std_heap.specs.contracts.GlobalAllocator.TheImpl.{ghosts}

abbrev pub handle_owns : (R : RattleType) → Global → Ptr → R.Denot → Fml
handle_owns R alloc (block_ptr b o) x = box_owns (ghosts.dealloc_token alloc) R (block_ptr b o) x
handle_owns R alloc null_ptr x = ftrue

-- a handle is closed while its pointer is null
abbrev pub is_block : Ptr → Bool
is_block (block_ptr b o) = true
is_block null_ptr = false
