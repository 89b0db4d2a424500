-- The ownership of a handle and its parts, as a box at the same types.
use mathlib.Core.Path.{◌≡◌, refl}
use mathlib.Core.Bool.{Bool, true, false, not}
use mathlib.Core.List.{[], ◌∷◌}
use lib.Dec.{T, lit<}
use seplogic.Ra.Ura.{Ura}
use mir.Syntax.{Args, a_type, impl, tnil, dnil, ty_ptr, ptr_eq}
use mir.Raw.{raw as bare}
use mir.Val.{vbool, vnull, op2_val, has_ty, WT}
use base.Fraction.{full_share}
use base.Logic.{ent, via, snd∗, guard, guard_i}
use types.Logic.{Logic, sem}
use contract.Monad.{fact_use}
use denote.Memory.{lone}
use denote.Param.{layouts}
use denote.Param.Laws.{Laws}
use denote.RattleType.{RattleType}
use denote.RawPtr.{Ptr, block_ptr, null_ptr, ptr_val, block_of, count_of, lies_at, Testable}
use Rattle.std.specs.Global.{Global}
use Rattle.std.proofs.GlobalToken.{dealloc_token-Testable}
use Rattle.std_alloc.proofs.BoxSteps.Form.{Bx, D, R}
use Rattle.std_heap.specs.contracts.Global as Heap
use Rattle.std_heap.specs.contracts.GlobalAllocator.TheImpl.{ghosts, dict}
use Rattle.std_heap.proofs.Global.TheLaws as heap
use Rattle.c_handle.specs.Owning.{handle_owns, is_block}
use Rattle.c_handle.specs.contracts.handle.Handle as Handle
use Rattle.c_handle.specs.contracts.parts.Parts as Parts
use Rattle.c_handle.specs.declared.handle.Handle.{Handle as Held}

module _ (X : RattleType) (LX : Laws X) where
  abbrev pub E : Bx
  E = record { row = X; laws = LX; al = record { row = Heap.the_row; laws = heap.the_row_laws; g = ghosts; d = dict; drops = impl [] tnil dnil } }

  abbrev pub H' : RattleType
  H' = Handle.the_row (R E)

  abbrev pub P' : RattleType
  P' = Parts.the_row (R E) Heap.the_row ghosts

  abbrev pub boxed : Held X.Denot → D E
  boxed h = record { ptr = block_ptr (block_of h.at) (count_of h.at); alloc = h.alloc; value = h.held }

abbrev pub args : RattleType → Args
args X = layouts (a_type ∷ []) (X, tt)

pub at_block : (p : Ptr) → is_block p ≡ true → p ≡ block_ptr (block_of p) (count_of p)
at_block (block_ptr b o) is = refl
at_block null_ptr is = absurd (cc)

pub typed : (p : Ptr) → T (has_ty ty_ptr (ptr_val p)) × WT (ptr_val p)
typed (block_ptr b o) = (tt, tt)
typed null_ptr = (tt, record { fits = lit< tt })

-- whether the pointer is null, by the machine's comparison and by the pointer's case
pub answer : (p : Ptr) → (y : Bool) × (op2_val ptr_eq (ptr_val p) vnull ≡ vbool y) × (not y ≡ is_block p)
answer (block_ptr b o) = (false, refl, refl)
answer null_ptr = (true, refl, refl)

-- an owner of a handle may compare its pointer with null
module _ {M : Type 1} {𝓤 : Ura M} (𝓛 : Logic 𝓤) (row : RattleType) (alloc : Global) (x : row.Denot) where
  pub tested : (p : Ptr) → ent 𝓤 (sem 𝓛 (handle_owns row alloc p x)) (guard 𝓤 (Testable p) (sem 𝓛 (handle_owns row alloc p x)))
  tested (block_ptr b o) =
      let p : Ptr = block_ptr b o in
      fact_use 𝓤 (Testable p)
      (via 𝓤 _ (snd∗ 𝓤 (sem 𝓛 (lies_at row full_share p x)) (sem 𝓛 (ghosts.dealloc_token alloc (bare (lone row.mir)) p))) (dealloc_token-Testable 𝓛 alloc (bare (lone row.mir)) p))
      (guard_i 𝓤 (Testable p) (sem 𝓛 (handle_owns row alloc p x)))
  tested null_ptr = guard_i 𝓤 (Testable null_ptr) (sem 𝓛 (handle_owns row alloc null_ptr x)) (lit< tt)
