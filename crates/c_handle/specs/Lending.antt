-- Whether a handle is open, and the handle after a write to its value.
use Rattle.std.specs.Prelude.{Bool}
use Rattle.std.specs.Borrow.{Lends, MutBor, Fml}
use denote.RattleType.{RattleType}
use Rattle.c_handle.specs.Owning.{is_block}
use Rattle.c_handle.specs.declared.handle.Handle.{Handle}
use Rattle.c_handle.specs.contracts.handle.Handle.{the_row}

module _ {X : Type 0} where
  abbrev pub is_open : Handle X → Bool
  is_open h = is_block h.at

  -- h with the value x
  abbrev pub with_held : Handle X → X → Handle X
  with_held h x = record { at = h.at; alloc = h.alloc; held = x }

-- h ends with the last value behind r
abbrev pub LendsHeld : (R : RattleType) → MutBor (Handle R.Denot) → MutBor R.Denot → Fml
LendsHeld R h r = Lends (the_row R) R h r (with_held h.now)
