-- The data of a buffer's lock, as callers see it.
use Rattle.std.specs.Prelude.{ℕ, List}
use Rattle.point_core.specs.declared.entry.Entry.{Entry}

-- all puts, in order, and the reach of the last call that was not torn
pub record BufferModel : Type 0 where
  pub journal : List Entry
  pub floor : List ℕ
