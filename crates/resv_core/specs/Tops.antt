-- Tables of latest points, one for each usage, and the entries that they represent.
use Rattle.std.specs.Prelude.{◌≡◌, ℕ, ◌≤◌, nat_lt, if◌then◌else◌, List, [], ◌∷◌, ◌++◌}
use Rattle.point_core.specs.declared.entry.Point.{Point}
use Rattle.point_core.specs.declared.entry.Entry.{Entry}
use Rattle.point_core.specs.declared.entry.Usage.{Usage}
use Rattle.point_core.specs.declared.entry.Usage.TheVariants.{Kernel, Write, Read, Bookkeep}
use Rattle.point_core.specs.declared.context.TheConstants.{CONTEXTS}
use Rattle.point_core.specs.Reach.{value_at}
use Rattle.point_core.specs.Agreement.{point_of}
use Rattle.point_core.specs.Latest.{IsLatest}
use Rattle.resv_core.specs.declared.tops.Tops.{Tops}
use Rattle.resv_core.specs.Resv.{entry_of}

-- each table has the latest points at its usage
pub record AreTops (tops : Tops) (reach : List ℕ) (es : List Entry) : Type 0 where
  pub kernel : IsLatest tops.kernel reach es 0
  pub write : IsLatest tops.write reach es 1
  pub read : IsLatest tops.read reach es 2
  pub bookkeep : IsLatest tops.bookkeep reach es 3

-- the tables rise from the reach to the weakest usage
pub record IsRising (tops : Tops) (reach : List ℕ) (ctx : ℕ) : Type 0 where
  pub kernel : value_at reach ctx ≤ value_at tops.kernel ctx
  pub write : value_at tops.kernel ctx ≤ value_at tops.write ctx
  pub read : value_at tops.write ctx ≤ value_at tops.read ctx
  pub bookkeep : value_at tops.read ctx ≤ value_at tops.bookkeep ctx

-- both have equal points of the context
abbrev pub AreSameAt : Tops → Tops → ℕ → Type 0
AreSameAt tops others ctx =
    (value_at tops.kernel ctx ≡ value_at others.kernel ctx)
    × (value_at tops.write ctx ≡ value_at others.write ctx)
    × (value_at tops.read ctx ≡ value_at others.read ctx)
    × (value_at tops.bookkeep ctx ≡ value_at others.bookkeep ctx)

-- and of every context
abbrev pub AreSame : Tops → Tops → Type 0
AreSame tops others = (ctx : ℕ) → 1 ≤ ctx → ctx ≤ CONTEXTS → AreSameAt tops others ctx

-- an entry of the point, if it is later than the stronger usages' points
abbrev pub entry_above : ℕ → Point → Usage → List Entry
entry_above stronger point usage = if nat_lt stronger point.value then entry_of point usage ∷ [] else []

-- the entries of a context that the tables represent
abbrev pub entries_at : Tops → List ℕ → ℕ → List Entry
entries_at tops reach ctx =
    entry_above (value_at reach ctx) (point_of ctx (value_at tops.kernel ctx)) Kernel
    ++ entry_above (value_at tops.kernel ctx) (point_of ctx (value_at tops.write ctx)) Write
    ++ entry_above (value_at tops.write ctx) (point_of ctx (value_at tops.read ctx)) Read
    ++ entry_above (value_at tops.read ctx) (point_of ctx (value_at tops.bookkeep ctx)) Bookkeep
