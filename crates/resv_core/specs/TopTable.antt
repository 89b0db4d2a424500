-- The latest points that a buffer keeps, as the entries that they represent.
use Rattle.std.specs.Prelude.{ℕ, ◌≡◌, ◌≤◌, ◌<◌, nat_lt, if◌then◌else◌, List, [], ◌∷◌, ◌++◌, All, Option, None, Some}
use Rattle.point_core.specs.declared.entry.Point.{Point}
use Rattle.std.specs.List.{flat_map}
use Rattle.point_core.specs.declared.context.TheConstants.{CONTEXTS}
use Rattle.point_core.specs.declared.entry.Entry.{Entry}
use Rattle.point_core.specs.Reach.{value_at}
use Rattle.point_core.specs.Agreement.{contexts}
use Rattle.resv_core.specs.declared.tops.Tops.{Tops}
use Rattle.resv_core.specs.Resv.{Reservation}
use Rattle.resv_core.specs.Tops.{IsRising, entries_at}

-- the entries that the tables represent: for each context, one for each usage that has a later point than the stronger
-- ones
abbrev pub entries_of : Tops → List Entry
entries_of tops = flat_map (entries_at tops []) contexts

-- the tables of a buffer, which has none before its first fence
abbrev pub reservation_of : Option Tops → Reservation
reservation_of None = record { entries = []; room = 0 }
reservation_of (Some tops) = record { entries = entries_of tops; room = 0 }

-- a weaker usage's table includes the stronger ones'
pub record AreRising (tops : Tops) : Type 0 where
  pub each : (ctx : ℕ) → 1 ≤ ctx → ctx ≤ CONTEXTS → IsRising tops [] ctx

-- a value that is reached counts as 0
abbrev pub pending_value : ℕ → ℕ → ℕ
pending_value reached value = if nat_lt reached value then value else 0

-- each value that is reached is dropped, and the others are kept
pub record HasDropped (reach before after : List ℕ) : Type 0 where
  pub values : (ctx : ℕ) → 1 ≤ ctx → ctx ≤ CONTEXTS →
      value_at after ctx ≡ pending_value (value_at reach ctx) (value_at before ctx)

-- at every usage
pub record AreDropped (reach : List ℕ) (before after : Tops) : Type 0 where
  pub kernel : HasDropped reach before.kernel after.kernel
  pub write : HasDropped reach before.write after.write
  pub read : HasDropped reach before.read after.read
  pub bookkeep : HasDropped reach before.bookkeep after.bookkeep

-- each point's context exists, and the point is not later than the table's
abbrev pub AreNotLater : List ℕ → List Point → Type 0
AreNotLater latest points = All (λ p. ((1 ≤ p.ctx) × (p.ctx ≤ CONTEXTS)) × (p.value ≤ value_at latest p.ctx)) points

-- the first of the points that is later than in the table, and the rest
pub record IsFirstLater (latest : List ℕ) (points : List Point) (first : Point) (others : List Point) : Type 0 where
  pub before : List Point
  pub parts : points ≡ before ++ first ∷ others
  pub passed : AreNotLater latest before
  pub later : value_at latest first.ctx < first.value
