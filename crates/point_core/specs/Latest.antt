-- A table of the latest point of each context, which begins as a reach.
use Rattle.std.specs.Prelude.{◌≡◌, ℕ, ◌≤◌, nat_lt, max, if◌then◌else◌, List, Option, None, Some}
use Rattle.std.specs.List.{filter_map}
use Rattle.point_core.specs.declared.entry.Point.{Point}
use Rattle.point_core.specs.declared.entry.Entry.{Entry}
use Rattle.point_core.specs.declared.context.TheConstants.{CONTEXTS}
use Rattle.point_core.specs.Agreement.{top, contexts, point_of}
use Rattle.point_core.specs.Reach.{value_at}

-- the value, or the point if it is later
abbrev pub raised_to : ℕ → Option ℕ → ℕ
raised_to value None = value
raised_to value (Some p) = max value p

-- the table has each context's latest point at the usage, or the reach if that is later
pub record IsLatest (latest reach : List ℕ) (es : List Entry) (usage : ℕ) : Type 0 where
  pub values : (ctx : ℕ) → 1 ≤ ctx → ctx ≤ CONTEXTS → value_at latest ctx ≡ raised_to (value_at reach ctx) (top es usage ctx)

-- the table's point of the context, if it is above the reach
abbrev pub point_above : List ℕ → List ℕ → ℕ → Option Point
point_above latest reach ctx =
    if nat_lt (value_at reach ctx) (value_at latest ctx) then Some (point_of ctx (value_at latest ctx)) else None

-- the table's points that are above the reach, by rising context
abbrev pub points_above : List ℕ → List ℕ → List Point
points_above latest reach = filter_map (point_above latest reach) contexts
