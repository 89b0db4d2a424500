-- The points in a table of latest points rise by context.
use Rattle.std.proofs.Common.{◌≡◌, ℕ, ◌+◌, ◌<◌, zero, suc, Bool, true, false, refl, subst, List, map, Option, None, Some, All, if◌then◌else◌, nat_lt, arith}
use Rattle.std.specs.List.{filter_map, cons_option, range_with_len}
use Rattle.std.proofs.lemmas.List.Elements.{All-nil, All-cons, All-map}
use Rattle.point_core.specs.declared.context.TheConstants.{CONTEXTS}
use Rattle.point_core.specs.declared.entry.Point.{Point}
use Rattle.point_core.specs.Agreement.{point_of, HasRisingContexts}
use Rattle.point_core.specs.Latest.{point_above, points_above}
use Rattle.point_core.specs.Reach.{value_at}
use Rattle.point_core.proofs.Agreement.{IsStrictlyIncreasing-cons}
use Rattle.point_core.proofs.Listings.{filter_map-contexts}
use Rattle.syncfile_core.specs.Drafts.{pending_of}

-- each point is of a later context
AllLater : ℕ → List Point → Type 0
AllLater ctx ps = All (λ (p : Point). ctx < p.ctx) ps

-- the point of a context, if it is listed, before other points
abbrev with_point : Bool → ℕ → ℕ → List Point → List Point
with_point listed ctx value ps = cons_option (if listed then Some (point_of ctx value) else None) ps

AllLater-with_point : (listed : Bool) (before ctx value : ℕ) (ps : List Point) → before < ctx → AllLater before ps → AllLater before (with_point listed ctx value ps)
unfolding AllLater
AllLater-with_point true before ctx value ps low later = All-cons (λ (p : Point). before < p.ctx) (point_of ctx value) ps low later
AllLater-with_point false before ctx value ps low later = later

HasRisingContexts-with_point : (listed : Bool) (ctx value : ℕ) (ps : List Point) → AllLater ctx ps → HasRisingContexts ps → HasRisingContexts (with_point listed ctx value ps)
unfolding AllLater
HasRisingContexts-with_point true ctx value ps later rising =
    IsStrictlyIncreasing-cons ctx (map (λ (p : Point). p.ctx) ps) (All-map (λ c. ctx < c) (λ (p : Point). p.ctx) ps later) rising
HasRisingContexts-with_point false ctx value ps later rising = rising

module _ (latest reach : List ℕ) where
  -- the points of n contexts, from `first` on
  abbrev points_from : ℕ → ℕ → List Point
  points_from first n = filter_map (point_above latest reach) (range_with_len first n)

  AllLater-points_from : (before first n : ℕ) → before < first → AllLater before (points_from first n)
  unfolding AllLater
  AllLater-points_from before first zero low = All-nil (λ (p : Point). before < p.ctx)
  AllLater-points_from before first (suc n) low =
      AllLater-with_point (nat_lt (value_at reach first) (value_at latest first)) before first (value_at latest first)
      (points_from (first + 1) n) low (AllLater-points_from before (first + 1) n (omega arith))

  HasRisingContexts-points_from : (first n : ℕ) → HasRisingContexts (points_from first n)
  HasRisingContexts-points_from first zero = λ k low. absurd (omega arith)
  HasRisingContexts-points_from first (suc n) =
      HasRisingContexts-with_point (nat_lt (value_at reach first) (value_at latest first)) first (value_at latest first)
      (points_from (first + 1) n) (AllLater-points_from first (first + 1) n (omega arith)) (HasRisingContexts-points_from (first + 1) n)

  points_above-rising_below : (n : ℕ) → n ≡ CONTEXTS → HasRisingContexts (points_above latest reach)
  points_above-rising_below n is =
      subst HasRisingContexts (filter_map-contexts (point_above latest reach) n is) (HasRisingContexts-points_from 1 n)

pub pending_of-rising : (latest : Option (List ℕ)) (reach : List ℕ) → HasRisingContexts (pending_of latest reach)
pending_of-rising None reach = λ k low. absurd (omega arith)
pending_of-rising (Some latest) reach = points_above-rising_below latest reach CONTEXTS refl
