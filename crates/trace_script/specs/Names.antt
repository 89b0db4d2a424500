-- The names of a script's timelines and files.
use Rattle.std.specs.Prelude.{◌≡◌, ◌<◌, ◌^◌, ℕ, Bool, true, not, ◌||◌, ◌==◌, if◌then◌else◌, List, ◌∷◌, ◌++◌, map, take, decimal, Option, None, Some, IfSome}
use Rattle.std.specs.Char.{is_ascii_alphanumeric}
use Rattle.std.specs.List.{list_all, list_any}
use Rattle.std.specs.Map.{lookup}
use Rattle.point_core.specs.Named.{same_name}
use Rattle.trace_core.specs.Keys.{same_timeline}
use Rattle.trace_core.specs.declared.fence_event.TimelineKey.{TimelineKey}
use Rattle.trace_script.specs.declared.safe_names.TheConstants.{SAFE_BYTES}

-- a letter, a digit, `_` or `-`
abbrev pub is_safe : ℕ → Bool
is_safe b = is_ascii_alphanumeric b || (b == 95) || (b == 45)

abbrev pub safe_byte : ℕ → ℕ
safe_byte b = if is_safe b then b else 95

-- the first bytes of a name of the trace
abbrev pub safe_name : List ℕ → List ℕ
safe_name raw = map safe_byte (take SAFE_BYTES raw)

-- the name of the trace's timeline, if it has one
abbrev pub name_at : List (TimelineKey × List ℕ) → TimelineKey → Option (List ℕ)
name_at names key = lookup (same_timeline key) names

-- no two timelines have the same name
abbrev pub AreApart : List (TimelineKey × List ℕ) → Type 0
AreApart names =
    (key other : TimelineKey) (name : List ℕ) → name_at names key ≡ Some name → name_at names other ≡ Some name →
    key ≡ other

-- 46 is the point
abbrev pub HasNoPoint : List ℕ → Type 0
HasNoPoint name = list_all (λ b. not (b == 46)) name ≡ true

-- the names are apart, have no point, and are among the names that are taken
pub record AreNames (names : List (TimelineKey × List ℕ)) (taken : List (List ℕ)) : Type 0 where
  pub apart : AreApart names
  pub plain : (key : TimelineKey) (name : List ℕ) → name_at names key ≡ Some name → HasNoPoint name
  pub among : (key : TimelineKey) (name : List ℕ) → name_at names key ≡ Some name → list_any (same_name name) taken ≡ true

-- the name of a timeline of the script: the name of the trace's timeline, and its context behind a point if it is one of several
abbrev pub lane_name : List ℕ → Option ℕ → List ℕ
lane_name base None = base
lane_name base (Some context) = base ++ 46 ∷ decimal context

-- a context, if there is one, is a number of 64 bits
abbrev pub IsContext : Option ℕ → Type 0
IsContext context = IfSome context (λ c. c < 2 ^ 64)

-- no two timelines of a script have the same name
abbrev pub AreLanesApart : List (TimelineKey × List ℕ) → Type 0
AreLanesApart names =
    (key other : TimelineKey) (base own : List ℕ) → name_at names key ≡ Some base → name_at names other ≡ Some own →
    (context another : Option ℕ) → IsContext context → IsContext another →
    lane_name base context ≡ lane_name own another → (key ≡ other) × (context ≡ another)

-- the name of a fence's file: its timeline's, its context and its seqno, with points between
abbrev pub file_name : List ℕ → ℕ → ℕ → List ℕ
file_name base context seqno = base ++ 46 ∷ (decimal context ++ 46 ∷ decimal seqno)
