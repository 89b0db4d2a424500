-- The latest point of each context in a set of entries, and agreement: two sets of entries are equivalent modulo
-- signalled fences.
use Rattle.std.specs.Prelude.{◌≡◌, ℕ, ◌==◌, ◌<◌, ◌≤◌, Bool, not, ◌&&◌, ◌||◌, nat_lt, nat_le, max, if◌then◌else◌, List, [], ◌∷◌, ◌++◌, Option, None, Some, option_map, map, All, Contains}
use Rattle.std.specs.List.{filter_map, list_all, range_with_len}
use Rattle.std.specs.List.Sorted.{IsStrictlyIncreasing}
use Rattle.point_core.specs.declared.entry.Point.{Point}
use Rattle.point_core.specs.declared.entry.Entry.{Entry}
use Rattle.point_core.specs.declared.entry.Usage.TheVariants.{Kernel}
use Rattle.point_core.specs.declared.context.TheConstants.{CONTEXTS}
use Rattle.point_core.specs.Usage.{usage_number}
use Rattle.point_core.specs.Reach.{value_at, is_reached}

-- the entry is of the context, at the usage or a stronger one
abbrev pub applies : Entry → ℕ → ℕ → Bool
applies e usage ctx = nat_le (usage_number e.usage) usage && (e.point.ctx == ctx)

-- the later of a point and another, if there is another
abbrev pub later : ℕ → Option ℕ → Option ℕ
later p None = Some p
later p (Some q) = Some (max p q)

-- the latest point of the context at the usage or a stronger one
abbrev pub top : List Entry → ℕ → ℕ → Option ℕ
top [] usage ctx = None
top (e ∷ es) usage ctx = if applies e usage ctx then later e.point.value (top es usage ctx) else top es usage ctx

-- `applies` as a proposition
abbrev pub AppliesAt : Entry → ℕ → ℕ → Type 0
AppliesAt e usage ctx = (usage_number e.usage ≤ usage) × (e.point.ctx ≡ ctx)

-- the point was put for the context, at the usage or a stronger one
abbrev pub IsPut : List Entry → ℕ → ℕ → ℕ → Type 0
IsPut es usage ctx p = (e : Entry) × Contains es e × AppliesAt e usage ctx × (e.point.value ≡ p)

-- no point that was put for the context, at the usage or a stronger one, is later
abbrev pub NoneIsLater : List Entry → ℕ → ℕ → ℕ → Type 0
NoneIsLater es usage ctx p = (e : Entry) → Contains es e → AppliesAt e usage ctx → e.point.value ≤ p

-- no entry is of the context, at the usage or a stronger one
abbrev pub NoneApplies : List Entry → ℕ → ℕ → Type 0
NoneApplies es usage ctx = (e : Entry) → Contains es e → ¬ AppliesAt e usage ctx

-- a point that has been reached counts as none
abbrev pub pending : ℕ → Option ℕ → Option ℕ
pending value None = None
pending value (Some p) = if nat_lt value p then Some p else None

-- the latest pending point of the context
abbrev pub pending_top : List ℕ → List Entry → ℕ → ℕ → Option ℕ
pending_top reach es usage ctx = pending (value_at reach ctx) (top es usage ctx)

-- at each usage both have the same latest pending point of each context (equivalence modulo signalled fences)
pub record AgreesAbove (reach : List ℕ) (es fs : List Entry) : Type 0 where
  pub tops : (usage ctx : ℕ) → pending_top reach es usage ctx ≡ pending_top reach fs usage ctx

-- a file's point is read as an entry of the strongest usage
abbrev pub as_entry : Point → Entry
as_entry p = record { point = p; usage = Kernel }

-- the points of a file, each read so
abbrev pub as_entries : List Point → List Entry
as_entries ps = map as_entry ps

-- every context, by rising number
unfoldable pub contexts : List ℕ
contexts = range_with_len 1 CONTEXTS

-- the point of a context at a value
abbrev pub point_of : ℕ → ℕ → Point
point_of ctx value = record { ctx = ctx; value = value }

-- the latest pending point of each context, by rising context (the normal form)
abbrev pub listing : List Entry → ℕ → List ℕ → List Point
listing es usage reach = filter_map (λ ctx. option_map (point_of ctx) (pending_top reach es usage ctx)) contexts

-- the listing of two files' points together above a reach
abbrev pub merged : List ℕ → List Point → List Point → List Point
merged reach ps qs = listing (as_entries (ps ++ qs)) 0 reach

-- the first entry supersedes the second
abbrev pub Covers : Entry → Entry → Type 0
Covers by other =
    (by.point.ctx ≡ other.point.ctx)
    × (usage_number by.usage ≤ usage_number other.usage)
    × (other.point.value ≤ by.point.value)

-- `Covers` as a test
abbrev pub covers : Entry → Entry → Bool
covers by other =
    (by.point.ctx == other.point.ctx)
    && nat_le (usage_number by.usage) (usage_number other.usage)
    && nat_le other.point.value by.point.value

-- each entry is of a context that there can be
abbrev pub HasContexts : List Entry → Type 0
HasContexts es = All (λ e. (1 ≤ e.point.ctx) × (e.point.ctx ≤ CONTEXTS)) es

-- the contexts are distinct, and their numbers rise
abbrev pub HasRisingContexts : List Point → Type 0
HasRisingContexts ps = IsStrictlyIncreasing (map (λ (p : Point). p.ctx) ps)

-- each point is pending
abbrev pub AllAbove : List ℕ → List Point → Type 0
AllAbove reach ps = All (λ p. value_at reach p.ctx < p.value) ps

-- each entry at the usage or a stronger one is reached
abbrev pub IsReached : List Entry → ℕ → List ℕ → Type 0
IsReached es usage reach = (e : Entry) → Contains es e → usage_number e.usage ≤ usage → e.point.value ≤ value_at reach e.point.ctx

-- `IsReached` as a test, over all entries
abbrev pub all_reached : List ℕ → ℕ → List Entry → Bool
all_reached reach usage es = list_all (λ e. not (nat_le (usage_number e.usage) usage) || is_reached reach e.point) es
