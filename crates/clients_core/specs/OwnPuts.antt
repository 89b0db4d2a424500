-- The latest points that a client has put into a buffer, for each context and usage.
use Rattle.std.specs.Prelude.{◌≡◌, ℕ, zero, suc, ◌+◌, ◌-◌, ◌*◌, ◌<◌, ◌≤◌, ◌==◌, nat_le, max, Bool, if◌then◌else◌, filter, List, length, slice_index}
use Rattle.point_core.specs.declared.entry.Entry.{Entry}
use Rattle.point_core.specs.declared.entry.Usage.{Usage}
use Rattle.point_core.specs.Agreement.{HasContexts, top}
use Rattle.point_core.specs.Latest.{raised_to}
use Rattle.point_core.specs.Usage.{usage_number}
use Rattle.words_core.specs.declared.words.TheConstants.{USAGES}
use Rattle.clients_core.specs.declared.own_puts.OwnPuts.{OwnPuts}

-- the entry was put at the usage of that number
abbrev pub is_put_at : ℕ → Entry → Bool
is_put_at usage e = usage_number e.usage == usage

-- the latest point of a context that was put at a usage, 0 if none was
abbrev pub latest_put : List Entry → ℕ → ℕ → ℕ
latest_put es usage ctx = raised_to 0 (top (filter (is_put_at usage) es) usage ctx)

-- the kept point of a context at a usage
abbrev pub point_at : OwnPuts → ℕ → ℕ → ℕ
point_at own usage ctx = slice_index own.latest.items (USAGES * (ctx - 1) + usage)

-- the latest of the kept points of a context at a usage or a stronger one
abbrev pub point_to : OwnPuts → ℕ → ℕ → ℕ
point_to own zero ctx = point_at own zero ctx
point_to own (suc usage) ctx = max (point_to own usage ctx) (point_at own (suc usage) ctx)

-- the kept point of a context at a usage, 0 if the usage is weaker than the level
abbrev pub point_up_to : OwnPuts → Usage → ℕ → Usage → ℕ
point_up_to own level ctx usage =
    if nat_le (usage_number usage) (usage_number level) then point_at own (usage_number usage) ctx else 0

-- for each context up to the count, the latest point that was put at each usage is kept
pub record AreOwnPuts (contexts : ℕ) (own : OwnPuts) (es : List Entry) : Type 0 where
  pub valid : HasContexts es
  pub full : length own.latest.items ≡ USAGES * contexts
  pub points : (usage ctx : ℕ) → usage < USAGES → 1 ≤ ctx → ctx ≤ contexts →
      point_at own usage ctx ≡ latest_put es usage ctx
