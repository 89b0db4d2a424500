-- No context after those that were made has a pending point in a table.
use Rattle.std.proofs.Common.{◌≡◌, ℕ, ◌<◌, ◌≤◌, ap, ◌∙◌, List, ◌++◌, None, arith, All, inl, inr}
use Rattle.std.proofs.lemmas.Bool.{cases_lt}
use Rattle.std.proofs.lemmas.List.Elements.{All-contains}
use Rattle.point_core.specs.declared.entry.Point.{Point}
use Rattle.point_core.specs.declared.entry.Entry.{Entry}
use Rattle.point_core.specs.Agreement.{AgreesAbove, top, listing, pending_top}
use Rattle.point_core.specs.Latest.{raised_to}
use Rattle.point_core.specs.Reach.{value_at, IsAtLeast}
use Rattle.point_core.proofs.Agreement.{AgreesAbove-raised, raised_to-top-union, raised_to-higher, pending-same, top-is_none, listing-All}
use Rattle.desk_core.specs.Keeping.{AreMade, HasNoneBehind}

pub HasNoneBehind-AgreesAbove : {made : ℕ} {reach : List ℕ} {es fs : List Entry} → AgreesAbove reach fs es → HasNoneBehind made reach es → HasNoneBehind made reach fs
HasNoneBehind-AgreesAbove same h = record { tops = λ usage ctx behind. AgreesAbove-raised same usage ctx ∙ h.tops usage ctx behind }

pub HasNoneBehind-append : {made : ℕ} {reach : List ℕ} {es fs : List Entry} → HasNoneBehind made reach es → HasNoneBehind made reach fs → HasNoneBehind made reach (es ++ fs)
HasNoneBehind-append {made} {reach} {es} {fs} h h' = record {
  tops = λ usage ctx behind.
      let is = h.tops usage ctx behind in
      let is' = h'.tops usage ctx behind in
      raised_to-top-union (value_at reach ctx) es fs usage ctx ∙ omega arith;
}

-- entries of timelines that were made
pub HasNoneBehind-made : (made : ℕ) (reach : List ℕ) (es : List Entry) → All (λ (e : Entry). e.point.ctx ≤ made) es → HasNoneBehind made reach es
HasNoneBehind-made made reach es all = record {
  tops = λ usage ctx behind. ap (raised_to (value_at reach ctx)) (top-is_none es usage ctx (λ e among applies.
      let within = All-contains (λ (d : Entry). d.point.ctx ≤ made) es e all among in
      let same = applies.1 in
      absurd (omega arith)));
}

-- more timelines, and values that rise
pub HasNoneBehind-later : {made later : ℕ} {reach higher : List ℕ} {es : List Entry} → made ≤ later → IsAtLeast higher reach → HasNoneBehind made reach es → HasNoneBehind later higher es
HasNoneBehind-later {made} {later} {reach} {higher} {es} more rises h = record {
  tops = λ usage ctx behind.
      let low : made < ctx = omega arith in
      let is = h.tops usage ctx low in
      let below = rises.values ctx in
      raised_to-higher below (top es usage ctx) ∙ omega arith;
}

-- each listed point is of a timeline that was made
pub AreMade-behind : (made : ℕ) (reach : List ℕ) (es : List Entry) (usage : ℕ) → HasNoneBehind made reach es → AreMade made (listing es usage reach)
AreMade-behind made reach es usage h = listing-All (λ (p : Point). p.ctx ≤ made) es usage reach (λ ctx p low high is. elim (cases_lt made ctx) [
  | inr within ↦ within
  | inl behind ↦
      let none : pending_top reach es usage ctx ≡ None = pending-same (value_at reach ctx) (top es usage ctx) None (h.tops usage ctx behind) in
      absurd (cc)
])
