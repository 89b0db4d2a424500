-- A list in normal form is its own listing.
use Rattle.std.proofs.Common.{◌≡◌, ◌≢◌, ℕ, ◌+◌, ◌<◌, ◌≤◌, zero, suc, refl, sym, ap, ◌∙◌, List, [], ◌∷◌, length, get_or, map, Option, None, Some, option_map, arith, if◌then◌else◌, inl, inr, All}
use Rattle.std.specs.List.{filter_map, cons_option, range_with_len}
use Rattle.std.specs.List.Sorted.{IsStrictlyIncreasing}
use Rattle.std.proofs.lemmas.Bool.{cases_eq, lt-ltb}
use Rattle.std.proofs.lemmas.List.Elements.{All-nil, All-cons, All-head, All-tail, All-weaker, All-from_get_or}
use Rattle.point_core.specs.declared.context.TheConstants.{CONTEXTS}
use Rattle.point_core.specs.declared.entry.Point.{Point}
use Rattle.point_core.specs.declared.entry.Entry.{Entry}
use Rattle.point_core.specs.Reach.{value_at}
use Rattle.point_core.specs.Agreement.{later, top, pending, pending_top, as_entry, as_entries, point_of, listing, HasContexts, HasRisingContexts, AllAbove}
use Rattle.point_core.proofs.Latest.{applies-true, applies-other}
use Rattle.point_core.proofs.Listings.{filter_map-contexts, filter_map-range_same}

pub IsStrictlyIncreasing-tail : (x : ℕ) (xs : List ℕ) → IsStrictlyIncreasing (x ∷ xs) → IsStrictlyIncreasing xs
IsStrictlyIncreasing-tail x xs rising = λ k low. let next : suc k + 1 ≡ suc (k + 1) = omega arith in rw next at (rising (suc k) (omega arith))

IsStrictlyIncreasing-above : (x : ℕ) (xs : List ℕ) → IsStrictlyIncreasing (x ∷ xs) → (k : ℕ) → k < length xs → x < get_or xs k 0
IsStrictlyIncreasing-above x xs rising zero low = rising 0 (omega arith)
IsStrictlyIncreasing-above x xs rising (suc k) low =
    let before = IsStrictlyIncreasing-above x xs rising k (omega arith) in
    let next : suc k + 1 ≡ suc (suc k) = omega arith in
    let step = rw next at (rising (suc k) (omega arith)) in
    omega arith

All-unmap : (P : ℕ → Type 0) (f : Point → ℕ) (ps : List Point) → All P (map f ps) → All (λ p. P (f p)) ps
All-unmap P f [] h = All-nil (λ p. P (f p))
All-unmap P f (p ∷ ps) h = All-cons (λ q. P (f q)) p ps (All-head P (f p) (map f ps) h) (All-unmap P f ps (All-tail P (f p) (map f ps) h))

-- the rest of a rising list is above its first
pub above-first : (p : Point) (ps : List Point) → HasRisingContexts (p ∷ ps) → All (λ q. p.ctx < q.ctx) ps
above-first p ps rising = All-unmap (λ y. p.ctx < y) (λ (q : Point). q.ctx) ps (All-from_get_or (λ y. p.ctx < y) (map (λ (q : Point). q.ctx) ps) 0 (IsStrictlyIncreasing-above p.ctx (map (λ (q : Point). q.ctx) ps) rising))

top-none_of_context : (ps : List Point) (ctx : ℕ) → All (λ p. p.ctx ≢ ctx) ps → top (as_entries ps) 0 ctx ≡ None
top-none_of_context [] ctx apart = refl
top-none_of_context (p ∷ ps) ctx apart =
    ap (λ b. if b then later p.value (top (as_entries ps) 0 ctx) else top (as_entries ps) 0 ctx) (applies-other (as_entry p) 0 ctx (All-head (λ (q : Point). q.ctx ≢ ctx) p ps apart))
    ∙ top-none_of_context ps ctx (All-tail (λ (q : Point). q.ctx ≢ ctx) p ps apart)

top-first : (p : Point) (ps : List Point) → All (λ q. p.ctx < q.ctx) ps → top (as_entries (p ∷ ps)) 0 p.ctx ≡ Some p.value
top-first p ps above =
    ap (λ b. if b then later p.value (top (as_entries ps) 0 p.ctx) else top (as_entries ps) 0 p.ctx) (applies-true (as_entry p) 0 p.ctx (omega arith) refl)
    ∙ ap (later p.value) (top-none_of_context ps p.ctx (All-weaker (λ (q : Point). p.ctx < q.ctx) (λ (q : Point). q.ctx ≢ p.ctx) (λ q high is. omega arith) ps above))

top-rest : (p : Point) (ps : List Point) (ctx : ℕ) → p.ctx ≢ ctx → top (as_entries (p ∷ ps)) 0 ctx ≡ top (as_entries ps) 0 ctx
top-rest p ps ctx apart = ap (λ b. if b then later p.value (top (as_entries ps) 0 ctx) else top (as_entries ps) 0 ctx) (applies-other (as_entry p) 0 ctx apart)

abbrev listed : List ℕ → List Point → ℕ → Option Point
listed reach ps ctx = option_map (point_of ctx) (pending_top reach (as_entries ps) 0 ctx)

abbrev Within : ℕ → ℕ → List Point → Type 0
Within a n ps = All (λ (p : Point). (a ≤ p.ctx) × (p.ctx < a + n)) ps

listed-first : (reach : List ℕ) (p : Point) (ps : List Point) (a : ℕ) → p.ctx ≡ a → value_at reach p.ctx < p.value → All (λ q. p.ctx < q.ctx) ps → listed reach (p ∷ ps) a ≡ Some p
listed-first reach p ps a is high above =
    ap (listed reach (p ∷ ps)) (sym is)
    ∙ ap (λ t. option_map (point_of p.ctx) (pending (value_at reach p.ctx) t)) (top-first p ps above)
    ∙ ap (λ b. option_map (point_of p.ctx) (if b then Some p.value else None)) (lt-ltb (value_at reach p.ctx) p.value high)

listed-none : (reach : List ℕ) (ps : List Point) (a : ℕ) → All (λ p. p.ctx ≢ a) ps → listed reach ps a ≡ None
listed-none reach ps a apart = ap (λ t. option_map (point_of a) (pending (value_at reach a) t)) (top-none_of_context ps a apart)

listed-rest : (reach : List ℕ) (p : Point) (ps : List Point) (ctx : ℕ) → p.ctx ≢ ctx → listed reach (p ∷ ps) ctx ≡ listed reach ps ctx
listed-rest reach p ps ctx apart = ap (λ t. option_map (point_of ctx) (pending (value_at reach ctx) t)) (top-rest p ps ctx apart)

listed-itself : (reach : List ℕ) (n a : ℕ) (ps : List Point) → Within a n ps → HasRisingContexts ps → AllAbove reach ps → filter_map (listed reach ps) (range_with_len a n) ≡ ps
listed-itself reach zero a [] within rising high = refl
listed-itself reach zero a (p ∷ ps) within rising high =
    let has = All-head (λ (q : Point). (a ≤ q.ctx) × (q.ctx < a + 0)) p ps within in
    absurd (omega arith)
listed-itself reach (suc n) a [] within rising high = listed-itself reach n (a + 1) [] (All-nil (λ (q : Point). (a + 1 ≤ q.ctx) × (q.ctx < a + 1 + n))) rising high
listed-itself reach (suc n) a (p ∷ ps) within rising high =
    let above = above-first p ps rising in
    let has = All-head (λ (q : Point). (a ≤ q.ctx) × (q.ctx < a + suc n)) p ps within in
    let rest = All-tail (λ (q : Point). (a ≤ q.ctx) × (q.ctx < a + suc n)) p ps within in
    let rest_later : Within (a + 1) n ps = λ k d low. let bounds = rest k d low in let over = above k d low in (omega arith, omega arith) in
    elim (cases_eq p.ctx a) [
      | inl is ↦
          ap (λ o. cons_option o (filter_map (listed reach (p ∷ ps)) (range_with_len (a + 1) n))) (listed-first reach p ps a is (All-head (λ (q : Point). value_at reach q.ctx < q.value) p ps high) above)
          ∙ ap (λ qs. p ∷ qs) (
          filter_map-range_same (listed reach (p ∷ ps)) (listed reach ps) (a + 1) n (λ k low up. listed-rest reach p ps k (λ same. omega arith))
          ∙ listed-itself reach n (a + 1) ps rest_later (IsStrictlyIncreasing-tail p.ctx (map (λ (q : Point). q.ctx) ps) rising) (All-tail (λ (q : Point). value_at reach q.ctx < q.value) p ps high))
      | inr apart ↦
          ap (λ o. cons_option o (filter_map (listed reach (p ∷ ps)) (range_with_len (a + 1) n))) (listed-none reach (p ∷ ps) a (All-cons (λ (q : Point). q.ctx ≢ a) p ps apart (All-weaker (λ (q : Point). p.ctx < q.ctx) (λ (q : Point). q.ctx ≢ a) (λ q over same. omega arith) ps above)))
          ∙ listed-itself reach n (a + 1) (p ∷ ps) (All-cons (λ (q : Point). (a + 1 ≤ q.ctx) × (q.ctx < a + 1 + n)) p ps (omega arith, omega arith) rest_later) rising high
    ]

within-contexts : (n : ℕ) → n ≡ CONTEXTS → (ps : List Point) → HasContexts (as_entries ps) → Within 1 n ps
within-contexts n is [] within = All-nil (λ (p : Point). (1 ≤ p.ctx) × (p.ctx < 1 + n))
within-contexts n is (p ∷ ps) within =
    let has = All-head (λ (e : Entry). (1 ≤ e.point.ctx) × (e.point.ctx ≤ CONTEXTS)) (as_entry p) (as_entries ps) within in
    All-cons (λ (q : Point). (1 ≤ q.ctx) × (q.ctx < 1 + n)) p ps (has.0, omega arith) (within-contexts n is ps (All-tail (λ (e : Entry). (1 ≤ e.point.ctx) × (e.point.ctx ≤ CONTEXTS)) (as_entry p) (as_entries ps) within))

listing-itself_below : (n : ℕ) → n ≡ CONTEXTS → (reach : List ℕ) (ps : List Point) → HasRisingContexts ps → HasContexts (as_entries ps) → AllAbove reach ps → listing (as_entries ps) 0 reach ≡ ps
listing-itself_below n is reach ps rising within high =
    sym (filter_map-contexts (listed reach ps) n is) ∙ listed-itself reach n 1 ps (within-contexts n is ps within) rising high

pub listing-itself : (reach : List ℕ) (ps : List Point) → HasRisingContexts ps → HasContexts (as_entries ps) → AllAbove reach ps → listing (as_entries ps) 0 reach ≡ ps
listing-itself reach ps rising within high = listing-itself_below CONTEXTS refl reach ps rising within high
