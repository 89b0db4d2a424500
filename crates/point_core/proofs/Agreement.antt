-- Tops, what is pending above a reach, agreement, and listings.
use Rattle.std.proofs.Common.{◌≡◌, ℕ, ◌+◌, ◌<◌, ◌≤◌, ◌↔◌, ◌⊎◌, zero, suc, max, refl, sym, ap, ◌∙◌, subst, List, [], ◌∷◌, ◌++◌, map, Option, None, Some, option_map, arith, true, false, ◌==◌, nat_le, nat_lt, ◌&&◌, if◌then◌else◌, inl, inr, All, Contains, IsPermutation}
use Rattle.std.specs.List.{filter_map, cons_option, range_with_len}
use Rattle.std.specs.List.Sorted.{IsStrictlyIncreasing}
use Rattle.std.proofs.lemmas.Bool.{cases_eq, cases_lt, eqb-true, le-leb, leb-true, lt-ltb, le-ltb, and_parts, cases_Bool, false≢true}
use Rattle.std.proofs.lemmas.List.Elements.{Contains-append_left, Contains-append_right, Contains-append_cases, Contains-push_cases, All-cons, All-nil, All-contains, All-map, All-append}
use Rattle.std.proofs.lemmas.List.Sorted.{Contains-permutation, IsPermutation-sym}
use Rattle.point_core.specs.declared.context.TheConstants.{CONTEXTS}
use Rattle.point_core.specs.declared.entry.Point.{Point}
use Rattle.point_core.specs.declared.entry.Entry.{Entry}
use Rattle.point_core.specs.Usage.{usage_number}
use Rattle.point_core.specs.Reach.{value_at, IsAtLeast}
use Rattle.point_core.specs.Agreement.{applies, AppliesAt, later, top, IsPut, NoneIsLater, NoneApplies, pending, pending_top, AgreesAbove, as_entry, as_entries, contexts, point_of, listing, Covers, HasContexts, HasRisingContexts, AllAbove, IsReached}
use Rattle.point_core.specs.Latest.{raised_to}
use Rattle.point_core.proofs.Latest.{raised_to-later, raised_to-top-append, applies-true, applies-other}
use Rattle.point_core.proofs.Values.{IsAtLeast-refl}
use Rattle.point_core.proofs.Listings.{filter_map-contexts, filter_map-range_same}

-- the value that is raised to a point says whether the point is pending, and which it is
pub pending-raised_to : (value : ℕ) (t : Option ℕ) → pending value t ≡ (if nat_lt value (raised_to value t) then Some (raised_to value t) else None)
pending-raised_to value None = rw (le-ltb value value (omega arith)) refl
pending-raised_to value (Some p) = elim (cases_lt value p) [
  | inl above ↦ let is : max value p ≡ p = omega arith in rw is refl
  | inr below ↦ let is : max value p ≡ value = omega arith in rw (is, le-ltb value value (omega arith), le-ltb value p below) refl
]

-- and above a higher value too
pub raised_to-pending : {value higher : ℕ} → value ≤ higher → (t : Option ℕ) → raised_to higher (pending value t) ≡ raised_to higher t
raised_to-pending below None = refl
raised_to-pending {value} {higher} below (Some p) = elim (cases_lt value p) [
  | inl above ↦ rw (lt-ltb value p above) refl
  | inr reached ↦ rw (le-ltb value p reached) (omega arith)
]

pub pending-same : (value : ℕ) (s t : Option ℕ) → raised_to value s ≡ raised_to value t → pending value s ≡ pending value t
pending-same value s t e = pending-raised_to value s ∙ ap (λ r. if nat_lt value r then Some r else None) e ∙ sym (pending-raised_to value t)

pub raised_to-same : (value : ℕ) (s t : Option ℕ) → pending value s ≡ pending value t → raised_to value s ≡ raised_to value t
raised_to-same value s t e = sym (raised_to-pending (omega arith) s) ∙ ap (raised_to value) e ∙ raised_to-pending (omega arith) t

pub raised_to-above : (value : ℕ) (t : Option ℕ) → value ≤ raised_to value t
raised_to-above value None = omega arith
raised_to-above value (Some p) = omega arith

pub raised_to-higher : {value higher : ℕ} → value ≤ higher → (t : Option ℕ) → raised_to higher t ≡ max higher (raised_to value t)
raised_to-higher below None = omega arith
raised_to-higher below (Some p) = omega arith

-- the latest point of a union is the later of both
pub raised_to-top-union : (value : ℕ) (es fs : List Entry) (usage ctx : ℕ) → raised_to value (top (es ++ fs) usage ctx) ≡ max (raised_to value (top es usage ctx)) (raised_to value (top fs usage ctx))
raised_to-top-union value es fs usage ctx = raised_to-top-append value es fs usage ctx ∙ raised_to-higher (raised_to-above value (top es usage ctx)) (top fs usage ctx)

-- agreement is equality of the values raised to the tops
pub AgreesAbove-from_raised : {reach : List ℕ} {es fs : List Entry} → ((usage ctx : ℕ) → raised_to (value_at reach ctx) (top es usage ctx) ≡ raised_to (value_at reach ctx) (top fs usage ctx)) → AgreesAbove reach es fs
AgreesAbove-from_raised {reach} {es} {fs} h = record { tops = λ usage ctx. pending-same (value_at reach ctx) (top es usage ctx) (top fs usage ctx) (h usage ctx) }

pub AgreesAbove-raised : {reach : List ℕ} {es fs : List Entry} → AgreesAbove reach es fs → (usage ctx : ℕ) → raised_to (value_at reach ctx) (top es usage ctx) ≡ raised_to (value_at reach ctx) (top fs usage ctx)
AgreesAbove-raised {reach} {es} {fs} h usage ctx = raised_to-same (value_at reach ctx) (top es usage ctx) (top fs usage ctx) (h.tops usage ctx)

pub AgreesAbove-refl : (reach : List ℕ) (es : List Entry) → AgreesAbove reach es es
AgreesAbove-refl reach es = record { tops = λ usage ctx. refl }

pub AgreesAbove-sym : {reach : List ℕ} {es fs : List Entry} → AgreesAbove reach es fs → AgreesAbove reach fs es
AgreesAbove-sym h = record { tops = λ usage ctx. sym (h.tops usage ctx) }

pub AgreesAbove-trans : {reach : List ℕ} {es fs gs : List Entry} → AgreesAbove reach es fs → AgreesAbove reach fs gs → AgreesAbove reach es gs
AgreesAbove-trans h k = record { tops = λ usage ctx. h.tops usage ctx ∙ k.tops usage ctx }

-- the same entries agree above every reach
pub AgreesAbove-same : (reach : List ℕ) {es fs : List Entry} → es ≡ fs → AgreesAbove reach es fs
AgreesAbove-same reach e = record { tops = λ usage ctx. ap (λ gs. pending_top reach gs usage ctx) e }

-- union on both sides keeps agreement
pub AgreesAbove-append : {reach : List ℕ} {a b c d : List Entry} → AgreesAbove reach a b → AgreesAbove reach c d → AgreesAbove reach (a ++ c) (b ++ d)
AgreesAbove-append {reach} {a} {b} {c} {d} h k = AgreesAbove-from_raised (λ usage ctx.
    let left = AgreesAbove-raised h usage ctx in
    let right = AgreesAbove-raised k usage ctx in
    raised_to-top-union (value_at reach ctx) a c usage ctx ∙ (cc) ∙ sym (raised_to-top-union (value_at reach ctx) b d usage ctx))

pub AgreesAbove-comm : (reach : List ℕ) (es fs : List Entry) → AgreesAbove reach (es ++ fs) (fs ++ es)
AgreesAbove-comm reach es fs = AgreesAbove-from_raised (λ usage ctx.
    let left = raised_to-top-union (value_at reach ctx) es fs usage ctx in
    let right = raised_to-top-union (value_at reach ctx) fs es usage ctx in
    omega arith)

pub AgreesAbove-idem : (reach : List ℕ) (es : List Entry) → AgreesAbove reach (es ++ es) es
AgreesAbove-idem reach es = AgreesAbove-from_raised (λ usage ctx.
    let both = raised_to-top-union (value_at reach ctx) es es usage ctx in
    omega arith)

-- agreement lasts as the reach rises
pub AgreesAbove-later : {later reach : List ℕ} {es fs : List Entry} → IsAtLeast later reach → AgreesAbove reach es fs → AgreesAbove later es fs
AgreesAbove-later {later} {reach} {es} {fs} high h = AgreesAbove-from_raised (λ usage ctx.
    raised_to-higher (high.values ctx) (top es usage ctx)
    ∙ ap (max (value_at later ctx)) (AgreesAbove-raised h usage ctx)
    ∙ sym (raised_to-higher (high.values ctx) (top fs usage ctx)))

-- an entry is of the context, at the usage or a stronger one

pub AppliesAt-from_true : (e : Entry) (usage ctx : ℕ) → applies e usage ctx ≡ true → AppliesAt e usage ctx
AppliesAt-from_true e usage ctx is =
    let parts = and_parts (nat_le (usage_number e.usage) usage) (e.point.ctx == ctx) is in
    (leb-true _ _ parts.0, eqb-true _ _ parts.1)

Contains-head : {X : Type 0} (x : X) (xs : List X) → Contains (x ∷ xs) x
Contains-head x xs = (0, omega arith, refl)

Contains-tail : {X : Type 0} (x : X) (xs : List X) (y : X) → Contains xs y → Contains (x ∷ xs) y
Contains-tail x xs y h = Contains-append_right (x ∷ []) xs y h

Contains-single : {X : Type 0} (x y : X) → Contains (x ∷ []) y → x ≡ y
Contains-single x y (zero, low, is) = is
Contains-single x y (suc k, low, is) = absurd (omega arith)

Contains-cons_cases : {X : Type 0} (x : X) (xs : List X) (y : X) → Contains (x ∷ xs) y → (x ≡ y) ⊎ Contains xs y
Contains-cons_cases x xs y h = elim (Contains-append_cases (x ∷ []) xs y h) [
  | inl first ↦ inl (Contains-single x y first)
  | inr rest ↦ inr rest
]

Contains-nil : {X : Type 0} (y : X) → Contains [] y → ⊥
Contains-nil y h = omega (arith, h.1)

top-cons_true : (e : Entry) (es : List Entry) (usage ctx : ℕ) → applies e usage ctx ≡ true → top (e ∷ es) usage ctx ≡ later e.point.value (top es usage ctx)
top-cons_true e es usage ctx is = ap (λ b. if b then later e.point.value (top es usage ctx) else top es usage ctx) is

top-cons_false : (e : Entry) (es : List Entry) (usage ctx : ℕ) → applies e usage ctx ≡ false → top (e ∷ es) usage ctx ≡ top es usage ctx
top-cons_false e es usage ctx is = ap (λ b. if b then later e.point.value (top es usage ctx) else top es usage ctx) is

-- the characterisation of a top
abbrev pub IsTop : List Entry → ℕ → ℕ → Option ℕ → Type 0
IsTop es usage ctx None = NoneApplies es usage ctx
IsTop es usage ctx (Some p) = IsPut es usage ctx p × NoneIsLater es usage ctx p

IsPut-tail : (e : Entry) (es : List Entry) (usage ctx p : ℕ) → IsPut es usage ctx p → IsPut (e ∷ es) usage ctx p
IsPut-tail e es usage ctx p h = (h.0, Contains-tail e es h.0 h.1, h.2, h.3)

IsTop-later : (e : Entry) (es : List Entry) (usage ctx : ℕ) (t : Option ℕ) → AppliesAt e usage ctx → IsTop es usage ctx t → IsTop (e ∷ es) usage ctx (later e.point.value t)
IsTop-later e es usage ctx None at h = (
  (e, Contains-head e es, at, refl),
  λ f among applied. elim (Contains-cons_cases e es f among) [
    | inl is ↦ let same : e.point.value ≡ f.point.value = ap (λ (g : Entry). g.point.value) is in omega arith
    | inr rest ↦ absurd (h f rest applied)
  ],
)
IsTop-later e es usage ctx (Some q) at h = (
  elim (cases_lt e.point.value q) [
    | inl below ↦ let is : max e.point.value q ≡ q = omega arith in rw is (IsPut-tail e es usage ctx q h.0)
    | inr above ↦ let is : max e.point.value q ≡ e.point.value = omega arith in rw is (e, Contains-head e es, at, refl)
  ],
  λ f among applied. elim (Contains-cons_cases e es f among) [
    | inl is ↦ let same : e.point.value ≡ f.point.value = ap (λ (g : Entry). g.point.value) is in omega arith
    | inr rest ↦ let below = h.1 f rest applied in omega arith
  ],
)

not-applied : (e f : Entry) (usage ctx : ℕ) → applies e usage ctx ≡ false → e ≡ f → AppliesAt f usage ctx → ⊥
not-applied e f usage ctx not is at = false≢true (sym not ∙ ap (λ g. applies g usage ctx) is ∙ applies-true f usage ctx at.0 at.1)

IsTop-kept : (e : Entry) (es : List Entry) (usage ctx : ℕ) (t : Option ℕ) → applies e usage ctx ≡ false → IsTop es usage ctx t → IsTop (e ∷ es) usage ctx t
IsTop-kept e es usage ctx None not h = λ f among applied. elim (Contains-cons_cases e es f among) [
  | inl is ↦ not-applied e f usage ctx not is applied
  | inr rest ↦ h f rest applied
]
IsTop-kept e es usage ctx (Some q) not h = (
  IsPut-tail e es usage ctx q h.0,
  λ f among applied. elim (Contains-cons_cases e es f among) [
    | inl is ↦ absurd (not-applied e f usage ctx not is applied)
    | inr rest ↦ h.1 f rest applied
  ],
)

pub IsTop-top : (es : List Entry) (usage ctx : ℕ) → IsTop es usage ctx (top es usage ctx)
IsTop-top [] usage ctx = λ f among applied. Contains-nil f among
IsTop-top (e ∷ es) usage ctx = elim (cases_Bool (applies e usage ctx)) [
  | inl is ↦ subst (IsTop (e ∷ es) usage ctx) (sym (top-cons_true e es usage ctx is)) (IsTop-later e es usage ctx (top es usage ctx) (AppliesAt-from_true e usage ctx is) (IsTop-top es usage ctx))
  | inr not ↦ subst (IsTop (e ∷ es) usage ctx) (sym (top-cons_false e es usage ctx not)) (IsTop-kept e es usage ctx (top es usage ctx) not (IsTop-top es usage ctx))
]

-- the characterisation determines the top
pub IsTop-unique : (es : List Entry) (usage ctx : ℕ) (s t : Option ℕ) → IsTop es usage ctx s → IsTop es usage ctx t → s ≡ t
IsTop-unique es usage ctx None None h k = refl
IsTop-unique es usage ctx None (Some q) h k = let e = k.0.0 in absurd (h e k.0.1 k.0.2)
IsTop-unique es usage ctx (Some p) None h k = let e = h.0.0 in absurd (k e h.0.1 h.0.2)
IsTop-unique es usage ctx (Some p) (Some q) h k =
    let low = k.1 h.0.0 h.0.1 h.0.2 in
    let high = h.1 k.0.0 k.0.1 k.0.2 in
    let left = h.0.3 in
    let right = k.0.3 in
    let is : p ≡ q = omega arith in
    ap Some is

-- a top is the point of an entry, and no such entry is later
pub top-Some : (es : List Entry) (usage ctx p : ℕ) → top es usage ctx ≡ Some p → IsPut es usage ctx p × NoneIsLater es usage ctx p
top-Some es usage ctx p is = subst (IsTop es usage ctx) is (IsTop-top es usage ctx)

pub top-None : (es : List Entry) (usage ctx : ℕ) → top es usage ctx ≡ None → NoneApplies es usage ctx
top-None es usage ctx is = subst (IsTop es usage ctx) is (IsTop-top es usage ctx)

pub top-is_some : (es : List Entry) (usage ctx p : ℕ) → IsPut es usage ctx p → NoneIsLater es usage ctx p → top es usage ctx ≡ Some p
top-is_some es usage ctx p put latest = IsTop-unique es usage ctx (top es usage ctx) (Some p) (IsTop-top es usage ctx) (put, latest)

pub top-is_none : (es : List Entry) (usage ctx : ℕ) → NoneApplies es usage ctx → top es usage ctx ≡ None
top-is_none es usage ctx none = IsTop-unique es usage ctx (top es usage ctx) None (IsTop-top es usage ctx) none

IsTop-same : (es fs : List Entry) (usage ctx : ℕ) (t : Option ℕ) → ((e : Entry) → Contains es e → Contains fs e) → ((e : Entry) → Contains fs e → Contains es e) → IsTop es usage ctx t → IsTop fs usage ctx t
IsTop-same es fs usage ctx None there back h = λ e among at. h e (back e among) at
IsTop-same es fs usage ctx (Some p) there back h = ((h.0.0, there h.0.0 h.0.1, h.0.2, h.0.3), λ e among at. h.1 e (back e among) at)

-- order and repetition don't matter
pub top-same : (es fs : List Entry) → ((e : Entry) → Contains es e → Contains fs e) → ((e : Entry) → Contains fs e → Contains es e) → (usage ctx : ℕ) → top es usage ctx ≡ top fs usage ctx
top-same es fs there back usage ctx =
    IsTop-unique fs usage ctx (top es usage ctx) (top fs usage ctx)
    (IsTop-same es fs usage ctx (top es usage ctx) there back (IsTop-top es usage ctx))
    (IsTop-top fs usage ctx)

pub top-permutation : (es fs : List Entry) → IsPermutation es fs → (usage ctx : ℕ) → top es usage ctx ≡ top fs usage ctx
top-permutation es fs moved = top-same es fs (λ e. Contains-permutation es fs e moved) (λ e. Contains-permutation fs es e (IsPermutation-sym es fs moved))

-- an entry that is in the list already
pub top-repeated : (es : List Entry) (e : Entry) → Contains es e → (usage ctx : ℕ) → top (es ++ e ∷ []) usage ctx ≡ top es usage ctx
top-repeated es e among = top-same (es ++ e ∷ []) es
    (λ f there. elim (Contains-push_cases es e f there) [
      | inl before ↦ before
      | inr is ↦ subst (Contains es) is among
    ])
    (λ f here. Contains-append_left es (e ∷ []) f here)

pub AgreesAbove-same_entries : (reach : List ℕ) (es fs : List Entry) → ((e : Entry) → Contains es e → Contains fs e) → ((e : Entry) → Contains fs e → Contains es e) → AgreesAbove reach es fs
AgreesAbove-same_entries reach es fs there back = record { tops = λ usage ctx. ap (pending (value_at reach ctx)) (top-same es fs there back usage ctx) }

pub AgreesAbove-permutation : (reach : List ℕ) (es fs : List Entry) → IsPermutation es fs → AgreesAbove reach es fs
AgreesAbove-permutation reach es fs moved = record { tops = λ usage ctx. ap (pending (value_at reach ctx)) (top-permutation es fs moved usage ctx) }

-- a context out of range has no top
pub top-outside : (es : List Entry) (usage ctx : ℕ) → HasContexts es → (1 ≤ ctx → ctx ≤ CONTEXTS → ⊥) → top es usage ctx ≡ None
top-outside es usage ctx within outside = top-is_none es usage ctx (λ e among at.
    let has = All-contains (λ (e : Entry). (1 ≤ e.point.ctx) × (e.point.ctx ≤ CONTEXTS)) es e within among in
    outside (rw at.1 at has.0) (rw at.1 at has.1))

-- a list with at most one point of each context of a range

abbrev pub points_over : (ℕ → Option ℕ) → ℕ → ℕ → List Point
points_over t a n = filter_map (λ ctx. option_map (point_of ctx) (t ctx)) (range_with_len a n)

top-point_other : (o : Option ℕ) (a : ℕ) (ps : List Point) (usage ctx : ℕ) → (a ≡ ctx → ⊥) → top (as_entries (cons_option (option_map (point_of a) o) ps)) usage ctx ≡ top (as_entries ps) usage ctx
top-point_other None a ps usage ctx apart = refl
top-point_other (Some p) a ps usage ctx apart = top-cons_false (as_entry (point_of a p)) (as_entries ps) usage ctx (applies-other (as_entry (point_of a p)) usage ctx apart)

top-point_same : (o : Option ℕ) (a : ℕ) (ps : List Point) (usage : ℕ) → top (as_entries ps) usage a ≡ None → top (as_entries (cons_option (option_map (point_of a) o) ps)) usage a ≡ o
top-point_same None a ps usage rest = rest
top-point_same (Some p) a ps usage rest =
    top-cons_true (as_entry (point_of a p)) (as_entries ps) usage a (applies-true (as_entry (point_of a p)) usage a (omega arith) refl)
    ∙ ap (later p) rest

All-point : (P : Point → Type 0) (o : Option ℕ) (a : ℕ) (ps : List Point) → ((p : ℕ) → o ≡ Some p → P (point_of a p)) → All P ps → All P (cons_option (option_map (point_of a) o) ps)
All-point P None a ps here rest = rest
All-point P (Some p) a ps here rest = All-cons P (point_of a p) ps (here p refl) rest

pub IsStrictlyIncreasing-cons : (x : ℕ) (xs : List ℕ) → All (λ y. x < y) xs → IsStrictlyIncreasing xs → IsStrictlyIncreasing (x ∷ xs)
IsStrictlyIncreasing-cons x xs above rising zero low = above 0 0 (omega arith)
IsStrictlyIncreasing-cons x xs above rising (suc k) low = let next : suc k + 1 ≡ suc (k + 1) = omega arith in rw next (rising k (omega arith))

HasRisingContexts-point : (o : Option ℕ) (a : ℕ) (ps : List Point) → All (λ p. a < p.ctx) ps → HasRisingContexts ps → HasRisingContexts (cons_option (option_map (point_of a) o) ps)
HasRisingContexts-point None a ps above rising = rising
HasRisingContexts-point (Some p) a ps above rising = IsStrictlyIncreasing-cons a (map (λ (q : Point). q.ctx) ps) (All-map (λ y. a < y) (λ (q : Point). q.ctx) ps above) rising

top-points_over_outside : (t : ℕ → Option ℕ) (a n usage ctx : ℕ) → (a ≤ ctx → ctx < a + n → ⊥) → top (as_entries (points_over t a n)) usage ctx ≡ None
top-points_over_outside t a zero usage ctx outside = refl
top-points_over_outside t a (suc n) usage ctx outside =
    top-point_other (t a) a (points_over t (a + 1) n) usage ctx (λ is. outside (omega arith) (omega arith))
    ∙ top-points_over_outside t (a + 1) n usage ctx (λ low high. outside (omega arith) (omega arith))

top-points_over : (t : ℕ → Option ℕ) (a n usage ctx : ℕ) → a ≤ ctx → ctx < a + n → top (as_entries (points_over t a n)) usage ctx ≡ t ctx
top-points_over t a zero usage ctx low high = absurd (omega arith)
top-points_over t a (suc n) usage ctx low high = elim (cases_eq ctx a) [
  | inl is ↦ rw is (top-point_same (t a) a (points_over t (a + 1) n) usage (top-points_over_outside t (a + 1) n usage a (λ low' high'. omega arith)))
  | inr apart ↦
      top-point_other (t a) a (points_over t (a + 1) n) usage ctx (λ is. apart (sym is))
      ∙ top-points_over t (a + 1) n usage ctx (omega arith) (omega arith)
]

-- a property of each point holds for the list
All-points_over : (P : Point → Type 0) (t : ℕ → Option ℕ) (a n : ℕ) → ((ctx p : ℕ) → a ≤ ctx → ctx < a + n → t ctx ≡ Some p → P (point_of ctx p)) → All P (points_over t a n)
All-points_over P t a zero each = All-nil P
All-points_over P t a (suc n) each =
    All-point P (t a) a (points_over t (a + 1) n) (λ p is. each a p (omega arith) (omega arith) is)
    (All-points_over P t (a + 1) n (λ ctx p low high is. each ctx p (omega arith) (omega arith) is))

HasRisingContexts-points_over : (t : ℕ → Option ℕ) (a n : ℕ) → HasRisingContexts (points_over t a n)
HasRisingContexts-points_over t a zero = λ k low. absurd (omega arith)
HasRisingContexts-points_over t a (suc n) =
    HasRisingContexts-point (t a) a (points_over t (a + 1) n)
    (All-points_over (λ (p : Point). a < p.ctx) t (a + 1) n (λ ctx p low high is. omega arith))
    (HasRisingContexts-points_over t (a + 1) n)

-- a property that holds for the top of every context

top-listing_within : (n : ℕ) → n ≡ CONTEXTS → (es : List Entry) (usage : ℕ) (reach : List ℕ) (at ctx : ℕ) → 1 ≤ ctx → ctx ≤ n → top (as_entries (listing es usage reach)) at ctx ≡ pending_top reach es usage ctx
top-listing_within n is es usage reach at ctx low high =
    ap (λ ps. top (as_entries ps) at ctx) (sym (filter_map-contexts (λ c. option_map (point_of c) (pending_top reach es usage c)) n is))
    ∙ top-points_over (λ c. pending_top reach es usage c) 1 n at ctx low (omega arith)

top-listing_without : (n : ℕ) → n ≡ CONTEXTS → (es : List Entry) (usage : ℕ) (reach : List ℕ) (at ctx : ℕ) → (1 ≤ ctx → ctx ≤ n → ⊥) → top (as_entries (listing es usage reach)) at ctx ≡ None
top-listing_without n is es usage reach at ctx outside =
    ap (λ ps. top (as_entries ps) at ctx) (sym (filter_map-contexts (λ c. option_map (point_of c) (pending_top reach es usage c)) n is))
    ∙ top-points_over_outside (λ c. pending_top reach es usage c) 1 n at ctx (λ low high. outside low (omega arith))

-- at each usage, the top of a listing is the pending top
pub top-listing : (es : List Entry) (usage : ℕ) (reach : List ℕ) (at ctx : ℕ) → 1 ≤ ctx → ctx ≤ CONTEXTS → top (as_entries (listing es usage reach)) at ctx ≡ pending_top reach es usage ctx
top-listing es usage reach at ctx low high = top-listing_within CONTEXTS refl es usage reach at ctx low high

pub top-listing_outside : (es : List Entry) (usage : ℕ) (reach : List ℕ) (at ctx : ℕ) → (1 ≤ ctx → ctx ≤ CONTEXTS → ⊥) → top (as_entries (listing es usage reach)) at ctx ≡ None
top-listing_outside es usage reach at ctx outside = top-listing_without CONTEXTS refl es usage reach at ctx outside

listing-same_below : (n : ℕ) → n ≡ CONTEXTS → (es fs : List Entry) (usage at : ℕ) (reach other : List ℕ) → ((ctx : ℕ) → 1 ≤ ctx → ctx ≤ n → pending_top reach es usage ctx ≡ pending_top other fs at ctx) → listing es usage reach ≡ listing fs at other
listing-same_below n is es fs usage at reach other same =
    sym (filter_map-contexts (λ c. option_map (point_of c) (pending_top reach es usage c)) n is)
    ∙ filter_map-range_same (λ c. option_map (point_of c) (pending_top reach es usage c)) (λ c. option_map (point_of c) (pending_top other fs at c)) 1 n (λ ctx low high. ap (option_map (point_of ctx)) (same ctx low (omega arith)))
    ∙ filter_map-contexts (λ c. option_map (point_of c) (pending_top other fs at c)) n is

-- if the pending tops of each context are equal, the listings are equal
pub listing-same : (es fs : List Entry) (usage at : ℕ) (reach other : List ℕ) → ((ctx : ℕ) → 1 ≤ ctx → ctx ≤ CONTEXTS → pending_top reach es usage ctx ≡ pending_top other fs at ctx) → listing es usage reach ≡ listing fs at other
listing-same es fs usage at reach other same = listing-same_below CONTEXTS refl es fs usage at reach other same

pub listing-AgreesAbove : {reach : List ℕ} {es fs : List Entry} (usage : ℕ) → AgreesAbove reach es fs → listing es usage reach ≡ listing fs usage reach
listing-AgreesAbove {reach} {es} {fs} usage h = listing-same es fs usage usage reach reach (λ ctx low high. h.tops usage ctx)

listing-All_below : (n : ℕ) → n ≡ CONTEXTS → (P : Point → Type 0) (es : List Entry) (usage : ℕ) (reach : List ℕ) → ((ctx p : ℕ) → 1 ≤ ctx → ctx ≤ n → pending_top reach es usage ctx ≡ Some p → P (point_of ctx p)) → All P (listing es usage reach)
listing-All_below n is P es usage reach each =
    let Q : List Point → Type 0 = λ ps. All P ps in
    subst Q (filter_map-contexts (λ c. option_map (point_of c) (pending_top reach es usage c)) n is)
    (All-points_over P (λ c. pending_top reach es usage c) 1 n (λ ctx p low high is. each ctx p low (omega arith) is))

-- a property of each pending top holds for each listed point
pub listing-All : (P : Point → Type 0) (es : List Entry) (usage : ℕ) (reach : List ℕ) → ((ctx p : ℕ) → 1 ≤ ctx → ctx ≤ CONTEXTS → pending_top reach es usage ctx ≡ Some p → P (point_of ctx p)) → All P (listing es usage reach)
listing-All P es usage reach each = listing-All_below CONTEXTS refl P es usage reach each

listing-rising_below : (n : ℕ) → n ≡ CONTEXTS → (es : List Entry) (usage : ℕ) (reach : List ℕ) → HasRisingContexts (listing es usage reach)
listing-rising_below n is es usage reach =
    let Q : List Point → Type 0 = λ ps. HasRisingContexts ps in
    subst Q (filter_map-contexts (λ c. option_map (point_of c) (pending_top reach es usage c)) n is)
    (HasRisingContexts-points_over (λ c. pending_top reach es usage c) 1 n)

pub listing-rising : (es : List Entry) (usage : ℕ) (reach : List ℕ) → HasRisingContexts (listing es usage reach)
listing-rising es usage reach = listing-rising_below CONTEXTS refl es usage reach

-- a point that is pending above a value is greater than the value
pub pending-above : (value : ℕ) (t : Option ℕ) (p : ℕ) → pending value t ≡ Some p → value < p
pending-above value None p is = absurd (cc)
pending-above value (Some q) p is = elim (cases_lt value q) [
  | inl above ↦ let same : q ≡ p = (cc (lt-ltb value q above)) in omega arith
  | inr reached ↦ absurd (cc (le-ltb value q reached))
]

-- a listing has the form of a file's points
pub listing-contexts : (es : List Entry) (usage : ℕ) (reach : List ℕ) → HasRisingContexts (listing es usage reach) × HasContexts (as_entries (listing es usage reach)) × AllAbove reach (listing es usage reach)
listing-contexts es usage reach = (
  listing-rising es usage reach,
  All-map (λ (e : Entry). (1 ≤ e.point.ctx) × (e.point.ctx ≤ CONTEXTS)) as_entry (listing es usage reach) (listing-All (λ (p : Point). (1 ≤ p.ctx) × (p.ctx ≤ CONTEXTS)) es usage reach (λ ctx p low high is. (low, high))),
  listing-All (λ (p : Point). value_at reach p.ctx < p.value) es usage reach (λ ctx p low high is. pending-above (value_at reach ctx) (top es usage ctx) p is),
)

-- listing a listing together with more entries lists all of them
pub listing-merge : {later reach : List ℕ} (es fs : List Entry) (usage : ℕ) → IsAtLeast later reach → listing (as_entries (listing es usage reach) ++ fs) usage later ≡ listing (es ++ fs) usage later
listing-merge {later} {reach} es fs usage high = listing-same (as_entries (listing es usage reach) ++ fs) (es ++ fs) usage usage later later (λ ctx low up.
    pending-same (value_at later ctx) (top (as_entries (listing es usage reach) ++ fs) usage ctx) (top (es ++ fs) usage ctx)
    (raised_to-top-union (value_at later ctx) (as_entries (listing es usage reach)) fs usage ctx
    ∙ ap (λ v. max v (raised_to (value_at later ctx) (top fs usage ctx))) (ap (raised_to (value_at later ctx)) (top-listing es usage reach usage ctx low up) ∙ raised_to-pending (high.values ctx) (top es usage ctx))
    ∙ sym (raised_to-top-union (value_at later ctx) es fs usage ctx)))

pub listing-listing : {later reach : List ℕ} (es : List Entry) (usage at : ℕ) → IsAtLeast later reach → listing (as_entries (listing es usage reach)) at later ≡ listing es usage later
listing-listing {later} {reach} es usage at high = listing-same (as_entries (listing es usage reach)) es at usage later later (λ ctx low up.
    pending-same (value_at later ctx) (top (as_entries (listing es usage reach)) at ctx) (top es usage ctx)
    (ap (raised_to (value_at later ctx)) (top-listing es usage reach at ctx low up) ∙ raised_to-pending (high.values ctx) (top es usage ctx)))

-- points have the same top at every usage
applies-as_entry : (p : Point) (usage at ctx : ℕ) → applies (as_entry p) usage ctx ≡ applies (as_entry p) at ctx
applies-as_entry p usage at ctx = ap (λ b. b && (p.ctx == ctx)) (le-leb 0 usage (omega arith) ∙ sym (le-leb 0 at (omega arith)))

pub top-as_entries : (ps : List Point) (usage at ctx : ℕ) → top (as_entries ps) usage ctx ≡ top (as_entries ps) at ctx
top-as_entries [] usage at ctx = refl
top-as_entries (p ∷ ps) usage at ctx =
    ap (λ b. if b then later p.value (top (as_entries ps) usage ctx) else top (as_entries ps) usage ctx) (applies-as_entry p usage at ctx)
    ∙ ap (λ t. if applies (as_entry p) at ctx then later p.value t else t) (top-as_entries ps usage at ctx)

pub listing-as_entries : (ps : List Point) (usage at : ℕ) (reach : List ℕ) → listing (as_entries ps) usage reach ≡ listing (as_entries ps) at reach
listing-as_entries ps usage at reach = listing-same (as_entries ps) (as_entries ps) usage at reach reach (λ ctx low high. ap (pending (value_at reach ctx)) (top-as_entries ps usage at ctx))

pub as_entries-append : (ps qs : List Point) → as_entries (ps ++ qs) ≡ as_entries ps ++ as_entries qs
as_entries-append [] qs = refl
as_entries-append (p ∷ ps) qs = ap (λ es. as_entry p ∷ es) (as_entries-append ps qs)

-- whether the context is in range
cases_context : (ctx : ℕ) → ((1 ≤ ctx) × (ctx ≤ CONTEXTS)) ⊎ (1 ≤ ctx → ctx ≤ CONTEXTS → ⊥)
cases_context ctx = elim (cases_lt CONTEXTS ctx) [
  | inl past ↦ inr (λ low high. omega arith)
  | inr high ↦ elim (cases_lt 0 ctx) [
    | inl low ↦ inl (omega arith, high)
    | inr none ↦ inr (λ low high'. omega arith)
  ]
]

-- a listing agrees with the entries at the usage that it was made for
pub pending_top-listing : {later reach : List ℕ} (es : List Entry) (usage at ctx : ℕ) → HasContexts es → IsAtLeast later reach → pending_top later (as_entries (listing es usage reach)) at ctx ≡ pending_top later es usage ctx
pending_top-listing {later} {reach} es usage at ctx within high = elim (cases_context ctx) [
  | inl both ↦ pending-same (value_at later ctx) (top (as_entries (listing es usage reach)) at ctx) (top es usage ctx)
      (ap (raised_to (value_at later ctx)) (top-listing es usage reach at ctx both.0 both.1) ∙ raised_to-pending (high.values ctx) (top es usage ctx))
  | inr outside ↦ ap (pending (value_at later ctx)) (top-listing_outside es usage reach at ctx outside ∙ sym (top-outside es usage ctx within outside))
]

-- a listing of points agrees with them
pub AgreesAbove-listing : (reach : List ℕ) (ps : List Point) → HasContexts (as_entries ps) → AgreesAbove reach (as_entries (listing (as_entries ps) 0 reach)) (as_entries ps)
AgreesAbove-listing reach ps within = record {
  tops = λ usage ctx. pending_top-listing (as_entries ps) 0 usage ctx within (IsAtLeast-refl reach) ∙ ap (pending (value_at reach ctx)) (top-as_entries ps 0 usage ctx);
}

-- entries whose listings are the same agree
pub AgreesAbove-from_listing : {reach : List ℕ} {es fs : List Entry} → HasContexts es → HasContexts fs → ((usage : ℕ) → listing es usage reach ≡ listing fs usage reach) → AgreesAbove reach es fs
AgreesAbove-from_listing {reach} {es} {fs} left right same = record {
  tops = λ usage ctx.
      sym (pending_top-listing es usage 0 ctx left (IsAtLeast-refl reach))
      ∙ ap (λ ps. pending_top reach (as_entries ps) 0 ctx) (same usage)
      ∙ pending_top-listing fs usage 0 ctx right (IsAtLeast-refl reach);
}

pub HasContexts-append : (es fs : List Entry) → HasContexts es → HasContexts fs → HasContexts (es ++ fs)
HasContexts-append es fs left right = All-append (λ (e : Entry). (1 ≤ e.point.ctx) × (e.point.ctx ≤ CONTEXTS)) es fs left right

pending-reached : (value : ℕ) (t : Option ℕ) → pending value t ≡ None → raised_to value t ≡ value
pending-reached value t is = sym (raised_to-pending (omega arith) t) ∙ ap (raised_to value) is

pending_top-IsReached : (es : List Entry) (usage : ℕ) (reach : List ℕ) (ctx : ℕ) (t : Option ℕ) → IsReached es usage reach → top es usage ctx ≡ t → pending (value_at reach ctx) t ≡ None
pending_top-IsReached es usage reach ctx None reached is = refl
pending_top-IsReached es usage reach ctx (Some p) reached is =
    let put = (top-Some es usage ctx p is).0 in
    let below = reached put.0 put.1 put.2.0 in
    let same : put.0.point.ctx ≡ ctx = put.2.1 in
    let low : put.0.point.value ≤ value_at reach ctx = rw same at below in
    let value : put.0.point.value ≡ p = put.3 in
    ap (λ b. if b then Some p else None) (le-ltb (value_at reach ctx) p (omega arith))

filter_map-none : (ctxs : List ℕ) → filter_map (λ ctx. option_map (point_of ctx) None) ctxs ≡ []
filter_map-none [] = refl
filter_map-none (ctx ∷ ctxs) = filter_map-none ctxs

pub listing-nil : (usage : ℕ) (reach : List ℕ) → listing [] usage reach ≡ []
listing-nil usage reach = filter_map-none contexts

raised_to-IsTop : (es : List Entry) (usage ctx value : ℕ) (t : Option ℕ) → IsTop es usage ctx t → (e : Entry) → Contains es e → AppliesAt e usage ctx → e.point.value ≤ raised_to value t
raised_to-IsTop es usage ctx value None h e among at = absurd (h e among at)
raised_to-IsTop es usage ctx value (Some p) h e among at = let below = h.1 e among at in omega arith

-- no entry is later than the value raised to the top
pub raised_to-top-above : (es : List Entry) (usage ctx value : ℕ) (e : Entry) → Contains es e → AppliesAt e usage ctx → e.point.value ≤ raised_to value (top es usage ctx)
raised_to-top-above es usage ctx value e among at = raised_to-IsTop es usage ctx value (top es usage ctx) (IsTop-top es usage ctx) e among at

-- nothing is listed exactly when each entry at the usage or a stronger one is reached
pub listing-empty : (es : List Entry) (usage : ℕ) (reach : List ℕ) → HasContexts es → (listing es usage reach ≡ []) ↔ IsReached es usage reach
listing-empty es usage reach within = (
  λ is e among strong.
      let has = All-contains (λ (f : Entry). (1 ≤ f.point.ctx) × (f.point.ctx ≤ CONTEXTS)) es e within among in
      let none = sym (top-listing es usage reach 0 e.point.ctx has.0 has.1) ∙ ap (λ ps. top (as_entries ps) 0 e.point.ctx) is in
      let reached = pending-reached (value_at reach e.point.ctx) (top es usage e.point.ctx) none in
      let below = raised_to-top-above es usage e.point.ctx (value_at reach e.point.ctx) e among (strong, refl) in
      omega arith,
  λ reached. listing-same es [] usage usage reach reach (λ ctx low high. pending_top-IsReached es usage reach ctx (top es usage ctx) reached refl) ∙ listing-nil usage reach,
)

-- entries that may be dropped

-- an entry that is signalled
pub AgreesAbove-signalled : (reach : List ℕ) (e : Entry) (es : List Entry) → e.point.value ≤ value_at reach e.point.ctx → AgreesAbove reach (e ∷ es) es
AgreesAbove-signalled reach e es reached = AgreesAbove-from_raised (λ usage ctx. elim (cases_Bool (applies e usage ctx)) [
  | inl is ↦
      let same : e.point.ctx ≡ ctx = (AppliesAt-from_true e usage ctx is).1 in
      let low : e.point.value ≤ value_at reach ctx = rw same at reached in
      let above = raised_to-above (value_at reach ctx) (top es usage ctx) in
      ap (raised_to (value_at reach ctx)) (top-cons_true e es usage ctx is) ∙ raised_to-later (value_at reach ctx) e.point.value (top es usage ctx) ∙ (omega arith)
  | inr not ↦ ap (raised_to (value_at reach ctx)) (top-cons_false e es usage ctx not)
])

AppliesAt-covered : (by other : Entry) (usage ctx : ℕ) → Covers by other → AppliesAt other usage ctx → AppliesAt by usage ctx
AppliesAt-covered by other usage ctx h at = (omega arith, h.0 ∙ at.1)

IsTop-covered : (by other : Entry) (es : List Entry) (usage ctx : ℕ) (t : Option ℕ) → Contains es by → Covers by other → IsTop es usage ctx t → IsTop (other ∷ es) usage ctx t
IsTop-covered by other es usage ctx None among h none = λ f there at. elim (Contains-cons_cases other es f there) [
  | inl is ↦ none by among (AppliesAt-covered by other usage ctx h (rw is at))
  | inr rest ↦ none f rest at
]
IsTop-covered by other es usage ctx (Some p) among h latest = (
  IsPut-tail other es usage ctx p latest.0,
  λ f there at. elim (Contains-cons_cases other es f there) [
    | inl is ↦
        let same : other.point.value ≡ f.point.value = ap (λ (g : Entry). g.point.value) is in
        let below = latest.1 by among (AppliesAt-covered by other usage ctx h (rw is at)) in
        omega arith
    | inr rest ↦ latest.1 f rest at
  ],
)

-- an entry that another one covers
pub top-covered : (by other : Entry) (es : List Entry) → Contains es by → Covers by other → (usage ctx : ℕ) → top (other ∷ es) usage ctx ≡ top es usage ctx
top-covered by other es among h usage ctx =
    IsTop-unique (other ∷ es) usage ctx (top (other ∷ es) usage ctx) (top es usage ctx)
    (IsTop-top (other ∷ es) usage ctx)
    (IsTop-covered by other es usage ctx (top es usage ctx) among h (IsTop-top es usage ctx))

pub AgreesAbove-covered : (reach : List ℕ) (by other : Entry) (es : List Entry) → Contains es by → Covers by other → AgreesAbove reach (other ∷ es) es
AgreesAbove-covered reach by other es among h = record { tops = λ usage ctx. ap (pending (value_at reach ctx)) (top-covered by other es among h usage ctx) }
