-- Listings, built context by context.
use Rattle.std.proofs.Common.{◌≡◌, ℕ, ◌+◌, ◌-◌, ◌<◌, ◌≤◌, zero, suc, refl, sym, ap, subst, ◌∙◌, List, [], ◌∷◌, ◌++◌, length, get_or, take, max, Option, None, Some, arith, nat_lt, if◌then◌else◌, inl, inr, append-nil}
use Rattle.std.specs.Prelude.{option_map}
use Rattle.std.specs.List.{filter_map, cons_option, range_with_len}
use Rattle.std.proofs.lemmas.List.{map_more, length-append}
use Rattle.std.proofs.lemmas.Bool.{lt-ltb, le-ltb, cases_lt}
use Rattle.std.proofs.lemmas.List.Elements.{All-nil, All-push}
use Rattle.point_core.specs.declared.context.TheConstants.{CONTEXTS}
use Rattle.point_core.specs.declared.entry.Point.{Point}
use Rattle.point_core.specs.declared.entry.Entry.{Entry}
use Rattle.point_core.specs.Reach.{value_at}
use Rattle.point_core.specs.Agreement.{top, pending, pending_top, point_of, as_entry, as_entries, contexts, listing, HasContexts}
use Rattle.point_core.specs.Latest.{raised_to, IsLatest, point_above, points_above}

pub as_entries-take_more : (ps : List Point) (i : ℕ) (p : Point) → i < length ps → p ≡ get_or ps i p → as_entries (take (i + 1) ps) ≡ as_entries (take i ps) ++ as_entry p ∷ []
as_entries-take_more ps i p low is = map_more as_entry ps i p low ∙ ap (λ q. as_entries (take i ps) ++ as_entry q ∷ []) (sym is)

pub HasContexts-nil : HasContexts []
HasContexts-nil = All-nil (λ (e : Entry). (1 ≤ e.point.ctx) × (e.point.ctx ≤ CONTEXTS))

-- one more entry of a valid context
pub HasContexts-put : (es : List Entry) (p : Point) → HasContexts es → 1 ≤ p.ctx → p.ctx ≤ CONTEXTS → HasContexts (es ++ as_entry p ∷ [])
HasContexts-put es p within low high = All-push (λ (e : Entry). (1 ≤ e.point.ctx) × (e.point.ctx ≤ CONTEXTS)) es (as_entry p) within (low, high)

pub HasContexts-single : (p : Point) → (1 ≤ p.ctx) × (p.ctx ≤ CONTEXTS) → HasContexts (as_entry p ∷ [])
HasContexts-single p has = HasContexts-put [] p HasContexts-nil has.0 has.1

-- one more point of the list
pub HasContexts-take_more : (ps : List Point) (i : ℕ) (p : Point) → i < length ps → p ≡ get_or ps i p → (1 ≤ p.ctx) × (p.ctx ≤ CONTEXTS) → HasContexts (as_entries (take i ps)) → HasContexts (as_entries (take (i + 1) ps))
HasContexts-take_more ps i p low is has before = subst HasContexts (sym (as_entries-take_more ps i p low is)) (HasContexts-put (as_entries (take i ps)) p before has.0 has.1)

cons_option-append : {X : Type 0} (o : Option X) (xs ys : List X) → cons_option o (xs ++ ys) ≡ cons_option o xs ++ ys
cons_option-append None xs ys = refl
cons_option-append (Some x) xs ys = refl

-- one more number
pub filter_map-range_more : {X : Type 0} (h : ℕ → Option X) (a n : ℕ) → filter_map h (range_with_len a (suc n)) ≡ filter_map h (range_with_len a n) ++ cons_option (h (a + n)) []
filter_map-range_more h a zero = ap (λ k. cons_option (h k) []) (omega arith)
filter_map-range_more h a (suc n) =
    ap (cons_option (h a)) (filter_map-range_more h (a + 1) n)
    ∙ cons_option-append (h a) (filter_map h (range_with_len (a + 1) n)) (cons_option (h (a + 1 + n)) [])
    ∙ ap (λ k. cons_option (h a) (filter_map h (range_with_len (a + 1) n)) ++ cons_option (h k) []) (omega arith)

-- functions that agree on the numbers give equal lists
pub filter_map-range_same : {X : Type 0} (f h : ℕ → Option X) (a n : ℕ) → ((k : ℕ) → a ≤ k → k < a + n → f k ≡ h k) → filter_map f (range_with_len a n) ≡ filter_map h (range_with_len a n)
filter_map-range_same f h a zero same = refl
filter_map-range_same f h a (suc n) same =
    ap (λ o. cons_option o (filter_map f (range_with_len (a + 1) n))) (same a (omega arith) (omega arith))
    ∙ ap (cons_option (h a)) (filter_map-range_same f h (a + 1) n (λ k low high. same k (omega arith) (omega arith)))

pending_is : (value ctx : ℕ) (t : Option ℕ) → (if nat_lt value (raised_to value t) then Some (point_of ctx (raised_to value t)) else None) ≡ option_map (point_of ctx) (pending value t)
pending_is value ctx None = rw (le-ltb value value (omega arith)) refl
pending_is value ctx (Some p) = elim (cases_lt value p) [
  | inl above ↦ let is : max value p ≡ p = omega arith in rw (is, lt-ltb value p above) refl
  | inr below ↦ let is : max value p ≡ value = omega arith in rw (is, le-ltb value value (omega arith), le-ltb value p below) refl
]

-- the points above the reach in a table of latest points are the listing
pub points_above-IsLatest : {latest reach : List ℕ} {es : List Entry} {usage : ℕ} → IsLatest latest reach es usage → points_above latest reach ≡ listing es usage reach
unfolding contexts
points_above-IsLatest {latest} {reach} {es} {usage} h =
    filter_map-range_same (point_above latest reach) (λ ctx. option_map (point_of ctx) (pending_top reach es usage ctx)) 1 CONTEXTS
    (λ ctx low high. rw (h.values ctx low (omega arith)) (pending_is (value_at reach ctx) ctx (top es usage ctx)))

-- every context is a number from 1 on
pub filter_map-contexts : {X : Type 0} (h : ℕ → Option X) (n : ℕ) → n ≡ CONTEXTS → filter_map h (range_with_len 1 n) ≡ filter_map h contexts
unfolding contexts
filter_map-contexts h n is = ap (λ k. filter_map h (range_with_len 1 k)) is

above_one_more : (latest reach : List ℕ) (n ctx : ℕ) → ctx ≡ n + 1 → filter_map (point_above latest reach) (range_with_len 1 (n + 1)) ≡ filter_map (point_above latest reach) (range_with_len 1 n) ++ cons_option (point_above latest reach ctx) []
above_one_more latest reach n ctx is =
    let more : n + 1 ≡ suc n = omega arith in
    let at : 1 + n ≡ ctx = omega arith in
    ap (λ k. filter_map (point_above latest reach) (range_with_len 1 k)) more
    ∙ filter_map-range_more (point_above latest reach) 1 n
    ∙ ap (λ k. filter_map (point_above latest reach) (range_with_len 1 n) ++ cons_option (point_above latest reach k) []) at

-- a point of the next context is listed
pub push_above : (latest reach : List ℕ) (points : List Point) (n ctx : ℕ) → points ≡ filter_map (point_above latest reach) (range_with_len 1 n) → ctx ≡ n + 1 → value_at reach ctx < value_at latest ctx → points ++ point_of ctx (value_at latest ctx) ∷ [] ≡ filter_map (point_above latest reach) (range_with_len 1 (n + 1))
push_above latest reach points n ctx before is above =
    ap (λ ps. ps ++ point_of ctx (value_at latest ctx) ∷ []) before
    ∙ ap (λ b. filter_map (point_above latest reach) (range_with_len 1 n) ++ cons_option (if b then Some (point_of ctx (value_at latest ctx)) else None) []) (sym (lt-ltb _ _ above))
    ∙ sym (above_one_more latest reach n ctx is)

-- the next context has no pending point
pub skip_above : (latest reach : List ℕ) (points : List Point) (n ctx : ℕ) → points ≡ filter_map (point_above latest reach) (range_with_len 1 n) → ctx ≡ n + 1 → value_at latest ctx ≤ value_at reach ctx → points ≡ filter_map (point_above latest reach) (range_with_len 1 (n + 1))
skip_above latest reach points n ctx before is reached =
    before
    ∙ sym (append-nil _)
    ∙ ap (λ b. filter_map (point_above latest reach) (range_with_len 1 n) ++ cons_option (if b then Some (point_of ctx (value_at latest ctx)) else None) []) (sym (le-ltb _ _ reached))
    ∙ sym (above_one_more latest reach n ctx is)

-- a pending point of the next context counts as one more
pub count_above : (latest reach : List ℕ) (n ctx : ℕ) → ctx ≡ n + 1 → value_at reach ctx < value_at latest ctx → length (filter_map (point_above latest reach) (range_with_len 1 n)) + 1 ≡ length (filter_map (point_above latest reach) (range_with_len 1 (n + 1)))
count_above latest reach n ctx is above =
    let before = filter_map (point_above latest reach) (range_with_len 1 n) in
    sym (length-append before (point_of ctx (value_at latest ctx) ∷ []))
    ∙ ap length (push_above latest reach before n ctx refl is above)

-- a point that is reached is not counted
pub count_skipped : (latest reach : List ℕ) (n ctx : ℕ) → ctx ≡ n + 1 → value_at latest ctx ≤ value_at reach ctx → length (filter_map (point_above latest reach) (range_with_len 1 n)) ≡ length (filter_map (point_above latest reach) (range_with_len 1 (n + 1)))
count_skipped latest reach n ctx is reached =
    ap length (skip_above latest reach (filter_map (point_above latest reach) (range_with_len 1 n)) n ctx refl is reached)

skip_unused : (latest reach : List ℕ) (n more : ℕ) → ((ctx : ℕ) → n < ctx → value_at latest ctx ≡ 0) → filter_map (point_above latest reach) (range_with_len 1 n) ≡ filter_map (point_above latest reach) (range_with_len 1 (more + n))
skip_unused latest reach n zero past = ap (λ k. filter_map (point_above latest reach) (range_with_len 1 k)) (omega arith)
skip_unused latest reach n (suc more) past =
    let none = past (more + n + 1) (omega arith) in
    let next : more + n + 1 ≡ suc more + n = omega arith in
    skip_above latest reach (filter_map (point_above latest reach) (range_with_len 1 n)) (more + n) (more + n + 1) (skip_unused latest reach n more past) refl (omega arith)
    ∙ ap (λ k. filter_map (point_above latest reach) (range_with_len 1 k)) next

-- no point is listed after the last context in use
pub points_above-used : (latest reach : List ℕ) (n : ℕ) → n ≤ CONTEXTS → ((ctx : ℕ) → n < ctx → value_at latest ctx ≡ 0) → filter_map (point_above latest reach) (range_with_len 1 n) ≡ points_above latest reach
points_above-used latest reach n few past =
    skip_unused latest reach n (CONTEXTS - n) past
    ∙ filter_map-contexts (point_above latest reach) (CONTEXTS - n + n) (omega arith)
