-- The reach of clocks.
use Rattle.std.proofs.Common.{◌≡◌, ◌≢◌, ◌↔◌, ℕ, ◌+◌, ◌-◌, ◌<◌, ◌≤◌, suc, max, refl, sym, ap, ◌∙◌, Bool, true, false, ◌&&◌, ◌||◌, nat_le, if◌then◌else◌, List, [], ◌∷◌, ◌++◌, append_assoc, append-nil, length, take, drop, map, get_or, set, arith, get_or-set_same, get_or-set_other, inl, inr}
use Rattle.std.proofs.lemmas.Bool.{cases_lt, false≢true}
use Rattle.std.proofs.Math.ListN.{get_or-map}
use Rattle.std.proofs.Math.Seq.{take-suc}
use Rattle.std.proofs.lemmas.List.{map-set, take-append-drop}
use Rattle.point_core.specs.declared.clocks.Clock.{Clock}
use Rattle.point_core.specs.declared.entry.Point.{Point}
use Rattle.std.specs.List.{list_all, list_any}
use Rattle.point_core.specs.declared.status.Status.{Status}
use Rattle.point_core.specs.declared.status.Status.TheVariants.{Active}
use Rattle.point_core.specs.Status.{is_signalled, status_with}
use Rattle.point_core.specs.Reach.{is_reached, GREATEST, value_at, reaching, shut_value}
use Rattle.point_core.specs.Clocks.{clock_of, open_clock, new_clock, status_of, status_at, is_cancelled, some_cancelled, common_status, clock_at, reached_by, reach_of_clocks, closed_clock}

-- the reach's value of a context
pub value_at-reach_of_clocks : (clocks : List Clock) (ctx : ℕ) → value_at (reach_of_clocks clocks) ctx ≡ reached_by (clock_at clocks ctx)
value_at-reach_of_clocks clocks ctx = get_or-map reached_by clocks (ctx - 1) new_clock

-- the reach once one clock has changed
pub reach_of_clocks-with : (clocks : List Clock) (i : ℕ) (clock : Clock) → reach_of_clocks (set clocks i clock) ≡ set (reach_of_clocks clocks) i (reached_by clock)
reach_of_clocks-with clocks i clock = map-set reached_by clocks i clock

pub reach_of_clocks-shut : (clocks : List Clock) (i ctx : ℕ) → i + 1 ≡ ctx → reach_of_clocks (set clocks i (closed_clock (get_or clocks i new_clock))) ≡ shut_value (reach_of_clocks clocks) ctx
reach_of_clocks-shut clocks i ctx at =
    let place : i ≡ ctx - 1 = omega arith in
    reach_of_clocks-with clocks i (closed_clock (get_or clocks i new_clock)) ∙ ap (λ j. set (reach_of_clocks clocks) j GREATEST) place

pub reach_of_clocks-raised : (clocks : List Clock) (i : ℕ) (p : Point) → i + 1 ≡ p.ctx → (clock_at clocks p.ctx).closed ≡ false → (get_or clocks i new_clock).value < p.value → reach_of_clocks (set clocks i (clock_of p.value (get_or clocks i new_clock).closed)) ≡ reaching (reach_of_clocks clocks) p
reach_of_clocks-raised clocks i p at is_open low =
    let place : p.ctx - 1 ≡ i = omega arith in
    let still : (get_or clocks i new_clock).closed ≡ false = ap (λ j. (get_or clocks j new_clock).closed) (sym place) ∙ is_open in
    let before : value_at (reach_of_clocks clocks) p.ctx ≡ (get_or clocks i new_clock).value =
    value_at-reach_of_clocks clocks p.ctx ∙ ap (λ j. reached_by (get_or clocks j new_clock)) place
    ∙ ap (λ b. if b then GREATEST else (get_or clocks i new_clock).value) still in
    let later : p.value ≡ max (value_at (reach_of_clocks clocks) p.ctx) p.value = omega arith in
    reach_of_clocks-with clocks i (clock_of p.value (get_or clocks i new_clock).closed)
    ∙ ap (λ b. set (reach_of_clocks clocks) i (if b then GREATEST else p.value)) still
    ∙ ap (set (reach_of_clocks clocks) i) later
    ∙ ap (λ j. set (reach_of_clocks clocks) j (max (value_at (reach_of_clocks clocks) p.ctx) p.value)) (sym place)

-- if the value is at the point already, nothing changes
pub reaching-reached : (clocks : List Clock) (i : ℕ) (p : Point) → i + 1 ≡ p.ctx → (clock_at clocks p.ctx).closed ≡ false → p.value ≤ (get_or clocks i new_clock).value → value_at (reach_of_clocks clocks) p.ctx ≡ max (value_at (reach_of_clocks clocks) p.ctx) p.value
reaching-reached clocks i p at is_open low =
    let place : p.ctx - 1 ≡ i = omega arith in
    let still : (get_or clocks i new_clock).closed ≡ false = ap (λ j. (get_or clocks j new_clock).closed) (sym place) ∙ is_open in
    let before : value_at (reach_of_clocks clocks) p.ctx ≡ (get_or clocks i new_clock).value =
    value_at-reach_of_clocks clocks p.ctx ∙ ap (λ j. reached_by (get_or clocks j new_clock)) place
    ∙ ap (λ b. if b then GREATEST else (get_or clocks i new_clock).value) still in
    omega arith

-- one more clock is opened
pub opened-more : (clocks : List Clock) (values : List ℕ) (i : ℕ) → i < length clocks → ((k : ℕ) → k < i → get_or clocks k new_clock ≡ open_clock (get_or values k 0)) → (k : ℕ) → k < i + 1 → get_or (set clocks i (open_clock (get_or values i 0))) k new_clock ≡ open_clock (get_or values k 0)
opened-more clocks values i low before k within = elim (cases_lt k i) [
  | inl less ↦ (let apart : k ≢ i = omega arith in get_or-set_other clocks i k (open_clock (get_or values i 0)) new_clock apart) ∙ before k less
  | inr past ↦ let same : k ≡ i = omega arith in rw same (get_or-set_same clocks i (open_clock (get_or values i 0)) new_clock low)
]

pub clocks-opened : (clocks : List Clock) (values : List ℕ) → length clocks ≡ length values → ((k : ℕ) → k < length values → get_or clocks k new_clock ≡ open_clock (get_or values k 0)) → clocks ≡ map open_clock values
clocks-opened [] [] same at = refl
clocks-opened [] (v ∷ vs) same at = absurd (omega arith)
clocks-opened (c ∷ cs) [] same at = absurd (omega arith)
clocks-opened (c ∷ cs) (v ∷ vs) same at = ap (λ d. d ∷ cs) (at 0 (omega arith)) ∙ ap (λ ds. open_clock v ∷ ds) (clocks-opened cs vs (omega arith) (λ k low. at (suc k) (omega arith)))

pub reach_of_clocks-open : (values : List ℕ) → reach_of_clocks (map open_clock values) ≡ values
reach_of_clocks-open [] = refl
reach_of_clocks-open (v ∷ vs) = ap (λ us. v ∷ us) (reach_of_clocks-open vs)

pub reach_of_clocks-opened : (clocks : List Clock) (values : List ℕ) → clocks ≡ map open_clock values → values ≡ reach_of_clocks clocks
reach_of_clocks-opened clocks values is = sym (ap reach_of_clocks is ∙ reach_of_clocks-open values)

status_with-of : (all some reached cancelled : Bool) → status_with (status_of all some) (status_of reached cancelled) ≡ status_of (all && reached) (some || cancelled)
status_with-of false some reached cancelled = refl
status_with-of true false false cancelled = refl
status_with-of true false true false = refl
status_with-of true false true true = refl
status_with-of true true false cancelled = refl
status_with-of true true true false = refl
status_with-of true true true true = refl

list_all-push : {X : Type 0} (test : X → Bool) (xs : List X) (x : X) → list_all test (xs ++ x ∷ []) ≡ (list_all test xs && test x)
list_all-push test [] x = and_true (test x)
  where
    and_true : (b : Bool) → (b && true) ≡ b
    and_true true = refl
    and_true false = refl
list_all-push test (y ∷ xs) x = ap (λ b. test y && b) (list_all-push test xs x) ∙ and_assoc (test y) (list_all test xs) (test x)
  where
    and_assoc : (a b c : Bool) → (a && (b && c)) ≡ ((a && b) && c)
    and_assoc true b c = refl
    and_assoc false b c = refl

list_any-push : {X : Type 0} (test : X → Bool) (xs : List X) (x : X) → list_any test (xs ++ x ∷ []) ≡ (list_any test xs || test x)
list_any-push test [] x = or_false (test x)
  where
    or_false : (b : Bool) → (b || false) ≡ b
    or_false true = refl
    or_false false = refl
list_any-push test (y ∷ xs) x = ap (λ b. test y || b) (list_any-push test xs x) ∙ or_assoc (test y) (list_any test xs) (test x)
  where
    or_assoc : (a b c : Bool) → (a || (b || c)) ≡ ((a || b) || c)
    or_assoc true b c = refl
    or_assoc false b c = refl

-- the status of one more point
pub common_status-push : (clocks : List Clock) (ps : List Point) (p : Point) → common_status clocks (ps ++ p ∷ []) ≡ status_with (common_status clocks ps) (status_at clocks p)
common_status-push clocks ps p =
    ap (λ b. status_of b (some_cancelled clocks (ps ++ p ∷ []))) (list_all-push (is_reached (reach_of_clocks clocks)) ps p)
    ∙ ap (status_of (list_all (is_reached (reach_of_clocks clocks)) ps && is_reached (reach_of_clocks clocks) p)) (list_any-push (is_cancelled clocks) ps p)
    ∙ ap (λ v. status_of (list_all (is_reached (reach_of_clocks clocks)) ps && nat_le p.value v) (some_cancelled clocks ps || is_cancelled clocks p)) (value_at-reach_of_clocks clocks p.ctx)
    ∙ sym (status_with-of (list_all (is_reached (reach_of_clocks clocks)) ps) (some_cancelled clocks ps) (nat_le p.value (reached_by (clock_at clocks p.ctx))) (is_cancelled clocks p))

-- the points up to the next place
pub common_status-take_more : {next : Status} (clocks : List Clock) (ps : List Point) (i : ℕ) (p : Point) (status : Status) → i < length ps → p ≡ get_or ps i p → status ≡ common_status clocks (take i ps) → next ≡ status_at clocks p → status_with status next ≡ common_status clocks (take (i + 1) ps)
common_status-take_more {next} clocks ps i p status low is before told =
    let more : suc i ≡ i + 1 = omega arith in
    ap (λ s. status_with s next) before
    ∙ ap (status_with (common_status clocks (take i ps))) told
    ∙ sym (common_status-push clocks (take i ps) p)
    ∙ ap (λ q. common_status clocks (take i ps ++ q ∷ [])) is
    ∙ ap (common_status clocks) (sym (take-suc ps i p low))
    ∙ ap (λ n. common_status clocks (take n ps)) more

-- more points stay active
active-append : (clocks : List Clock) (ps more : List Point) → common_status clocks ps ≡ Active → common_status clocks (ps ++ more) ≡ Active
active-append clocks ps [] is = ap (common_status clocks) (append-nil ps) ∙ is
active-append clocks ps (p ∷ more) is =
    let next : common_status clocks (ps ++ p ∷ []) ≡ Active = common_status-push clocks ps p ∙ ap (λ s. status_with s (status_at clocks p)) is in
    ap (common_status clocks) (sym (append_assoc ps (p ∷ []) more)) ∙ active-append clocks (ps ++ p ∷ []) more next

-- points are active once the first of them are
pub common_status-active : (clocks : List Clock) (ps : List Point) (i : ℕ) → common_status clocks (take i ps) ≡ Active → common_status clocks ps ≡ Active
common_status-active clocks ps i is = ap (common_status clocks) (sym (take-append-drop i ps)) ∙ active-append clocks (take i ps) (drop i ps) is

-- points that are not active are signalled or in part cancelled
pub status_of-not_active : {P : Type 0} (signalled cancelled : Bool) → ((signalled ≡ true) ↔ P) → ((status_of signalled cancelled ≢ Active) ↔ P)
status_of-not_active true true told = (λ _. told.0 refl, λ _ is. absurd (cc))
status_of-not_active true false told = (λ _. told.0 refl, λ _ is. absurd (cc))
status_of-not_active false cancelled told = (λ isnt. absurd (isnt refl), λ is _. false≢true (told.1 is))

-- points are signalled whether or not some are cancelled
pub is_signalled-of : (signalled cancelled : Bool) → is_signalled (status_of signalled cancelled) ≡ signalled
is_signalled-of true true = refl
is_signalled-of true false = refl
is_signalled-of false cancelled = refl
