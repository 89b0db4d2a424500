-- A file's points and floor, context by context, beside the clocks that are loaded.
use Rattle.std.proofs.Common.{◌≡◌, ◌≢◌, ℕ, ◌+◌, ◌-◌, ◌<◌, ◌≤◌, true, ◌&&◌, ◌||◌, nat_le, All, List, [], ◌∷◌, ◌++◌, map, get_or, refl, sym, ap, ◌∙◌, subst, inl, inr, append_assoc, append-nil, arith}
use Rattle.std.specs.Prelude.{not}
use Rattle.std.specs.List.{list_all, list_any}
use Rattle.std.proofs.lemmas.Bool.{and_parts, and_from, cases_lt, leb-true, le-leb}
use Rattle.std.proofs.lemmas.List.Elements.{All-nil, All-head, All-push, All-tail, All-weaker}
use mathlib.Core.Logic.{dite}
use native.Mathlib.Decide.{ℕ_discrete}
use Rattle.point_core.specs.declared.clocks.Clock.{Clock}
use Rattle.point_core.specs.declared.entry.Point.{Point}
use Rattle.point_core.specs.declared.status.Status.{Status}
use Rattle.point_core.specs.declared.status.Status.TheVariants.{Signalled}
use Rattle.point_core.specs.Agreement.{point_of, HasRisingContexts}
use Rattle.point_core.specs.Clocks.{clock_at, common_status, is_cancelled, new_clock, reach_of_clocks, reached_by, status_by, status_of}
use Rattle.point_core.specs.Reach.{is_reached, value_at}
use Rattle.point_core.specs.Status.{status_with}
use Rattle.point_core.specs.TwoLists.{AllFrom}
use Rattle.point_core.specs.Used.{used_of}
use Rattle.point_core.proofs.Canonical.{IsStrictlyIncreasing-tail, above-first}
use Rattle.point_core.proofs.Ticking.{common_status-push, value_at-reach_of_clocks}
use Rattle.point_core.proofs.TwoLists.{AllFrom-nil, AllFrom-later}
use Rattle.point_core.proofs.Used.{below_where_used, used_of-last}
use Rattle.point_core.proofs.Values.{IsAtLeast-at}
use Rattle.syncfile_core.specs.declared.running.Found.{Found}
use Rattle.syncfile_core.specs.SyncFile.{File}
use Rattle.syncfile_core.specs.Running.{IsBorneOutAt, HasPassedTo, HasFoundTo}

-- clocks that are equal for these points

reached-same : (clocks others : List Clock) (p : Point) → clock_at clocks p.ctx ≡ clock_at others p.ctx → is_reached (reach_of_clocks clocks) p ≡ is_reached (reach_of_clocks others) p
reached-same clocks others p same = ap (nat_le p.value) (value_at-reach_of_clocks clocks p.ctx ∙ ap reached_by same ∙ sym (value_at-reach_of_clocks others p.ctx))

abbrev same_at : List Clock → List Clock → Point → Type 0
same_at clocks others p = clock_at clocks p.ctx ≡ clock_at others p.ctx

all_reached-same : (clocks others : List Clock) (ps : List Point) → All (same_at clocks others) ps → list_all (is_reached (reach_of_clocks clocks)) ps ≡ list_all (is_reached (reach_of_clocks others)) ps
all_reached-same clocks others [] same = refl
all_reached-same clocks others (p ∷ ps) same =
    let here = reached-same clocks others p (All-head (same_at clocks others) p ps same) in
    let rest = all_reached-same clocks others ps (All-tail (same_at clocks others) p ps same) in
    λ i. here i && rest i

some_cancelled-same : (clocks others : List Clock) (ps : List Point) → All (same_at clocks others) ps → list_any (is_cancelled clocks) ps ≡ list_any (is_cancelled others) ps
some_cancelled-same clocks others [] same = refl
some_cancelled-same clocks others (p ∷ ps) same =
    let here : is_cancelled clocks p ≡ is_cancelled others p = ap (λ (k : Clock). k.closed && not (nat_le p.value k.value)) (All-head (same_at clocks others) p ps same) in
    let rest = some_cancelled-same clocks others ps (All-tail (same_at clocks others) p ps same) in
    λ i. here i || rest i

common_status-same : (clocks others : List Clock) (ps : List Point) → All (same_at clocks others) ps → common_status clocks ps ≡ common_status others ps
common_status-same clocks others ps same = λ i. status_of (all_reached-same clocks others ps same i) (some_cancelled-same clocks others ps same i)

-- the points of the contexts so far

abbrev is_first : ℕ → Point → Type 0
is_first n p = (1 ≤ p.ctx) × (p.ctx ≤ n)

HasPassedTo-same : (clocks others : List Clock) (points : List Point) (n : ℕ) (status : Status) (rest : List Point) → ((ctx : ℕ) → 1 ≤ ctx → ctx ≤ n → clock_at clocks ctx ≡ clock_at others ctx) → HasPassedTo clocks points n status rest → HasPassedTo others points n status rest
HasPassedTo-same clocks others points n status rest same h = record {
  passed = h.passed;
  parts = h.parts;
  first = h.first;
  later = h.later;
  rising = h.rising;
  together = h.together ∙ common_status-same clocks others h.passed (All-weaker (is_first n) (same_at clocks others) (λ p within. same p.ctx within.0 within.1) h.passed h.first);
}

-- a point of the next context
pub HasPassedTo-more : (clocks : List Clock) (points : List Point) (n ctx value : ℕ) (clock : Clock) (status next : Status) (rest later : List Point) → ctx ≡ n + 1 → clock_at clocks ctx ≡ clock → rest ≡ point_of ctx value ∷ later
    → next ≡ status_with status (status_by clock value) → HasPassedTo clocks points n status rest → HasPassedTo clocks points (n + 1) next later
HasPassedTo-more clocks points n ctx value clock status next rest later is at parted told h =
    let p : Point = point_of ctx value in
    let rising : HasRisingContexts (p ∷ later) = subst HasRisingContexts parted h.rising in
    record {
      passed = h.passed ++ p ∷ [];
      parts = h.parts ∙ ap (λ (ps : List Point). h.passed ++ ps) parted ∙ sym (append_assoc h.passed (p ∷ []) later);
      first = All-push (is_first (n + 1)) h.passed p (All-weaker (is_first n) (is_first (n + 1)) (λ q within. (within.0, omega arith)) h.passed h.first) (omega arith, omega arith);
      later = λ some. All-weaker (λ (q : Point). p.ctx < q.ctx) (λ (q : Point). n + 1 + 1 ≤ q.ctx) (λ q above. omega arith) later (above-first p later rising);
      rising = IsStrictlyIncreasing-tail ctx (map (λ (q : Point). q.ctx) later) rising;
      together =
          told
          ∙ ap (λ (s : Status). status_with s (status_by clock value)) h.together
          ∙ ap (λ (k : Clock). status_with (common_status clocks h.passed) (status_by k value)) (sym at)
          ∙ sym (common_status-push clocks h.passed p);
    }

later_from : (n ctx : ℕ) (rest : List Point) → ctx ≡ n + 1 → ((p : Point) (ps : List Point) → rest ≡ p ∷ ps → (1 ≤ p.ctx) × (p.ctx ≢ ctx)) → HasRisingContexts rest → (0 < n → AllFrom (n + 1) rest) → AllFrom (n + 1 + 1) rest
later_from n ctx [] is none rising from = AllFrom-nil (n + 1 + 1)
later_from n ctx (p ∷ ps) is none rising from =
    let other = none p ps refl in
    let least : n + 1 ≤ p.ctx = elim (cases_lt 0 n) [
      | inl some ↦ All-head (λ (q : Point). n + 1 ≤ q.ctx) p ps (from some)
      | inr zero ↦ let low = other.0 in omega arith
    ] in
    let apart = other.1 in
    let above : n + 1 < p.ctx = elim (cases_lt (n + 1) p.ctx) [
      | inl over ↦ over
      | inr at ↦ absurd (apart (omega arith))
    ] in
    AllFrom-later (n + 1) p ps above rising

-- no point of the next context
pub HasPassedTo-by : (clocks : List Clock) (points : List Point) (n ctx : ℕ) (status : Status) (rest : List Point) → ctx ≡ n + 1 → ((p : Point) (ps : List Point) → rest ≡ p ∷ ps → (1 ≤ p.ctx) × (p.ctx ≢ ctx))
    → HasPassedTo clocks points n status rest → HasPassedTo clocks points (n + 1) status rest
HasPassedTo-by clocks points n ctx status rest is none h = record {
  passed = h.passed;
  parts = h.parts;
  first = All-weaker (is_first n) (is_first (n + 1)) (λ q within. (within.0, omega arith)) h.passed h.first;
  later = λ some. later_from n ctx rest is none h.rising h.later;
  rising = h.rising;
  together = h.together;
}

-- files

pub HasFoundTo-none : (clocks : List Clock) (f : File) (found : Found) → found.borne_out ≡ true → found.status ≡ Signalled → found.rest.now ≡ f.points → HasRisingContexts f.points → HasFoundTo clocks f 0 found
HasFoundTo-none clocks f found borne signalled all rising = record {
  floor = ((λ is ctx low high. absurd (omega arith)), (λ below. borne));
  points = record {
    passed = [];
    parts = sym all;
    first = All-nil (is_first 0);
    later = λ some. absurd (omega arith);
    rising = subst HasRisingContexts (sym all) rising;
    together = signalled;
  };
}

pub HasFoundTo-same : (clocks others : List Clock) (f : File) (n : ℕ) (found : Found) → ((ctx : ℕ) → 1 ≤ ctx → ctx ≤ n → clock_at clocks ctx ≡ clock_at others ctx) → HasFoundTo clocks f n found → HasFoundTo others f n found
HasFoundTo-same clocks others f n found same h = record {
  floor = (
    (λ is ctx low high. subst (λ (k : Clock). value_at f.floor ctx ≤ reached_by k) (same ctx low high) (h.floor.0 is ctx low high)),
    (λ below. h.floor.1 (λ ctx low high. subst (λ (k : Clock). value_at f.floor ctx ≤ reached_by k) (sym (same ctx low high)) (below ctx low high))),
  );
  points = HasPassedTo-same clocks others f.points n found.status found.rest.now same h.points;
}

-- the floor's value for the next context was compared
pub HasFoundTo-more : (clocks : List Clock) (f : File) (n ctx least : ℕ) (clock : Clock) (before : Found) (after : Found) → ctx ≡ n + 1 → clock_at clocks ctx ≡ clock → least ≡ value_at f.floor ctx
    → after.borne_out ≡ (before.borne_out && nat_le least (reached_by clock)) → HasPassedTo clocks f.points (n + 1) after.status after.rest.now → HasFoundTo clocks f n before → HasFoundTo clocks f (n + 1) after
HasFoundTo-more clocks f n ctx least clock before after is at value compared passed h =
    let there : value_at f.floor ctx ≡ value_at f.floor (n + 1) = ap (value_at f.floor) is in
    let reached : reached_by clock ≡ reached_by (clock_at clocks (n + 1)) = ap reached_by (sym at ∙ ap (clock_at clocks) is) in
    record {
      floor = (
        (λ still.
            let parts = and_parts before.borne_out (nat_le least (reached_by clock)) (sym compared ∙ still) in
            let here = leb-true least (reached_by clock) parts.1 in
            λ c low high. dite (ℕ_discrete c (n + 1))
            (λ same. subst (λ (k : ℕ). value_at f.floor k ≤ reached_by (clock_at clocks k)) (sym same) (omega arith))
            (λ other. h.floor.0 parts.0 c low (omega arith))),
        (λ below.
            let last = below (n + 1) (omega arith) (omega arith) in
            compared ∙ and_from before.borne_out (nat_le least (reached_by clock)) (h.floor.1 (λ c low high. below c low (omega arith))) (le-leb least (reached_by clock) (omega arith))),
      );
      points = passed;
    }

-- once all contexts were scanned

pub common_status-found : (clocks : List Clock) (f : File) (n : ℕ) (found : Found) → HasFoundTo clocks f n found → found.rest.now ≡ [] → found.status ≡ common_status clocks f.points
common_status-found clocks f n found h none =
    h.points.together ∙ ap (common_status clocks) (sym (h.points.parts ∙ ap (λ (ps : List Point). h.points.passed ++ ps) none ∙ append-nil h.points.passed))

pub IsBorneOutAt-found : (clocks : List Clock) (f : File) (n : ℕ) (found : Found) → HasFoundTo clocks f n found → (found.borne_out ≡ true) × (found.rest.now ≡ []) × (used_of f.floor ≤ n) → IsBorneOutAt (reach_of_clocks clocks) n f
IsBorneOutAt-found clocks f n found h is =
    let all : h.points.passed ≡ f.points = sym (h.points.parts ∙ ap (λ (ps : List Point). h.points.passed ++ ps) is.1 ∙ append-nil h.points.passed) in
    record {
      floor = below_where_used (reach_of_clocks clocks) f.floor n is.2 (λ k low.
          let below = h.floor.0 is.0 (k + 1) (omega arith) (omega arith) in
          let reached = value_at-reach_of_clocks clocks (k + 1) in
          let back : k + 1 - 1 ≡ k = omega arith in
          subst (λ (i : ℕ). get_or f.floor i 0 ≤ get_or (reach_of_clocks clocks) i 0) back (omega arith));
      points = subst (All (λ (p : Point). p.ctx ≤ n)) all (All-weaker (is_first n) (λ (p : Point). p.ctx ≤ n) (λ p within. within.1) h.points.passed h.points.first);
    }

All-later : (P : Point → Type 0) (ps qs : List Point) → All P (ps ++ qs) → All P qs
All-later P [] qs all = all
All-later P (p ∷ ps) qs all = All-later P ps qs (All-tail P p (ps ++ qs) all)

none_later : (n : ℕ) (rest : List Point) → AllFrom (n + 1) rest → All (λ (p : Point). p.ctx ≤ n) rest → rest ≡ []
none_later n [] from within = refl
none_later n (p ∷ ps) from within =
    let least = All-head (λ (q : Point). n + 1 ≤ q.ctx) p ps from in
    let most = All-head (λ (q : Point). q.ctx ≤ n) p ps within in
    absurd (omega arith)

pub found-IsBorneOutAt : (clocks : List Clock) (f : File) (n : ℕ) (found : Found) → 1 ≤ n → HasFoundTo clocks f n found → ((ctx : ℕ) → n < ctx → clock_at clocks ctx ≡ new_clock) → IsBorneOutAt (reach_of_clocks clocks) n f
    → (found.borne_out ≡ true) × (found.rest.now ≡ []) × (used_of f.floor ≤ n)
found-IsBorneOutAt clocks f n found some h past out = (
  h.floor.1 (λ ctx low high.
      let below = out.floor.values ctx in
      let reached = value_at-reach_of_clocks clocks ctx in
      omega arith),
  none_later n found.rest.now (h.points.later (omega arith)) (All-later (λ (p : Point). p.ctx ≤ n) h.points.passed found.rest.now (subst (All (λ (p : Point). p.ctx ≤ n)) h.points.parts out.points)),
  elim (cases_lt n (used_of f.floor)) [
    | inl more ↦
        let k = used_of f.floor - 1 in
        let last = used_of-last f.floor (omega arith) in
        let below = IsAtLeast-at out.floor k in
        let back : k + 1 - 1 ≡ k = omega arith in
        let zero : value_at (reach_of_clocks clocks) (k + 1) ≡ 0 = value_at-reach_of_clocks clocks (k + 1) ∙ ap reached_by (past (k + 1) (omega arith)) in
        let none : get_or (reach_of_clocks clocks) k 0 ≡ 0 = ap (λ (i : ℕ). get_or (reach_of_clocks clocks) i 0) (sym back) ∙ zero in
        absurd (omega arith)
    | inr few ↦ few
  ],
)
