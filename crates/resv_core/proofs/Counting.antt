-- The number of entries in a trimmed table.
use Rattle.std.proofs.Common.{◌≡◌, ◌≢◌, ℕ, ◌+◌, ◌*◌, ◌≤◌, zero, suc, refl, sym, ◌∙◌, List, [], ◌∷◌, length, arith, Bool, true, false, ◌==◌, ◌&&◌, not, inl, inr, All, AllPairs, filter, count_by, cond, get_or}
use Rattle.std.proofs.lemmas.Bool.{cases_lt, cases_Bool, and_parts, eqb-true, eq-eqb, le-leb}
use Rattle.std.proofs.lemmas.List.Elements.{All-filter, filter_passes}
use Rattle.std.proofs.lemmas.List.Filters.{length-filter_both}
use Rattle.std.proofs.lemmas.List.Kept.{AllPairs-filter}
use Rattle.std.proofs.lemmas.List.Sums.{length-filter, sum_by-cons}
use Rattle.point_core.specs.declared.context.TheConstants.{CONTEXTS}
use Rattle.point_core.specs.declared.entry.Entry.{Entry}
use Rattle.point_core.specs.declared.entry.Usage.{Usage}
use Rattle.point_core.specs.declared.entry.Usage.TheVariants.{Kernel, Write, Read, Bookkeep}
use Rattle.point_core.specs.Usage.{usage_number}
use Rattle.point_core.specs.Agreement.{covers, HasContexts}
use Rattle.resv_core.specs.declared.resv.TheConstants.{PLACES, PLACES_PER_CONTEXT}
use Rattle.resv_core.specs.Resv.{IsTrimmed, is_at, is_of}

abbrev Apart : Entry → Entry → Type 0
Apart e f = (covers e f ≡ false) × (covers f e ≡ false)

-- the later of two entries of one context and usage covers the other
covers-later : (e f : Entry) → e.point.ctx ≡ f.point.ctx → usage_number e.usage ≡ usage_number f.usage → f.point.value ≤ e.point.value → covers e f ≡ true
covers-later e f ctx usage later =
    rw (eq-eqb e.point.ctx f.point.ctx ctx, le-leb (usage_number e.usage) (usage_number f.usage) (omega arith), le-leb f.point.value e.point.value later) refl

true-not_false : {b : Bool} → b ≡ true → b ≡ false → ⊥
true-not_false {b} is other = cc

Apart-not : (e f : Entry) → e.point.ctx ≡ f.point.ctx → usage_number e.usage ≡ usage_number f.usage → Apart e f → ⊥
Apart-not e f ctx usage apart = elim (cases_lt e.point.value f.point.value) [
  | inl earlier ↦ true-not_false (covers-later f e (sym ctx) (sym usage) (omega arith)) apart.1
  | inr later ↦ true-not_false (covers-later e f ctx usage later) apart.0
]

is_of-same : (usage : Usage) (ctx : ℕ) (e : Entry) → is_of usage ctx e ≡ true → (usage_number e.usage ≡ usage_number usage) × (e.point.ctx ≡ ctx)
is_of-same usage ctx e is =
    let parts = and_parts (usage_number e.usage == usage_number usage) (is_at ctx e) is in
    (eqb-true _ _ parts.0, eqb-true _ _ parts.1)

length-apart : (usage : Usage) (ctx : ℕ) (es : List Entry) → All (λ e. is_of usage ctx e ≡ true) es → AllPairs Apart es → length es ≤ 1
length-apart usage ctx [] same apart = omega arith
length-apart usage ctx (e ∷ []) same apart = omega arith
length-apart usage ctx (e ∷ f ∷ es) same apart =
    let first = is_of-same usage ctx e (same 0 e (omega arith)) in
    let second = is_of-same usage ctx f (same 1 e (omega arith)) in
    absurd (Apart-not e f (first.1 ∙ sym second.1) (first.0 ∙ sym second.0) (apart 0 1 e (omega arith) (omega arith)))

-- there is at most one entry of a context and usage
pub count_by-is_of : (reach : List ℕ) (es : List Entry) (usage : Usage) (ctx : ℕ) → IsTrimmed reach es → count_by (is_of usage ctx) es ≤ 1
count_by-is_of reach es usage ctx trimmed =
    let few = length-apart usage ctx (filter (is_of usage ctx) es) (filter_passes (is_of usage ctx) es) (AllPairs-filter Apart (is_of usage ctx) es trimmed.apart) in
    rw (← length-filter (is_of usage ctx) es) few

count_by-cons : (p : Entry → Bool) (e : Entry) (es : List Entry) → count_by p (e ∷ es) ≡ cond (p e) 1 0 + count_by p es
count_by-cons p e es = sum_by-cons (λ (f : Entry). cond (p f) 1 0) e es

-- a usage is one of the four
one_usage : (u : Usage) (b : Bool) → cond b 1 0 ≡ cond ((usage_number u == usage_number Kernel) && b) 1 0 + cond ((usage_number u == usage_number Write) && b) 1 0 + cond ((usage_number u == usage_number Read) && b) 1 0 + cond ((usage_number u == usage_number Bookkeep) && b) 1 0
one_usage Kernel true = refl
one_usage Kernel false = refl
one_usage Write true = refl
one_usage Write false = refl
one_usage Read true = refl
one_usage Read false = refl
one_usage Bookkeep true = refl
one_usage Bookkeep false = refl

-- so each entry of a context is counted at one usage
count_by-is_at : (es : List Entry) (ctx : ℕ) → count_by (is_at ctx) es ≡ count_by (is_of Kernel ctx) es + count_by (is_of Write ctx) es + count_by (is_of Read ctx) es + count_by (is_of Bookkeep ctx) es
count_by-is_at [] ctx = refl
count_by-is_at (e ∷ es) ctx =
    let all = count_by-cons (is_at ctx) e es in
    let kernel = count_by-cons (is_of Kernel ctx) e es in
    let write = count_by-cons (is_of Write ctx) e es in
    let read = count_by-cons (is_of Read ctx) e es in
    let bookkeep = count_by-cons (is_of Bookkeep ctx) e es in
    let first = one_usage e.usage (is_at ctx e) in
    let rest = count_by-is_at es ctx in
    omega arith

-- a context has at most four entries
count_by-is_at-few : (reach : List ℕ) (es : List Entry) (ctx : ℕ) → IsTrimmed reach es → count_by (is_at ctx) es ≤ 4
count_by-is_at-few reach es ctx trimmed =
    let kernel = count_by-is_of reach es Kernel ctx trimmed in
    let write = count_by-is_of reach es Write ctx trimmed in
    let read = count_by-is_of reach es Read ctx trimmed in
    let bookkeep = count_by-is_of reach es Bookkeep ctx trimmed in
    let all = count_by-is_at es ctx in
    omega arith

pub count_by-is_at-places : (reach : List ℕ) (es : List Entry) (ctx : ℕ) → IsTrimmed reach es → count_by (is_at ctx) es + 1 ≤ PLACES_PER_CONTEXT
count_by-is_at-places reach es ctx trimmed = let few = count_by-is_at-few reach es ctx trimmed in omega arith

count_by-filter : (p q : Entry → Bool) (es : List Entry) → count_by p (filter q es) ≤ count_by p es
count_by-filter p q [] = omega arith
count_by-filter p q (e ∷ es) =
    let rest = count_by-filter p q es in
    let all = count_by-cons p e es in
    elim (cases_Bool (q e)) [
      | inl passes ↦ rw passes (let kept = count_by-cons p e (filter q es) in omega arith)
      | inr not ↦ rw not (omega arith)
    ]

-- the entries of the other contexts
abbrev others : ℕ → Entry → Bool
others ctx e = not (is_at ctx e)

others-true : (ctx : ℕ) (e : Entry) → others ctx e ≡ true → e.point.ctx ≢ ctx
others-true ctx e is = λ same. let at = eq-eqb e.point.ctx ctx same in cc

length-contexts : (n : ℕ) (es : List Entry) → All (λ e. (1 ≤ e.point.ctx) × (e.point.ctx ≤ n)) es → ((ctx : ℕ) → count_by (is_at ctx) es ≤ 4) → length es ≤ 4 * n
length-contexts zero [] within few = omega arith
length-contexts zero (e ∷ es) within few = let first = within 0 e (omega arith) in absurd (omega (arith, first.0, first.1))
length-contexts (suc n) es within few =
    let rest = filter (others (suc n)) es in
    let both = length-filter_both (is_at (suc n)) (others (suc n)) (λ e. refl) es in
    let of = length-filter (is_at (suc n)) es in
    let here = few (suc n) in
    let P : Entry → Type 0 = λ e. (1 ≤ e.point.ctx) × (e.point.ctx ≤ suc n) in
    let before = length-contexts n rest
    (λ i d low.
    let has = All-filter (others (suc n)) P es within i d low in
    let apart = others-true (suc n) (get_or rest i d) (filter_passes (others (suc n)) es i d low) in
    (has.0, omega (arith, has.1, apart)))
    (λ ctx. let fewer = count_by-filter (is_at ctx) (others (suc n)) es in let few' = few ctx in omega arith) in
    omega arith

pub length-IsTrimmed : (reach : List ℕ) (es : List Entry) → IsTrimmed reach es → HasContexts es → length es + CONTEXTS ≤ PLACES
length-IsTrimmed reach es trimmed within =
    let few = length-contexts CONTEXTS es within (λ ctx. count_by-is_at-few reach es ctx trimmed) in omega arith
