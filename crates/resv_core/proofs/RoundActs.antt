-- Rounds of acts: another round, a single one, the number of acts, the sum of advances, and ranges.
use Rattle.std.proofs.Common.{◌≡◌, ◌≢◌, ℕ, zero, suc, ◌+◌, ◌*◌, ◌^◌, ◌<◌, ◌≤◌, true, nat_lt, All, List, [], ◌∷◌, ◌++◌, length, inl, inr, refl, sym, ap, ◌∙◌, arith, length-append, append-nil, mul-zero, mul-one, mul-suc, mul-le-mul_left}
use Rattle.std.specs.List.{range_with_len, flat_map, list_all}
use Rattle.std.proofs.lemmas.Bool.{and_parts, lt-ltb, ltb-true}
use Rattle.std.proofs.lemmas.List.{append_assoc, length-map}
use Rattle.std.proofs.lemmas.List.Elements.{All-cons, All-nil, All-weaker}
use Rattle.std.proofs.lemmas.List.Sums.{sum_by-append, sum_by-cons}
use Rattle.point_core.specs.declared.entry.Point.{Point}
use Rattle.point_core.specs.declared.entry.Usage.{Usage}
use Rattle.point_core.specs.Agreement.{point_of}
use Rattle.resv_core.specs.declared.plan.Act.{Act}
use Rattle.resv_core.specs.declared.plan.Act.TheVariants.{Inc, Put, Look}
use Rattle.resv_core.specs.Settled.{increment_by, increments_of}
use Rattle.resv_core.specs.Rounds.{IsInRange, IsRepeatable, in_round, is_in_range, is_repeatable, round_of, rounds_of}

flat_map-range_more : {X : Type 0} (f : ℕ → List X) (a n : ℕ) → flat_map f (range_with_len a (suc n)) ≡ flat_map f (range_with_len a n) ++ f (a + n)
flat_map-range_more f a zero = append-nil (f a) ∙ ap f (omega arith)
flat_map-range_more f a (suc n) =
    ap (λ xs. f a ++ xs) (flat_map-range_more f (a + 1) n)
    ∙ sym (append_assoc (f a) (flat_map f (range_with_len (a + 1) n)) (f (a + 1 + n)))
    ∙ ap (λ (k : ℕ). (f a ++ flat_map f (range_with_len (a + 1) n)) ++ f k) (omega arith)

-- another round
pub rounds_of-more : (acts : List Act) (n : ℕ) → rounds_of acts (n + 1) ≡ rounds_of acts n ++ round_of acts (n + 1)
rounds_of-more acts n =
    let more : n + 1 ≡ suc n = omega arith in
    let last : 1 + n ≡ n + 1 = omega arith in
    ap (λ (k : ℕ). flat_map (round_of acts) (range_with_len 1 k)) more
    ∙ flat_map-range_more (round_of acts) 1 n
    ∙ ap (λ (k : ℕ). flat_map (round_of acts) (range_with_len 1 n) ++ round_of acts k) last

-- the first round has the acts themselves
pub act-first : (act : Act) → in_round 1 act ≡ act
act-first (Inc n) = refl
act-first (Put into point usage) = ap (λ (value : ℕ). Put into (point_of point.ctx value) usage) (mul-one point.value)
act-first (Look into usage) = refl

round-first : (acts : List Act) → round_of acts 1 ≡ acts
round-first [] = refl
round-first (act ∷ acts) = ap (λ (a : Act). a ∷ round_of acts 1) (act-first act) ∙ ap (λ (rest : List Act). act ∷ rest) (round-first acts)

-- a single round is all
pub rounds_of-once : (acts : List Act) → rounds_of acts 1 ≡ acts
rounds_of-once acts = append-nil (round_of acts 1) ∙ round-first acts

pub length-rounds : (acts : List Act) (a n : ℕ) → length (flat_map (round_of acts) (range_with_len a n)) ≡ length acts * n
length-rounds acts a zero = sym (mul-zero (length acts))
length-rounds acts a (suc n) =
    let here : length (round_of acts a) ≡ length acts = length-map acts (in_round a) in
    let rest = length-rounds acts (a + 1) n in
    let whole = length-append (round_of acts a) (flat_map (round_of acts) (range_with_len (a + 1) n)) in
    let more : length acts * suc n ≡ length acts * n + length acts = mul-suc (length acts) n in
    omega (arith, here, rest, whole, more)

increment-round : (number : ℕ) (act : Act) → increment_by (in_round number act) ≡ increment_by act
increment-round number (Inc n) = refl
increment-round number (Put into point usage) = refl
increment-round number (Look into usage) = refl

pub increments-round : (acts : List Act) (number : ℕ) → increments_of (round_of acts number) ≡ increments_of acts
increments-round [] number = refl
increments-round (act ∷ acts) number =
    let first = increment-round number act in
    let rest = increments-round acts number in
    let made = sum_by-cons increment_by (in_round number act) (round_of acts number) in
    let own = sum_by-cons increment_by act acts in
    omega (arith, first, rest, made, own)

pub increments-rounds : (acts : List Act) (a n : ℕ) → increments_of (flat_map (round_of acts) (range_with_len a n)) ≡ increments_of acts * n
increments-rounds acts a zero = sym (mul-zero (increments_of acts))
increments-rounds acts a (suc n) =
    let here = increments-round acts a in
    let rest = increments-rounds acts (a + 1) n in
    let whole = sum_by-append increment_by (round_of acts a) (flat_map (round_of acts) (range_with_len (a + 1) n)) in
    let more : increments_of acts * suc n ≡ increments_of acts * n + increments_of acts = mul-suc (increments_of acts) n in
    omega (arith, here, rest, whole, more)

-- the point of an act that is in range, in a later round
pub point-fits : (number into : ℕ) (point : Point) (usage : Usage) → number ≢ 1 → IsInRange number (Put into point usage) → point.value * number < 2 ^ 64
point-fits zero into point usage other h = let none = mul-zero point.value in omega (arith, none)
point-fits (suc n) into point usage other (inl few) = absurd (other (omega (arith, few)))
point-fits (suc n) into point usage other (inr fits) = ltb-true (point.value * suc n) (2 ^ 64) fits

-- an act in range is in range in earlier rounds
in_range-earlier : (m n : ℕ) → m ≤ n → (act : Act) → IsInRange n act → IsInRange m act
in_range-earlier m n low act (inl few) = inl (omega (arith, few, low))
in_range-earlier m n low (Inc k) (inr fits) = inr refl
in_range-earlier m n low (Put into point usage) (inr fits) =
    let less : point.value * m ≤ point.value * n = mul-le-mul_left point.value low in
    let fits' = ltb-true (point.value * n) (2 ^ 64) fits in
    inr (lt-ltb (point.value * m) (2 ^ 64) (omega (arith, fits', less)))
in_range-earlier m n low (Look into usage) (inr fits) = inr refl

pub acts-in_range : (acts : List Act) (m n : ℕ) → m ≤ n → All (IsInRange n) acts → All (IsInRange m) acts
acts-in_range acts m n low h = All-weaker (IsInRange n) (IsInRange m) (in_range-earlier m n low) acts h

-- acts that are made once are repeatable
pub acts-once : (acts : List Act) → length acts < 2 ^ 64 → IsRepeatable acts 1
acts-once acts low = let one = mul-one (length acts) in record {
  points = λ k d within. inl (omega arith);
  count = omega (arith, low, one);
}

-- the meaning of the test
acts-pass : (n : ℕ) (acts : List Act) → list_all (is_in_range n) acts ≡ true → All (IsInRange n) acts
acts-pass n [] h = All-nil (IsInRange n)
acts-pass n (act ∷ acts) h =
    let parts = and_parts (is_in_range n act) (list_all (is_in_range n) acts) h in
    All-cons (IsInRange n) act acts (inr parts.0) (acts-pass n acts parts.1)

pub repeatable-passes : (acts : List Act) (n : ℕ) → is_repeatable acts n ≡ true → IsRepeatable acts n
repeatable-passes acts n h =
    let parts = and_parts (nat_lt (length acts * n) (2 ^ 64)) (list_all (is_in_range n) acts) h in
    record {
      points = acts-pass n acts parts.1;
      count = ltb-true (length acts * n) (2 ^ 64) parts.0;
    }
