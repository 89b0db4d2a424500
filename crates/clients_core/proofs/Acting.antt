-- A client's acts, one after another, and what it knows of its puts.
use Rattle.std.proofs.Common.{◌≡◌, ℕ, zero, suc, ◌+◌, ◌-◌, ◌<◌, ◌≤◌, ◌==◌, Bool, true, false, if◌then◌else◌, All, List, [], ◌∷◌, ◌++◌, length, get_or, set, take, drop, Some, Result, Ok, Err, OnOk, refl, sym, ap, ◌∙◌, subst, inl, inr, arith, append_assoc, append-nil, drop-cons, get_or-set_same, get_or-set_other}
use mathlib.Core.Logic.{dite}
use native.Mathlib.Decide.{ℕ_discrete}
use Rattle.std.specs.Prelude.{◌⊎◌, slice_get}
use Rattle.std.proofs.lemmas.Bool.Decides.{eqb_tells}
use Rattle.std.proofs.lemmas.List.{drop_at, get_or-map, length-map, length-set, take_at, take_more, take-append-drop}
use Rattle.std.proofs.lemmas.List.Concat.{flat_map-append}
use Rattle.std.proofs.lemmas.List.Elements.{All-append, All-cons, All-drop, All-get_or, All-head, All-nil, All-tail, All-take}
use Rattle.std.proofs.lemmas.List.Sums.{sum_by-append, sum_by_more_le}
use Rattle.std.specs.List.{flat_map, range_with_len}
use Rattle.std.proofs.lemmas.Option.{none-some, same_Some, slice_get_read, slice_get_within, get_or_from_slice_get}
use Rattle.point_core.specs.declared.entry.Point.{Point}
use Rattle.point_core.specs.declared.entry.Entry.{Entry}
use Rattle.point_core.specs.declared.entry.Usage.{Usage}
use Rattle.point_core.specs.declared.listing.Listing.{Listing}
use Rattle.point_core.specs.declared.refusal.Refusal.{Refusal}
use Rattle.point_core.specs.declared.refusal.Refusal.TheVariants.{TimedOut}
use Rattle.words_core.specs.theorem.Seat.{SeatModel}
use Rattle.resv_core.specs.declared.plan.Act.{Act}
use Rattle.resv_core.specs.declared.plan.Act.TheVariants.{Inc, Put, Look}
use Rattle.resv_core.specs.Resv.{entry_of}
use Rattle.resv_core.specs.Rounds.{in_round, round_of, rounds_of}
use Rattle.resv_core.specs.Settled.{IsWithin, increment_by, increments_of, put_by, puts_of}
use Rattle.clients_core.specs.declared.own_puts.OwnPuts.{OwnPuts}
use Rattle.clients_core.specs.OwnPuts.{AreOwnPuts}
use Rattle.clients_core.specs.Acting.{ClientModel, KnowPuts, HasActed, HaveActed, HasStopped}

pub OnOk-weaker : {X Y : Type 0} {P Q : Type 0} (r : Result X Y) → (P → Q) → OnOk r P → OnOk r Q
OnOk-weaker (Ok x) f h = f h
OnOk-weaker (Err e) f h = tt

-- what a client knows of its puts

puts_of-more : (buffer : ℕ) (done : List Act) (act : Act) → puts_of buffer (done ++ act ∷ []) ≡ puts_of buffer done ++ put_by buffer act
puts_of-more buffer done act = flat_map-append (put_by buffer) done (act ∷ []) ∙ ap (λ es. puts_of buffer done ++ es) (append-nil (put_by buffer act))

pub All-get : {X : Type 0} (P : X → Type 0) (xs : List X) (k : ℕ) (x : X) → All P xs → slice_get xs k ≡ Some x → P x
All-get P [] k x all at = absurd (none-some x at)
All-get P (y ∷ ys) zero x all at = subst P (same_Some y x at) (All-head P y ys all)
All-get P (y ∷ ys) (suc k) x all at = All-get P ys k x (All-tail P y ys all) at

pub KnowPuts-none : (contexts : ℕ) (own : List OwnPuts) → All (λ (puts : OwnPuts). AreOwnPuts contexts puts []) own → KnowPuts contexts own []
KnowPuts-none contexts own none = λ buffer puts at. All-get (λ (puts : OwnPuts). AreOwnPuts contexts puts []) own buffer puts none at

-- an act that puts nothing
pub KnowPuts-same : (contexts : ℕ) (own : List OwnPuts) (done : List Act) (act : Act) → ((buffer : ℕ) → put_by buffer act ≡ []) → KnowPuts contexts own done → KnowPuts contexts own (done ++ act ∷ [])
KnowPuts-same contexts own done act nothing known = λ buffer puts at.
    subst (AreOwnPuts contexts puts) (sym (puts_of-more buffer done act ∙ ap (λ es. puts_of buffer done ++ es) (nothing buffer) ∙ append-nil (puts_of buffer done))) (known buffer puts at)

-- the tables of a buffer, of which there is one for each
pub KnowPuts-at : (contexts : ℕ) (own : List OwnPuts) (done : List Act) (buffer : ℕ) (puts : OwnPuts) → buffer < length own → puts ≡ get_or own buffer puts → KnowPuts contexts own done → AreOwnPuts contexts puts (puts_of buffer done)
KnowPuts-at contexts own done buffer puts low at known = known buffer puts (slice_get_read own (length own) buffer puts refl low at)

put_by-here : (buffer : ℕ) (point : Point) (usage : Usage) → put_by buffer (Put buffer point usage) ≡ entry_of point usage ∷ []
put_by-here buffer point usage = elim (eqb_tells buffer buffer) [
  | inl same ↦ ap (λ b. if b then entry_of point usage ∷ [] else []) same.0
  | inr other ↦ absurd (other.1 refl)
]

put_by-other : (into buffer : ℕ) (point : Point) (usage : Usage) → (buffer ≡ into → ⊥) → put_by buffer (Put into point usage) ≡ []
put_by-other into buffer point usage apart = elim (eqb_tells into buffer) [
  | inl same ↦ absurd (apart (sym same.1))
  | inr other ↦ ap (λ b. if b then entry_of point usage ∷ [] else []) other.0
]

-- a put
pub KnowPuts-put : (contexts : ℕ) (own : List OwnPuts) (done : List Act) (into : ℕ) (point : Point) (usage : Usage) (old new : OwnPuts) → into < length own → old ≡ get_or own into old → ((es : List Entry) → AreOwnPuts contexts old es → AreOwnPuts contexts new (es ++ entry_of point usage ∷ [])) → KnowPuts contexts own done → KnowPuts contexts (set own into new) (done ++ Put into point usage ∷ [])
KnowPuts-put contexts own done into point usage old new low at put known = λ buffer puts is.
    let len : length (set own into new) ≡ length own = length-set own into new in
    let inside : buffer < length own = omega (arith, slice_get_within (set own into new) buffer puts is, len) in
    let here : get_or (set own into new) buffer puts ≡ puts = get_or_from_slice_get (set own into new) buffer puts puts is in
    dite (ℕ_discrete buffer into)
    (λ same.
    let new-is : new ≡ puts = sym (get_or-set_same own into new puts low) ∙ ap (λ k. get_or (set own into new) k puts) (sym same) ∙ here in
    let es : puts_of into done ++ entry_of point usage ∷ [] ≡ puts_of buffer (done ++ Put into point usage ∷ []) =
    ap (λ es. puts_of into done ++ es) (sym (put_by-here into point usage))
    ∙ sym (puts_of-more into done (Put into point usage))
    ∙ ap (λ k. puts_of k (done ++ Put into point usage ∷ [])) (sym same) in
    subst (λ p. AreOwnPuts contexts p (puts_of buffer (done ++ Put into point usage ∷ []))) new-is
    (subst (AreOwnPuts contexts new) es (put (puts_of into done) (KnowPuts-at contexts own done into old low at known))))
    (λ other.
    let same : puts ≡ get_or own buffer puts = sym here ∙ get_or-set_other own into buffer new puts other in
    subst (AreOwnPuts contexts puts) (sym (puts_of-more buffer done (Put into point usage) ∙ ap (λ es. puts_of buffer done ++ es) (put_by-other into buffer point usage other) ∙ append-nil (puts_of buffer done)))
    (KnowPuts-at contexts own done buffer puts inside same known))

-- what is put is of a context that there is
put-within : (contexts buffers buffer : ℕ) (act : Act) → IsWithin contexts buffers act → All (λ (e : Entry). e.point.ctx ≤ contexts) (put_by buffer act)
put-within contexts buffers buffer (Inc n) within = All-nil (λ (e : Entry). e.point.ctx ≤ contexts)
put-within contexts buffers buffer (Put into point usage) within = by (into == buffer)
  where
    by : (b : Bool) → All (λ (e : Entry). e.point.ctx ≤ contexts) (if b then entry_of point usage ∷ [] else [])
    by true = All-cons (λ (e : Entry). e.point.ctx ≤ contexts) (entry_of point usage) [] within.1 (All-nil (λ (e : Entry). e.point.ctx ≤ contexts))
    by false = All-nil (λ (e : Entry). e.point.ctx ≤ contexts)
put-within contexts buffers buffer (Look into usage) within = All-nil (λ (e : Entry). e.point.ctx ≤ contexts)

pub puts-within : (contexts buffers buffer : ℕ) (done : List Act) → All (IsWithin contexts buffers) done → All (λ (e : Entry). e.point.ctx ≤ contexts) (puts_of buffer done)
puts-within contexts buffers buffer [] all = All-nil (λ (e : Entry). e.point.ctx ≤ contexts)
puts-within contexts buffers buffer (act ∷ acts) all =
    All-append (λ (e : Entry). e.point.ctx ≤ contexts) (put_by buffer act) (puts_of buffer acts)
    (put-within contexts buffers buffer act (All-head (IsWithin contexts buffers) act acts all))
    (puts-within contexts buffers buffer acts (All-tail (IsWithin contexts buffers) act acts all))

-- acts after acts

module _ (puts : ℕ → Entry → SeatModel → SeatModel → Result (Unit {0}) Refusal → Type 0) (exports : ℕ → Usage → SeatModel → SeatModel → Result Listing Refusal → Type 0) where
  pub HaveActed-append : (done xs ys : List Act) (first middle last : ClientModel) → HaveActed puts exports done xs first middle → HaveActed puts exports (done ++ xs) ys middle last → HaveActed puts exports done (xs ++ ys) first last
  HaveActed-append done [] ys first middle last before after =
      subst (λ (s : ClientModel). HaveActed puts exports done ys s last) before (subst (λ (d : List Act). HaveActed puts exports d ys middle last) (append-nil done) after)
  HaveActed-append done (x ∷ xs) ys first middle last before after = (
    before.0,
    before.1,
    HaveActed-append (done ++ x ∷ []) xs ys before.0 middle last before.2 (subst (λ (d : List Act). HaveActed puts exports d ys middle last) (sym (append_assoc done (x ∷ []) xs)) after),
  )

  -- one more of a list
  pub HaveActed-more : (done acts : List Act) (i : ℕ) (act : Act) (first middle last : ClientModel) → i < length acts → act ≡ get_or acts i act → HaveActed puts exports done (take i acts) first middle → HasActed puts exports (done ++ take i acts) act middle last (Ok tt) → HaveActed puts exports done (take (i + 1) acts) first last
  HaveActed-more done acts i act first middle last low at before acted =
      let more : take (i + 1) acts ≡ take i acts ++ act ∷ [] = take_more acts i act low ∙ ap (λ a. take i acts ++ a ∷ []) (sym at) in
      subst (λ xs. HaveActed puts exports done xs first last) (sym more) (HaveActed-append done (take i acts) (act ∷ []) first middle last before (last, acted, refl))

  -- the next of a list was not accepted
  pub HasStopped-next : (done acts : List Act) (i : ℕ) (act : Act) (first middle last : ClientModel) (refusal : Refusal) → i < length acts → act ≡ get_or acts i act → HaveActed puts exports done (take i acts) first middle → ((refusal ≡ TimedOut) × (last ≡ middle)) ⊎ HasActed puts exports (done ++ take i acts) act middle last (Err refusal) → HasStopped puts exports done acts first last refusal
  HasStopped-next done acts i act first middle last refusal low at before stopped = record {
    accepted = take i acts;
    act = act;
    rest = drop (suc i) acts;
    acts_are = sym (take-append-drop i acts) ∙ ap (λ xs. take i acts ++ xs) (drop-cons acts i act low ∙ ap (λ a. a ∷ drop (suc i) acts) (sym at));
    middle = middle;
    acted = before;
    stopped = stopped;
  }

  -- in the middle of longer ones
  pub HasStopped-within : (done xs ys zs : List Act) (first middle last : ClientModel) (refusal : Refusal) → HaveActed puts exports done xs first middle → HasStopped puts exports (done ++ xs) ys middle last refusal → HasStopped puts exports done (xs ++ (ys ++ zs)) first last refusal
  HasStopped-within done xs ys zs first middle last refusal before h = record {
    accepted = xs ++ h.accepted;
    act = h.act;
    rest = h.rest ++ zs;
    acts_are =
        ap (λ (l : List Act). xs ++ (l ++ zs)) h.acts_are
        ∙ ap (λ (l : List Act). xs ++ l) (append_assoc h.accepted (h.act ∷ h.rest) zs)
        ∙ sym (append_assoc xs h.accepted (h.act ∷ (h.rest ++ zs)));
    middle = h.middle;
    acted = HaveActed-append done xs h.accepted first middle h.middle before h.acted;
    stopped = subst (λ (d : List Act). ((refusal ≡ TimedOut) × (last ≡ h.middle)) ⊎ HasActed puts exports d h.act h.middle last (Err refusal)) (append_assoc done xs h.accepted) h.stopped;
  }

-- the rounds before one, that one, and the rounds after it

rounds-parted : (acts : List Act) (a i k : ℕ) → flat_map (round_of acts) (range_with_len a (i + k)) ≡ flat_map (round_of acts) (range_with_len a i) ++ flat_map (round_of acts) (range_with_len (a + i) k)
rounds-parted acts a zero k =
    let none : zero + k ≡ k = omega arith in
    let same : a ≡ a + 0 = omega arith in
    ap (λ (n : ℕ). flat_map (round_of acts) (range_with_len a n)) none ∙ ap (λ (b : ℕ). flat_map (round_of acts) (range_with_len b k)) same
rounds-parted acts a (suc i) k =
    let more : suc i + k ≡ suc (i + k) = omega arith in
    let same : a + 1 + i ≡ a + suc i = omega arith in
    ap (λ (n : ℕ). flat_map (round_of acts) (range_with_len a n)) more
    ∙ ap (λ (rest : List Act). round_of acts a ++ rest) (rounds-parted acts (a + 1) i k ∙ ap (λ (b : ℕ). flat_map (round_of acts) (range_with_len (a + 1) i) ++ flat_map (round_of acts) (range_with_len b k)) same)
    ∙ sym (append_assoc (round_of acts a) (flat_map (round_of acts) (range_with_len (a + 1) i)) (flat_map (round_of acts) (range_with_len (a + suc i) k)))

-- the rounds after one
abbrev pub rounds_after : List Act → ℕ → ℕ → List Act
rounds_after acts i n = flat_map (round_of acts) (range_with_len (1 + i + 1) (n - (i + 1)))

pub rounds-round : (acts : List Act) (i n : ℕ) → i < n → rounds_of acts n ≡ rounds_of acts i ++ (round_of acts (i + 1) ++ rounds_after acts i n)
rounds-round acts i n low =
    let parts : n ≡ i + suc (n - (i + 1)) = omega arith in
    let here : 1 + i ≡ i + 1 = omega arith in
    ap (λ (k : ℕ). flat_map (round_of acts) (range_with_len 1 k)) parts
    ∙ rounds-parted acts 1 i (suc (n - (i + 1)))
    ∙ ap (λ (r : ℕ). rounds_of acts i ++ (round_of acts r ++ rounds_after acts i n)) here

-- each of them is within where all are
pub within-before : (contexts buffers : ℕ) (acts : List Act) (i n : ℕ) → i < n → All (IsWithin contexts buffers) (rounds_of acts n) → All (IsWithin contexts buffers) (rounds_of acts i)
within-before contexts buffers acts i n low all =
    let before = rounds_of acts i in
    let rest = round_of acts (i + 1) ++ rounds_after acts i n in
    subst (All (IsWithin contexts buffers)) (take_at before rest (length before) refl)
    (All-take (IsWithin contexts buffers) (length before) (before ++ rest)
    (subst (All (IsWithin contexts buffers)) (rounds-round acts i n low) all))

pub round-within : (contexts buffers : ℕ) (acts : List Act) (i n : ℕ) → i < n → All (IsWithin contexts buffers) (rounds_of acts n) → All (IsWithin contexts buffers) (round_of acts (i + 1))
round-within contexts buffers acts i n low all =
    let before = rounds_of acts i in
    let here = round_of acts (i + 1) in
    let after = rounds_after acts i n in
    subst (All (IsWithin contexts buffers)) (take_at here after (length here) refl)
    (All-take (IsWithin contexts buffers) (length here) (here ++ after)
    (subst (All (IsWithin contexts buffers)) (drop_at before (here ++ after) (length before) refl)
    (All-drop (IsWithin contexts buffers) (length before) (before ++ (here ++ after))
    (subst (All (IsWithin contexts buffers)) (rounds-round acts i n low) all))))

-- the rounds before one, and that one, advance by no more than all
pub increments-before : (acts : List Act) (i n : ℕ) → i < n → increments_of (rounds_of acts i) + increments_of (round_of acts (i + 1)) ≤ increments_of (rounds_of acts n)
increments-before acts i n low =
    let before = rounds_of acts i in
    let here = round_of acts (i + 1) in
    let after = rounds_after acts i n in
    let whole : increments_of (rounds_of acts n) ≡ increments_of (before ++ (here ++ after)) = ap increments_of (rounds-round acts i n low) in
    let first = sum_by-append increment_by before (here ++ after) in
    let second = sum_by-append increment_by here after in
    omega (arith, whole, first, second)

-- one act of a round

pub length-round : (acts : List Act) (number : ℕ) → length (round_of acts number) ≡ length acts
length-round acts number = length-map acts (in_round number)

pub round-at : (acts : List Act) (number i : ℕ) (act made : Act) → i < length acts → act ≡ get_or acts i act → made ≡ in_round number act → made ≡ get_or (round_of acts number) i made
round-at acts number i act made low at is = is ∙ ap (in_round number) at ∙ sym (get_or-map (in_round number) acts i act made low)

pub All-at : {X : Type 0} (P : X → Type 0) (xs : List X) (i : ℕ) (x : X) → i < length xs → x ≡ get_or xs i x → All P xs → P x
All-at P xs i x low at all = subst P (sym at) (All-get_or P xs i x low all)

pub increments-at : (acts : List Act) (i : ℕ) (act : Act) → i < length acts → act ≡ get_or acts i act → increments_of (take i acts) + increment_by act ≤ increments_of acts
increments-at acts i act low at =
    let more = sum_by_more_le increment_by acts i act low in
    let here : increment_by act ≡ increment_by (get_or acts i act) = ap increment_by at in
    omega (arith, more, here)
