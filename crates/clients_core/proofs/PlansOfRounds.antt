-- Plans of rounds: one round more, and that clients may be started with them.
use Rattle.std.proofs.Common.{◌≡◌, ℕ, zero, suc, ◌+◌, ◌*◌, ◌^◌, ◌<◌, ◌≤◌, Bool, true, false, ◌&&◌, List, [], ◌∷◌, ◌++◌, map, length, replicate, Option, None, Some, get_or, take, inl, inr, refl, sym, ap, ◌∙◌, arith, append-nil, le-mul_of_pos_right, one-mul, true≢false}
use Rattle.std.specs.Prelude.{nat_lt, IfSome, IsSome, SomeIff}
use Rattle.std.specs.List.{range_with_len, flat_map, list_all}
use Rattle.std.proofs.lemmas.Bool.{le-leb, le-ltb, lt-ltb}
use Rattle.std.proofs.lemmas.Bool.Decides.{eqb_tells}
use Rattle.std.proofs.lemmas.List.{map_more}
use Rattle.std.proofs.lemmas.List.Concat.{flat_map-append}
use Rattle.std.proofs.lemmas.List.Folds.{list_all-append}
use Rattle.std.proofs.lemmas.List.FromFn.{length-map-range_with_len}
use Rattle.point_core.specs.declared.limits.TheConstants.{BUFFERS}
use Rattle.point_core.specs.declared.entry.Entry.{Entry}
use Rattle.resv_core.specs.declared.plan.Act.{Act}
use Rattle.resv_core.specs.declared.plan.Act.TheVariants.{Inc, Put, Look}
use Rattle.resv_core.specs.Rounds.{in_round, round_of, rounds_of}
use Rattle.resv_core.specs.Settled.{increments_of, put_by, puts_of, values_of}
use Rattle.resv_core.proofs.RoundActs.{increments-rounds, length-rounds, rounds_of-more}
use Rattle.clients_core.specs.declared.plans.TheConstants.{CLIENTS, ACTS}
use Rattle.clients_core.specs.declared.rounds.TheConstants.{ROUNDS, ROUND_BUFFERS}
use Rattle.clients_core.specs.Plans.{is_within, are_within, are_clients, has_few_acts, never_wraps, cause_to_refuse_plans}
use Rattle.clients_core.specs.Rounds.{client_round, client_rounds, next_client, plans_of_rounds}

-- each round is within where the acts are
within-act : (contexts buffers number : ℕ) (act : Act) → is_within contexts buffers (in_round number act) ≡ is_within contexts buffers act
within-act contexts buffers number (Inc n) = refl
within-act contexts buffers number (Put into point usage) = refl
within-act contexts buffers number (Look into usage) = refl

within-round : (contexts buffers : ℕ) (acts : List Act) (number : ℕ) → list_all (is_within contexts buffers) (round_of acts number) ≡ list_all (is_within contexts buffers) acts
within-round contexts buffers [] number = refl
within-round contexts buffers (act ∷ acts) number = rw (within-act contexts buffers number act, within-round contexts buffers acts number) refl

-- n + 1 rounds name existing contexts and buffers exactly if the acts do
within-rounds : (contexts buffers : ℕ) (acts : List Act) (a n : ℕ) → list_all (is_within contexts buffers) (flat_map (round_of acts) (range_with_len a (suc n))) ≡ list_all (is_within contexts buffers) acts
within-rounds contexts buffers acts a zero =
    ap (list_all (is_within contexts buffers)) (append-nil (round_of acts a)) ∙ within-round contexts buffers acts a
within-rounds contexts buffers acts a (suc n) =
    list_all-append (is_within contexts buffers) (round_of acts a) (flat_map (round_of acts) (range_with_len (a + 1) (suc n)))
    ∙ rw (within-round contexts buffers acts a, within-rounds contexts buffers acts (a + 1) n) (twice (list_all (is_within contexts buffers) acts))
  where
    twice : (b : Bool) → (b && b) ≡ b
    twice true = refl
    twice false = refl

pub within-first : (contexts buffers : ℕ) (acts : List Act) (n : ℕ) → 0 < n → list_all (is_within contexts buffers) (rounds_of acts n) ≡ list_all (is_within contexts buffers) acts
within-first contexts buffers acts zero some = absurd (omega arith)
within-first contexts buffers acts (suc n) some = within-rounds contexts buffers acts 1 n

-- what one round more puts in
pub puts-more : (buffer : ℕ) (acts : List Act) (n : ℕ) → puts_of buffer (rounds_of acts (n + 1)) ≡ puts_of buffer (rounds_of acts n) ++ puts_of buffer (round_of acts (n + 1))
puts-more buffer acts n =
    ap (puts_of buffer) (rounds_of-more acts n)
    ∙ flat_map-append (put_by buffer) (rounds_of acts n) (round_of acts (n + 1))

-- what one act more of a round does
pub puts-round_more : (buffer : ℕ) (acts : List Act) (number i : ℕ) (act made : Act) → i < length acts → act ≡ get_or acts i act → made ≡ in_round number act → puts_of buffer (round_of (take (i + 1) acts) number) ≡ puts_of buffer (round_of (take i acts) number) ++ put_by buffer made
puts-round_more buffer acts number i act made low at is =
    let last : in_round number (get_or acts i act) ≡ made = ap (in_round number) (sym at) ∙ sym is in
    ap (puts_of buffer) (map_more (in_round number) acts i act low ∙ ap (λ (a : Act). round_of (take i acts) number ++ a ∷ []) last)
    ∙ flat_map-append (put_by buffer) (round_of (take i acts) number) (made ∷ [])
    ∙ ap (λ (es : List Entry). puts_of buffer (round_of (take i acts) number) ++ es) (append-nil (put_by buffer made))

-- the increments of n rounds add up to n times those of one round
pub increments-all : (acts : List Act) (n : ℕ) → increments_of (rounds_of acts n) ≡ increments_of acts * n
increments-all acts n = increments-rounds acts 1 n

-- a round that advances too far does so in all, where there are some
pub increments-past : (acts : List Act) (n : ℕ) → 0 < n → 2 ^ 64 ≤ increments_of acts → 2 ^ 64 ≤ increments_of (rounds_of acts n)
increments-past acts n some past =
    let all = increments-all acts n in
    let more : increments_of acts ≤ increments_of acts * n = le-mul_of_pos_right (increments_of acts) some in
    omega (arith, all, more, past)

-- a product that was found to fit, or not to
pub product-fits : (found : Option ℕ) (product all : ℕ) → product ≡ all → SomeIff found (product < 2 ^ 64) product → (IsSome found → all < 2 ^ 64) × (all < 2 ^ 64 → IsSome found)
product-fits None product all same h = ((λ some. absurd (true≢false (sym some))), (λ low. absurd (h (omega (arith, low, same)))))
product-fits (Some x) product all same h = ((λ some. let fits = h.0 in omega (arith, fits, same)), (λ low. refl))

pub product-is : (found : Option ℕ) (product all : ℕ) → product ≡ all → SomeIff found (product < 2 ^ 64) product → IfSome found (λ (total : ℕ). total ≡ all)
product-is None product all same h = tt
product-is (Some x) product all same h = h.1 ∙ same

-- the acts of clients in rounds

rounds-within : (clients client next n : ℕ) → client ≤ clients → next ≤ clients → list_all (is_within clients ROUND_BUFFERS) (rounds_of (client_round client next) n) ≡ true
rounds-within clients client next zero own other = refl
rounds-within clients client next (suc n) own other =
    within-first clients ROUND_BUFFERS (client_round client next) (suc n) (omega arith)
    ∙ rw (le-leb client clients own, le-leb next clients other) refl

increments-client : (client next rounds : ℕ) → increments_of (rounds_of (client_round client next) rounds) ≡ rounds
increments-client client next rounds =
    let all = increments-all (client_round client next) rounds in
    let here : increments_of (client_round client next) ≡ 1 = refl in
    all ∙ ap (λ (k : ℕ). k * rounds) here ∙ one-mul rounds

length-client : (client next rounds : ℕ) → length (rounds_of (client_round client next) rounds) ≡ 4 * rounds
length-client client next rounds = length-rounds (client_round client next) 1 rounds

-- what holds of each client's plan holds of all
all-clients : (p : List Act → Bool) (f : ℕ → List Act) (a n : ℕ) → ((i : ℕ) → a ≤ i → i < a + n → p (f i) ≡ true) → list_all p (map f (range_with_len a n)) ≡ true
all-clients p f a zero each = refl
all-clients p f a (suc n) each = rw (each a (omega arith) (omega arith), all-clients p f (a + 1) n (λ i low high. each i (omega arith) (omega arith))) refl

next_client-within : (clients client : ℕ) → 1 ≤ client → client ≤ clients → next_client clients client ≤ clients
next_client-within clients client low high = elim (eqb_tells client clients) [
  | inl same ↦ rw same.0 (omega arith)
  | inr other ↦ rw other.0 (omega (arith, other.1))
]

map-constant : (g : List Act → ℕ) (f : ℕ → List Act) (v a n : ℕ) → ((i : ℕ) → g (f i) ≡ v) → map g (map f (range_with_len a n)) ≡ replicate n v
map-constant g f v a zero each = refl
map-constant g f v a (suc n) each = rw (each a, map-constant g f v (a + 1) n each) refl

-- each timeline ends at the number of rounds
pub values-rounds : (clients rounds : ℕ) → values_of (plans_of_rounds clients rounds) ≡ replicate clients rounds
values-rounds clients rounds = map-constant increments_of (client_rounds clients rounds) rounds 1 clients (λ client. increments-client client (next_client clients client) rounds)

no_cause : (buffers : ℕ) (plans : List (List Act)) → are_within (length plans) buffers plans ≡ true → are_clients (length plans) ≡ true → nat_lt BUFFERS buffers ≡ false → list_all has_few_acts plans ≡ true → list_all never_wraps plans ≡ true → cause_to_refuse_plans buffers plans ≡ None
no_cause buffers plans within clients few short fits = rw (within, clients, few, short, fits) refl

-- none of these plans is refused
pub accepted-rounds : (clients rounds : ℕ) → (1 ≤ clients) × (clients ≤ CLIENTS) → rounds ≤ ROUNDS → cause_to_refuse_plans ROUND_BUFFERS (plans_of_rounds clients rounds) ≡ None
accepted-rounds clients rounds some few =
    let plan : ℕ → List Act = client_rounds clients rounds in
    let count : length (plans_of_rounds clients rounds) ≡ clients = length-map-range_with_len plan 1 clients in
    no_cause ROUND_BUFFERS (plans_of_rounds clients rounds)
    (rw count (all-clients (λ acts. list_all (is_within clients ROUND_BUFFERS) acts) plan 1 clients (λ i low high. rounds-within clients i (next_client clients i) rounds (omega arith) (next_client-within clients i low (omega arith)))))
    (rw count (rw (le-leb 1 clients some.0, le-leb clients CLIENTS some.1) refl))
    (le-ltb BUFFERS ROUND_BUFFERS (omega arith))
    (all-clients has_few_acts plan 1 clients (λ i low high. le-leb (length (plan i)) ACTS (rw (length-client i (next_client clients i) rounds) (omega arith))))
    (all-clients never_wraps plan 1 clients (λ i low high. lt-ltb (increments_of (plan i)) (2 ^ 64) (rw (increments-client i (next_client clients i) rounds) (omega arith))))
