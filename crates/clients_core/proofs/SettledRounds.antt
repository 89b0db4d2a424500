-- What clients of rounds settle, as rows.
use Rattle.std.proofs.Common.{◌≡◌, ℕ, zero, suc, ◌+◌, ◌-◌, ◌*◌, ◌<◌, ◌≤◌, List, [], ◌∷◌, ◌++◌, map, replicate, None, refl, ap, ◌∙◌, arith}
use Rattle.std.specs.List.{range_with_len, flat_map}
use Rattle.std.proofs.lemmas.Bool.{le-leb, lt-leb, eq-eqb, ne_eqb}
use Rattle.std.proofs.lemmas.List.{get_or-replicate}
use Rattle.std.proofs.lemmas.List.Elements.{All-nil, All-cons, Contains-push}
use Rattle.std.proofs.lemmas.List.Folds.{flat_map-map}
use Rattle.std.proofs.lemmas.List.FromFn.{get_or-map-range_with_len, length-map-range_with_len, map-range_with_len_more}
use Rattle.point_core.specs.declared.context.TheConstants.{CONTEXTS}
use Rattle.point_core.specs.declared.entry.Point.{Point}
use Rattle.point_core.specs.declared.entry.Entry.{Entry}
use Rattle.point_core.specs.declared.entry.Usage.{Usage}
use Rattle.point_core.specs.declared.entry.Usage.TheVariants.{Kernel, Write, Read, Bookkeep}
use Rattle.point_core.specs.Agreement.{top, pending, point_of, as_entries, AgreesAbove, AllAbove, HasContexts, HasRisingContexts}
use Rattle.point_core.specs.Reach.{value_at}
use Rattle.point_core.specs.Usage.{usage_number}
use Rattle.point_core.proofs.Agreement.{AgreesAbove-append, AgreesAbove-comm, AgreesAbove-covered, AgreesAbove-refl, AgreesAbove-same, AgreesAbove-trans, listing-nil, listing-same}
use Rattle.point_core.proofs.Canonical.{listing-itself}
use Rattle.resv_core.specs.declared.plan.Act.{Act}
use Rattle.resv_core.specs.Resv.{entry_of, row_of, rows_at, rows_of}
use Rattle.resv_core.specs.Rounds.{round_of}
use Rattle.resv_core.specs.Settled.{puts_of, all_puts}
use Rattle.resv_core.proofs.Runs.{rows_of-AgreesAbove}
use Rattle.clients_core.specs.declared.rounds.TheConstants.{ROUND_BUFFERS}
use Rattle.clients_core.specs.Plans.{settled_of}
use Rattle.clients_core.specs.Rounds.{client_round, client_rounds, next_client, plans_of_rounds, rows_of_clients, settled_of_rounds}
use Rattle.clients_core.proofs.PlansOfRounds.{values-rounds}

-- what the rounds of a client put on a timeline
abbrev pub fences : Usage → ℕ → (ℕ → ℕ) → ℕ → ℕ → List Entry
fences usage ctx value a n = map (λ round. entry_of (point_of ctx (value round)) usage) (range_with_len a n)

puts-written : (client next a n : ℕ) → puts_of 0 (flat_map (round_of (client_round client next)) (range_with_len a n)) ≡ fences Write client (λ round. 2 * round) a n
puts-written client next a zero = refl
puts-written client next a (suc n) = ap (λ es. entry_of (point_of client (2 * a)) Write ∷ es) (puts-written client next (a + 1) n)

puts-read : (client next a n : ℕ) → puts_of 1 (flat_map (round_of (client_round client next)) (range_with_len a n)) ≡ fences Read next (λ round. 3 * round) a n
puts-read client next a zero = refl
puts-read client next a (suc n) = ap (λ es. entry_of (point_of next (3 * a)) Read ∷ es) (puts-read client next (a + 1) n)

rising : (value : ℕ → ℕ) → ((r : ℕ) → value r ≤ value (r + 1)) → (a n : ℕ) → value a ≤ value (a + n)
rising value more a zero = let same : value a ≡ value (a + 0) = ap value (omega arith) in omega arith
rising value more a (suc n) =
    let before = rising value more a n in
    let last = more (a + n) in
    let same : value (a + n + 1) ≡ value (a + suc n) = ap value (omega arith) in
    omega arith

-- the last of them says all
last-fence : (reach : List ℕ) (usage : Usage) (ctx : ℕ) (value : ℕ → ℕ) → ((r : ℕ) → value r ≤ value (r + 1)) → (a n : ℕ) → AgreesAbove reach (fences usage ctx value a (suc n)) (entry_of (point_of ctx (value (a + n))) usage ∷ [])
last-fence reach usage ctx value more a zero = AgreesAbove-same reach (ap (λ (r : ℕ). entry_of (point_of ctx (value r)) usage ∷ []) (omega arith))
last-fence reach usage ctx value more a (suc n) =
    let first : Entry = entry_of (point_of ctx (value a)) usage in
    let last : Entry = entry_of (point_of ctx (value (a + 1 + n))) usage in
    let later : value a ≤ value (a + 1 + n) = (
    let up = rising value more a (suc n) in
    let same : value (a + suc n) ≡ value (a + 1 + n) = ap value (omega arith) in
    omega arith
    ) in
    AgreesAbove-trans (AgreesAbove-append (AgreesAbove-refl reach (first ∷ [])) (last-fence reach usage ctx value more (a + 1) n))
    (AgreesAbove-trans (AgreesAbove-covered reach last first (last ∷ []) (Contains-push [] last) (refl, omega arith, later))
    (AgreesAbove-same reach (ap (λ (r : ℕ). entry_of (point_of ctx (value r)) usage ∷ []) (omega arith))))

each-client : (reach : List ℕ) (f : ℕ → List Entry) (g : ℕ → Entry) (a n : ℕ) → ((c : ℕ) → AgreesAbove reach (f c) (g c ∷ [])) → AgreesAbove reach (flat_map f (range_with_len a n)) (map g (range_with_len a n))
each-client reach f g a zero each = AgreesAbove-refl reach []
each-client reach f g a (suc n) each = AgreesAbove-append (each a) (each-client reach f g (a + 1) n each)

shifted : (h g : ℕ → Entry) (a n : ℕ) → ((c : ℕ) → a ≤ c → c < a + n → h c ≡ g (c + 1)) → map h (range_with_len a n) ≡ map g (range_with_len (a + 1) n)
shifted h g a zero same = refl
shifted h g a (suc n) same =
    ap (λ e. e ∷ map h (range_with_len (a + 1) n)) (same a (omega arith) (omega arith))
    ∙ ap (λ es. g (a + 1) ∷ es) (shifted h g (a + 1) n (λ c low high. same c (omega arith) (omega arith)))

-- each client is next to one
all-next : (reach : List ℕ) (g : ℕ → Entry) (m : ℕ) → AgreesAbove reach (map (λ c. g (next_client (suc m) c)) (range_with_len 1 (suc m))) (map g (range_with_len 1 (suc m)))
all-next reach g m =
    let h : ℕ → Entry = λ c. g (next_client (suc m) c) in
    let more : suc m ≡ m + 1 = omega arith in
    let front = shifted h g 1 m (λ c low high. rw (ne_eqb c (suc m) (λ bad. absurd (omega arith))) refl) in
    let last : h (suc m) ≡ g 1 = rw (eq-eqb (suc m) (suc m) refl) refl in
    let whole : map h (range_with_len 1 (suc m)) ≡ map g (range_with_len 2 m) ++ g 1 ∷ [] =
    ap (λ (k : ℕ). map h (range_with_len 1 k)) more
    ∙ map-range_with_len_more h 1 m (suc m) (omega arith)
    ∙ ap (λ (e : Entry). map h (range_with_len 1 m) ++ e ∷ []) last
    ∙ ap (λ (es : List Entry). es ++ g 1 ∷ []) front in
    AgreesAbove-trans (AgreesAbove-same reach whole) (AgreesAbove-comm reach (map g (range_with_len 2 m)) (g 1 ∷ []))

-- a point of each client
abbrev pub points : ℕ → ℕ → ℕ → List Point
points point a n = map (λ client. point_of client point) (range_with_len a n)

abbrev pub entries : Usage → ℕ → ℕ → ℕ → List Entry
entries usage point a n = map (λ client. entry_of (point_of client point) usage) (range_with_len a n)

tops-strong : (usage : Usage) (point level ctx a n : ℕ) → usage_number usage ≤ level → top (entries usage point a n) level ctx ≡ top (as_entries (points point a n)) 0 ctx
tops-strong usage point level ctx a zero strong = refl
tops-strong usage point level ctx a (suc n) strong = rw (le-leb (usage_number usage) level strong, tops-strong usage point level ctx (a + 1) n strong) refl

tops-weak : (usage : Usage) (point level ctx a n : ℕ) → level < usage_number usage → top (entries usage point a n) level ctx ≡ None
tops-weak usage point level ctx a zero weak = refl
tops-weak usage point level ctx a (suc n) weak = rw (lt-leb (usage_number usage) level weak) (tops-weak usage point level ctx (a + 1) n weak)

contexts-points : (point a n : ℕ) → map (λ (p : Point). p.ctx) (points point a n) ≡ map (λ (c : ℕ). c) (range_with_len a n)
contexts-points point a zero = refl
contexts-points point a (suc n) = ap (λ cs. a ∷ cs) (contexts-points point (a + 1) n)

rising-points : (point n : ℕ) → HasRisingContexts (points point 1 n)
rising-points point n = rw (contexts-points point 1 n) (λ k low.
    let few : k + 1 < n = rw length-map-range_with_len at low in
    let here = get_or-map-range_with_len (λ (c : ℕ). c) 1 n k (1 + k) 0 (omega arith) refl in
    let next = get_or-map-range_with_len (λ (c : ℕ). c) 1 n (k + 1) (1 + k + 1) 0 few (omega arith) in
    omega arith)

within-points : (point a n : ℕ) → 1 ≤ a → a + n ≤ CONTEXTS + 1 → HasContexts (as_entries (points point a n))
within-points point a zero low high = All-nil (λ (e : Entry). (1 ≤ e.point.ctx) × (e.point.ctx ≤ CONTEXTS))
within-points point a (suc n) low high = All-cons (λ (e : Entry). (1 ≤ e.point.ctx) × (e.point.ctx ≤ CONTEXTS)) _ _ (low, omega arith) (within-points point (a + 1) n (omega arith) (omega arith))

above-points : (clients value point a n : ℕ) → value < point → 1 ≤ a → a + n ≤ clients + 1 → AllAbove (replicate clients value) (points point a n)
above-points clients value point a zero above low high = All-nil (λ (p : Point). value_at (replicate clients value) p.ctx < p.value)
above-points clients value point a (suc n) above low high =
    let is : value_at (replicate clients value) a ≡ value = get_or-replicate clients (a - 1) value 0 (omega arith) in
    All-cons (λ (p : Point). value_at (replicate clients value) p.ctx < p.value) _ _ (omega arith) (above-points clients value point (a + 1) n above (omega arith) (omega arith))

rows-points : (point : ℕ) (usage : Usage) (a n : ℕ) → map (row_of usage) (points point a n) ≡ map (λ client. record { usage = usage; ctx = client; point = point }) (range_with_len a n)
rows-points point usage a zero = refl
rows-points point usage a (suc n) = ap (λ rows. record { usage = usage; ctx = a; point = point } ∷ rows) (rows-points point usage (a + 1) n)

rows-strong : (clients value point : ℕ) (usage level : Usage) → clients ≤ CONTEXTS → value < point → usage_number usage ≤ usage_number level → rows_at (entries usage point 1 clients) (replicate clients value) level ≡ rows_of_clients clients point level
rows-strong clients value point usage level few above strong =
    let reach = replicate clients value in
    let same = listing-same (entries usage point 1 clients) (as_entries (points point 1 clients)) (usage_number level) 0 reach reach (λ ctx low high. ap (pending (value_at reach ctx)) (tops-strong usage point (usage_number level) ctx 1 clients strong)) in
    let whole = listing-itself reach (points point 1 clients) (rising-points point clients) (within-points point 1 clients (omega arith) (omega arith)) (above-points clients value point 1 clients above (omega arith) (omega arith)) in
    ap (map (row_of level)) (same ∙ whole) ∙ rows-points point level 1 clients

rows-weak : (clients value point : ℕ) (usage level : Usage) → usage_number level < usage_number usage → rows_at (entries usage point 1 clients) (replicate clients value) level ≡ []
rows-weak clients value point usage level weak =
    let reach = replicate clients value in
    let same = listing-same (entries usage point 1 clients) [] (usage_number level) 0 reach reach (λ ctx low high. ap (pending (value_at reach ctx)) (tops-weak usage point (usage_number level) ctx 1 clients weak)) in
    ap (map (row_of level)) (same ∙ listing-nil 0 reach)

-- the buffer that is written
rows-written : (clients rounds : ℕ) → clients ≤ CONTEXTS → 1 ≤ rounds → rows_of (all_puts 0 (plans_of_rounds clients rounds)) (replicate clients rounds) ≡ flat_map (rows_of_clients clients (2 * rounds)) (Write ∷ Read ∷ Bookkeep ∷ [])
rows-written clients zero few some = absurd (omega arith)
rows-written clients (suc n) few some =
    let rounds : ℕ = suc n in
    let reach = replicate clients rounds in
    let plan : ℕ → List Act = client_rounds clients rounds in
    let last : ℕ → Entry = λ client. entry_of (point_of client (2 * rounds)) Write in
    let each : (c : ℕ) → AgreesAbove reach (puts_of 0 (plan c)) (last c ∷ []) = λ c.
    AgreesAbove-trans (AgreesAbove-same reach (puts-written c (next_client clients c) 1 rounds))
    (AgreesAbove-trans (last-fence reach Write c (λ round. 2 * round) (λ r. omega arith) 1 n)
    (AgreesAbove-same reach (ap (λ (v : ℕ). entry_of (point_of c v) Write ∷ []) (omega arith)))) in
    let whole : AgreesAbove reach (all_puts 0 (plans_of_rounds clients rounds)) (entries Write (2 * rounds) 1 clients) =
    AgreesAbove-trans (AgreesAbove-same reach (flat_map-map (puts_of 0) plan (range_with_len 1 clients))) (each-client reach (λ c. puts_of 0 (plan c)) last 1 clients each) in
    rows_of-AgreesAbove whole
    ∙ rw (
      rows-weak clients rounds (2 * rounds) Write Kernel (omega arith),
      rows-strong clients rounds (2 * rounds) Write Write few (omega arith) (omega arith),
      rows-strong clients rounds (2 * rounds) Write Read few (omega arith) (omega arith),
      rows-strong clients rounds (2 * rounds) Write Bookkeep few (omega arith) (omega arith),
    ) refl

-- the buffer that is read
rows-read : (clients rounds : ℕ) → 1 ≤ clients → clients ≤ CONTEXTS → 1 ≤ rounds → rows_of (all_puts 1 (plans_of_rounds clients rounds)) (replicate clients rounds) ≡ flat_map (rows_of_clients clients (3 * rounds)) (Read ∷ Bookkeep ∷ [])
rows-read zero rounds any few some = absurd (omega arith)
rows-read (suc m) zero any few some = absurd (omega arith)
rows-read (suc m) (suc n) any few some =
    let clients : ℕ = suc m in
    let rounds : ℕ = suc n in
    let reach = replicate clients rounds in
    let plan : ℕ → List Act = client_rounds clients rounds in
    let last : ℕ → Entry = λ client. entry_of (point_of client (3 * rounds)) Read in
    let each : (c : ℕ) → AgreesAbove reach (puts_of 1 (plan c)) (last (next_client clients c) ∷ []) = λ c.
    AgreesAbove-trans (AgreesAbove-same reach (puts-read c (next_client clients c) 1 rounds))
    (AgreesAbove-trans (last-fence reach Read (next_client clients c) (λ round. 3 * round) (λ r. omega arith) 1 n)
    (AgreesAbove-same reach (ap (λ (v : ℕ). entry_of (point_of (next_client clients c) v) Read ∷ []) (omega arith)))) in
    let whole : AgreesAbove reach (all_puts 1 (plans_of_rounds clients rounds)) (entries Read (3 * rounds) 1 clients) =
    AgreesAbove-trans (AgreesAbove-same reach (flat_map-map (puts_of 1) plan (range_with_len 1 clients)))
    (AgreesAbove-trans (each-client reach (λ c. puts_of 1 (plan c)) (λ c. last (next_client clients c)) 1 clients each)
    (all-next reach last m)) in
    rows_of-AgreesAbove whole
    ∙ rw (
      rows-weak clients rounds (3 * rounds) Read Kernel (omega arith),
      rows-weak clients rounds (3 * rounds) Read Write (omega arith),
      rows-strong clients rounds (3 * rounds) Read Read few (omega arith) (omega arith),
      rows-strong clients rounds (3 * rounds) Read Bookkeep few (omega arith) (omega arith),
    ) refl

-- both buffers, and the values
pub settled-rounds : (clients rounds : ℕ) → 1 ≤ clients → clients ≤ CONTEXTS → 1 ≤ rounds → settled_of ROUND_BUFFERS (plans_of_rounds clients rounds) ≡ settled_of_rounds clients rounds
settled-rounds clients rounds any few some = rw (values-rounds clients rounds, rows-written clients rounds few some, rows-read clients rounds any few some) refl
