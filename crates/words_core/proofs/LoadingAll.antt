-- One load after another.
use Rattle.std.proofs.Common.{◌≡◌, ◌≢◌, ℕ, zero, suc, ◌+◌, ◌-◌, ◌<◌, ◌≤◌, max, nat_lt, Bool, true, false, cond, List, [], ◌∷◌, ◌++◌, length, get_or, set, map, replicate, refl, sym, ap, ◌∙◌, subst, inl, inr, arith}
use Rattle.std.specs.List.{range_with_len}
use Rattle.std.proofs.lemmas.Bool.{le-leb, lt-leb, lt-ltb, ne_eqb, cases_lt}
use Rattle.std.proofs.lemmas.Bool.Decides.{nat_tests}
use Rattle.std.proofs.lemmas.List.{append-nil, append_assoc, length-set, length-replicate, get_or_past, get_or-set_same, get_or-set_other, ext_get_or}
use Rattle.std.proofs.lemmas.List.FromFn.{length-map-range_with_len, get_or-map-range_with_len}
use mathlib.Core.List.{map-map}
use mathlib.Core.Logic.{dite}
use native.Mathlib.Decide.{ℕ_discrete}
use Rattle.point_core.specs.declared.clocks.Clock.{Clock}
use Rattle.point_core.specs.declared.context.TheConstants.{CONTEXTS}
use Rattle.point_core.specs.Agreement.{contexts}
use Rattle.point_core.specs.Clocks.{clock_of, clock_at, with_clock, raised_clock, closed_clock, open_clock, new_clock, reached_by, reach_of_clocks}
use Rattle.point_core.specs.Reach.{value_at, with_value, IsAtLeast}
use Rattle.point_core.proofs.Values.{IsAtLeast-below}
use Rattle.words_core.specs.declared.trace.Step.{Step}
use Rattle.words_core.specs.theorem.Layout.{value_word, mark_word}
use Rattle.words_core.specs.theorem.Trace.{load, on, greatest}
use Rattle.words_core.specs.theorem.Words.{WordsModel}
use Rattle.words_core.specs.theorem.Seat.{SeatModel, seen, with_steps}
use Rattle.words_core.specs.theorem.Loads.{clock_marked, clock_seen, known_clock, clocks_seen, value_seen, reach_seen, loads_at, loads_of, KeepsClosing, HasLoadedAll, HasLoadedClocks}
use Rattle.words_core.proofs.Traces.{on-append_other}
use Rattle.words_core.proofs.Seen.{seen-with_steps, seen_stays}

-- the loads of one context don't affect the others

max_zero : (n : ℕ) → max n 0 ≡ n
max_zero n = grind arith

zero_max : (n : ℕ) → max 0 n ≡ n
zero_max n = grind arith

seen_unloaded : (seat : SeatModel) (w : ℕ) (steps : List Step) → on w steps ≡ [] → seen (with_steps seat steps) w ≡ seen seat w
seen_unloaded seat w steps none = seen-with_steps seat w steps ∙ ap (λ (l : List Step). max (seen seat w) (greatest l)) none ∙ max_zero (seen seat w)

loads_at_other : (ctx w : ℕ) (clock : Clock) → mark_word ctx ≢ w → value_word ctx ≢ w → on w (loads_at ctx clock) ≡ []
loads_at_other ctx w clock m n =
    elim clock.closed as (λ b. on w (cond b (load (mark_word ctx) (clock.value + 1) ∷ []) (load (mark_word ctx) 0 ∷ load (value_word ctx) clock.value ∷ [])) ≡ []) [
      | true ↦ on-append_other w [] (load (mark_word ctx) (clock.value + 1)) m
      | false ↦ on-append_other w (load (mark_word ctx) 0 ∷ []) (load (value_word ctx) clock.value) n ∙ on-append_other w [] (load (mark_word ctx) 0) m
    ]

clock_seen-other : (seat : SeatModel) (ctx c : ℕ) (clock : Clock) → 1 ≤ ctx → 1 ≤ c → c ≢ ctx → clock_seen (with_steps seat (loads_at ctx clock)) c ≡ clock_seen seat c
clock_seen-other seat ctx c clock low low' other =
    let steps : List Step = loads_at ctx clock in
    let mark = seen_unloaded seat (mark_word c) steps (loads_at_other ctx (mark_word c) clock (λ bad. other (omega arith)) (λ bad. absurd (omega arith))) in
    let value = seen_unloaded seat (value_word c) steps (loads_at_other ctx (value_word c) clock (λ bad. absurd (omega arith)) (λ bad. other (omega arith))) in
    λ i. clock_marked (mark i) (value i)

-- what a seat has seen of a context's clock, by its mark and its value

pub clock_marked-closed : (m v : ℕ) → 0 < m → clock_marked m v ≡ clock_of (m - 1) true
clock_marked-closed m v set = ap (λ (b : Bool). cond b (open_clock v) (clock_of (m - 1) true)) (ne_eqb m 0 (λ bad. absurd (omega arith)))

-- a mark above 0 is a closed context's
pub clock_marked_test : (m v : ℕ) → nat_lt 0 m ≡ (clock_marked m v).closed
clock_marked_test m v = dite (ℕ_discrete m 0)
    (λ e. subst (λ (k : ℕ). nat_lt 0 k ≡ (clock_marked k v).closed) (sym e) refl)
    (λ ne. let set : 0 < m = omega arith in lt-ltb 0 m set ∙ sym (ap (λ (k : Clock). k.closed) (clock_marked-closed m v set)))

pub marked_if_closed : (m v : ℕ) → (clock_marked m v).closed ≡ true → 0 < m
marked_if_closed m v closed = let b : nat_lt 0 m ≡ true = clock_marked_test m v ∙ closed in grind (arith, nat_tests)

-- a closed context's clock doesn't depend on the value that was seen
pub clock_marked_stays : (m n u v : ℕ) → m ≡ n → (clock_marked n u).closed ≡ true → clock_marked m v ≡ clock_marked n u
clock_marked_stays m n u v same closed =
    let set = marked_if_closed n u closed in
    ap (λ (k : ℕ). clock_marked k v) same ∙ clock_marked-closed n v set ∙ sym (clock_marked-closed n u set)

-- a step on the value doesn't change what is seen of the mark
pub seen_mark-loaded : (seat : SeatModel) (ctx v : ℕ) → seen (with_steps seat (load (value_word ctx) v ∷ [])) (mark_word ctx) ≡ seen seat (mark_word ctx)
seen_mark-loaded seat ctx v = seen_unloaded seat (mark_word ctx) (load (value_word ctx) v ∷ []) (on-append_other (mark_word ctx) [] (load (value_word ctx) v) (λ bad. absurd (omega arith)))

-- the value that a seat has seen a context reach
abbrev pub reached_seen : SeatModel → ℕ → ℕ
reached_seen seat ctx = reached_by (clock_seen seat ctx)

pub clock_seen-kept : (seat after : SeatModel) (n ctx : ℕ) (clock : Clock) → ctx ≡ n + 1 → after ≡ with_steps seat (loads_at ctx clock) → (c : ℕ) → 1 ≤ c → c ≤ n → clock_seen after c ≡ clock_seen seat c
clock_seen-kept seat after n ctx clock is entered c low high = ap (λ (s : SeatModel). clock_seen s c) entered ∙ clock_seen-other seat ctx c clock (omega arith) low (λ bad. absurd (omega arith))

-- a value of 0 is raised to any value
pub raised_from_zero : (reach : List ℕ) (ctx value : ℕ) → value_at reach ctx ≡ 0 → with_value reach ctx (max (value_at reach ctx) value) ≡ with_value reach ctx value
raised_from_zero reach ctx value none = let e : max (value_at reach ctx) value ≡ value = omega arith in ap (with_value reach ctx) e

loads_of-same : (f g : ℕ → Clock) (n : ℕ) → ((ctx : ℕ) → 1 ≤ ctx → ctx ≤ n → f ctx ≡ g ctx) → loads_of f n ≡ loads_of g n
loads_of-same f g zero same = refl
loads_of-same f g (suc n) same = λ i. loads_of-same f g n (λ ctx low high. same ctx low (omega arith)) i ++ loads_at (suc n) (same (suc n) (omega arith) (omega arith) i)

-- the clocks of the first n contexts were loaded, and nothing else
pub record HasLoaded (first seat : SeatModel) (n : ℕ) : Type 0 where
  pub entered : seat ≡ with_steps first (loads_of (clock_seen seat) n)
  pub later : (c : ℕ) → 1 ≤ c → c ≤ n → reached_by (clock_seen first c) ≤ reached_by (clock_seen seat c)
  pub past : (c : ℕ) → n < c → clock_seen seat c ≡ clock_seen first c
  pub closings : (c : ℕ) → 1 ≤ c → c ≤ n → KeepsClosing first seat c

pub HasLoaded-none : (seat : SeatModel) → HasLoaded seat seat 0
HasLoaded-none seat = record {
  entered = ap (λ (steps : List Step). record seat { trace = steps }) (sym (append-nil seat.trace));
  later = λ c low high. absurd (omega arith);
  past = λ c low. refl;
  closings = λ c low high. absurd (omega arith);
}

-- a later seat that has seen the same clock of the context
KeepsClosing-later : (first seat after : SeatModel) (c : ℕ) → clock_seen after c ≡ clock_seen seat c → KeepsClosing first seat c → KeepsClosing first after c
KeepsClosing-later first seat after c same h = record {
  stays = λ closed. same ∙ h.stays closed;
  last = λ closed. subst (λ (k : Clock). seen first (value_word c) ≤ k.value) (sym same) (h.last (ap (λ (k : Clock). k.closed) (sym same) ∙ closed));
}

-- the clock of a context that had not been loaded yet
KeepsClosing-loaded : (first seat after : SeatModel) (ctx : ℕ) (clock : Clock) → clock_seen seat ctx ≡ clock_seen first ctx → seen first (value_word ctx) ≤ seen seat (value_word ctx) → clock ≡ clock_seen after ctx
    → ((clock_seen seat ctx).closed ≡ true → clock ≡ clock_seen seat ctx) → (clock.closed ≡ true → seen seat (value_word ctx) ≤ clock.value) → KeepsClosing first after ctx
KeepsClosing-loaded first seat after ctx clock unloaded more found stays last = record {
  stays = λ closed. sym found ∙ stays (ap (λ (k : Clock). k.closed) unloaded ∙ closed) ∙ unloaded;
  last = λ closed.
      let low : seen seat (value_word ctx) ≤ clock.value = last (ap (λ (k : Clock). k.closed) found ∙ closed) in
      let all : seen first (value_word ctx) ≤ clock.value = omega arith in
      subst (λ (k : Clock). seen first (value_word ctx) ≤ k.value) found all;
}

-- the effect of loading one clock
pub KeepsClosing-clock : (seat after : SeatModel) (ctx : ℕ) (clock : Clock) → clock ≡ clock_seen after ctx → (clock.closed ≡ true → seen seat (value_word ctx) ≤ clock.value) → ((clock_seen seat ctx).closed ≡ true → clock ≡ clock_seen seat ctx) → KeepsClosing seat after ctx
KeepsClosing-clock seat after ctx clock found last stays = KeepsClosing-loaded seat seat after ctx clock refl (omega arith) found stays last

-- the next context's clock was loaded
pub HasLoaded-more : (first seat after : SeatModel) (n ctx : ℕ) (clock : Clock) → ctx ≡ n + 1 → HasLoaded first seat n → after ≡ with_steps seat (loads_at ctx clock) → clock ≡ clock_seen after ctx
    → reached_by (clock_seen seat ctx) ≤ reached_by clock → (clock.closed ≡ true → seen seat (value_word ctx) ≤ clock.value) → ((clock_seen seat ctx).closed ≡ true → clock ≡ clock_seen seat ctx) → HasLoaded first after (n + 1)
HasLoaded-more first seat after n ctx clock is h entered found later last_value stays =
    let next : n + 1 ≡ suc n = omega arith in
    let others : (c : ℕ) → 1 ≤ c → c ≢ ctx → clock_seen after c ≡ clock_seen seat c = λ c low ne. ap (λ (s : SeatModel). clock_seen s c) entered ∙ clock_seen-other seat ctx c clock (omega arith) low ne in
    let before : loads_of (clock_seen seat) n ≡ loads_of (clock_seen after) n = loads_of-same (clock_seen seat) (clock_seen after) n (λ c low high. sym (others c low (λ bad. absurd (omega arith)))) in
    let last : loads_at ctx clock ≡ loads_at (suc n) (clock_seen after (suc n)) = ap (loads_at ctx) found ∙ ap (λ (c : ℕ). loads_at c (clock_seen after c)) (is ∙ next) in
    record {
      entered =
          entered
          ∙ ap (λ (s : SeatModel). with_steps s (loads_at ctx clock)) h.entered
          ∙ ap (λ (steps : List Step). record first { trace = steps }) (append_assoc first.trace (loads_of (clock_seen seat) n) (loads_at ctx clock))
          ∙ (λ i. with_steps first (before i ++ last i))
          ∙ ap (λ (k : ℕ). with_steps first (loads_of (clock_seen after) k)) (sym next);
      later = λ c low high. dite (ℕ_discrete c ctx)
          (λ same.
          let unloaded : clock_seen seat ctx ≡ clock_seen first ctx = h.past ctx (omega arith) in
          let a : reached_by (clock_seen first ctx) ≤ reached_by (clock_seen after ctx) = subst (λ (k : Clock). reached_by (clock_seen first ctx) ≤ reached_by k) found (subst (λ (k : Clock). reached_by k ≤ reached_by clock) unloaded later) in
          subst (λ (k : ℕ). reached_by (clock_seen first k) ≤ reached_by (clock_seen after k)) (sym same) a)
          (λ other. subst (λ (k : Clock). reached_by (clock_seen first c) ≤ reached_by k) (sym (others c low other)) (h.later c low (omega arith)));
      past = λ c low. others c (omega arith) (λ bad. absurd (omega arith)) ∙ h.past c (omega arith);
      closings = λ c low high. dite (ℕ_discrete c ctx)
          (λ same.
          let more : seen first (value_word ctx) ≤ seen seat (value_word ctx) = subst (λ (s : SeatModel). seen first (value_word ctx) ≤ seen s (value_word ctx)) (sym h.entered) (seen_stays first (value_word ctx) (loads_of (clock_seen seat) n)) in
          subst (KeepsClosing first after) (sym same) (KeepsClosing-loaded first seat after ctx clock (h.past ctx (omega arith)) more found stays last_value))
          (λ other. KeepsClosing-later first seat after c (others c low other) (h.closings c low (omega arith)));
    }

-- a list has f of the first n contexts, and d of the others
pub record HasFound {A : Type 0} (f : ℕ → A) (d : A) (n : ℕ) (xs : List A) : Type 0 where
  pub here : (c : ℕ) → 1 ≤ c → c ≤ n → get_or xs (c - 1) d ≡ f c
  pub past : (c : ℕ) → n < c → get_or xs (c - 1) d ≡ d
  pub full : length xs ≡ CONTEXTS

get_or-replicate : {A : Type 0} (n k : ℕ) (d : A) → get_or (replicate n d) k d ≡ d
get_or-replicate zero k d = refl
get_or-replicate (suc n) zero d = refl
get_or-replicate (suc n) (suc k) d = get_or-replicate n k d

pub HasFound-none : {A : Type 0} (f : ℕ → A) (d : A) → HasFound f d 0 (replicate CONTEXTS d)
HasFound-none {A} f d = record {
  here = λ c low high. absurd (omega arith);
  past = λ c low. get_or-replicate CONTEXTS (c - 1) d;
  full = length-replicate {A = A} CONTEXTS d;
}

set_twice : {A : Type 0} (xs : List A) (i : ℕ) (x y : A) → set (set xs i x) i y ≡ set xs i y
set_twice [] i x y = refl
set_twice (a ∷ xs) zero x y = refl
set_twice (a ∷ xs) (suc i) x y = ap (λ l. a ∷ l) (set_twice xs i x y)

-- a new clock is raised, and then closed
pub put_closed : (clocks raised : List Clock) (ctx : ℕ) (clock : Clock) → clock_at clocks ctx ≡ new_clock → raised ≡ with_clock clocks ctx (raised_clock (clock_at clocks ctx) clock.value) → 1 ≤ ctx → ctx ≤ length clocks → clock.closed ≡ true
    → with_clock raised ctx (closed_clock (clock_at raised ctx)) ≡ with_clock clocks ctx clock
put_closed clocks raised ctx clock new was low fits closed =
    let first : Clock = raised_clock (clock_at clocks ctx) clock.value in
    let is : first ≡ open_clock clock.value = ap (λ (k : Clock). raised_clock k clock.value) new ∙ ap open_clock (zero_max clock.value) in
    let there : clock_at raised ctx ≡ first = ap (λ (cs : List Clock). clock_at cs ctx) was ∙ get_or-set_same clocks (ctx - 1) first new_clock (omega arith) in
    let last : closed_clock (clock_at raised ctx) ≡ clock = ap closed_clock (there ∙ is) ∙ (λ i. clock_of clock.value (sym closed i)) in
    ap (λ (k : Clock). with_clock raised ctx k) last ∙ ap (λ (cs : List Clock). with_clock cs ctx clock) was ∙ set_twice clocks (ctx - 1) first clock

-- the next one was put into it
pub HasFound-more : {A : Type 0} (f g : ℕ → A) (d x : A) (n ctx : ℕ) (xs : List A) → ctx ≡ n + 1 → ctx ≤ CONTEXTS → HasFound f d n xs → ((c : ℕ) → 1 ≤ c → c ≤ n → g c ≡ f c) → x ≡ g ctx → HasFound g d (n + 1) (set xs (ctx - 1) x)
HasFound-more {A} f g d x n ctx xs is fits h same new = record {
  here = λ c low high. dite (ℕ_discrete c ctx)
      (λ e. ap (λ (k : ℕ). get_or (set xs (ctx - 1) x) (k - 1) d) e ∙ get_or-set_same xs (ctx - 1) x d (let full = h.full in omega arith) ∙ new ∙ ap g (sym e))
      (λ ne. get_or-set_other xs (ctx - 1) (c - 1) x d (λ bad. ne (omega arith)) ∙ h.here c low (omega arith) ∙ sym (same c low (omega arith)));
  past = λ c low. get_or-set_other xs (ctx - 1) (c - 1) x d (λ bad. absurd (omega arith)) ∙ h.past c (omega arith);
  full = length-set xs (ctx - 1) x ∙ h.full;
}

-- the known clocks of all contexts, as a list

module _ {A : Type 0} where
  map-contexts : (f : ℕ → A) (n : ℕ) → n ≡ CONTEXTS → map f (range_with_len 1 n) ≡ map f contexts
  unfolding contexts
  map-contexts f n is = ap (λ k. map f (range_with_len 1 k)) is

  pub length-contexts : (f : ℕ → A) (n : ℕ) → n ≡ CONTEXTS → length (map f contexts) ≡ n
  length-contexts f n is = ap length (sym (map-contexts f n is)) ∙ length-map-range_with_len f 1 n

  pub at-contexts : (f : ℕ → A) (d : A) (n k : ℕ) → n ≡ CONTEXTS → k < n → get_or (map f contexts) k d ≡ f (k + 1)
  at-contexts f d n k is low = ap (λ l. get_or l k d) (sym (map-contexts f n is)) ∙ get_or-map-range_with_len f 1 n k (k + 1) d low (omega arith)

  -- a list that has f of the contexts up to n, and d past them, which is what g says
  HasFound-all : (f g : ℕ → A) (d : A) (n : ℕ) (xs : List A) → HasFound f d n xs → ((c : ℕ) → 1 ≤ c → c ≤ n → g c ≡ f c) → ((c : ℕ) → n < c → g c ≡ d) → xs ≡ map g contexts
  HasFound-all f g d n xs h within past =
      ext_get_or d xs (map g contexts) (h.full ∙ sym (length-contexts g CONTEXTS refl))
      (λ k low.
      let back : k + 1 - 1 ≡ k = omega arith in
      let there : get_or xs k d ≡ get_or xs (k + 1 - 1) d = ap (λ (i : ℕ). get_or xs i d) (sym back) in
      let is : get_or xs (k + 1 - 1) d ≡ g (k + 1) = elim (cases_lt n (k + 1)) [
        | inl after ↦ h.past (k + 1) after ∙ sym (past (k + 1) after)
        | inr inside ↦ h.here (k + 1) (omega arith) inside ∙ sym (within (k + 1) (omega arith) inside)
      ] in
      there ∙ is ∙ sym (at-contexts g d CONTEXTS k refl (let full = h.full in omega arith)))

pub known_clock-within : (seat : SeatModel) (c : ℕ) → c ≤ seat.words.contexts → known_clock seat c ≡ clock_seen seat c
known_clock-within seat c le = rw (le-leb c seat.words.contexts le) refl

pub known_clock-past : (seat : SeatModel) (c : ℕ) → seat.words.contexts < c → known_clock seat c ≡ new_clock
known_clock-past seat c lt = rw (lt-leb c seat.words.contexts lt) refl

-- a context of the words, and a context past them
pub clock_at-seen : (seat : SeatModel) (c : ℕ) → 1 ≤ c → c ≤ seat.words.contexts → seat.words.contexts ≤ CONTEXTS → clock_at (clocks_seen seat) c ≡ clock_seen seat c
clock_at-seen seat c low high few =
    let back : c - 1 + 1 ≡ c = omega arith in
    at-contexts (known_clock seat) new_clock CONTEXTS (c - 1) refl (omega arith) ∙ ap (known_clock seat) back ∙ known_clock-within seat c high

pub clock_at-past : (seat : SeatModel) (c : ℕ) → seat.words.contexts < c → clock_at (clocks_seen seat) c ≡ new_clock
clock_at-past seat c past = elim (cases_lt (c - 1) CONTEXTS) [
  | inl within ↦
      let back : c - 1 + 1 ≡ c = omega arith in
      at-contexts (known_clock seat) new_clock CONTEXTS (c - 1) refl within ∙ ap (known_clock seat) back ∙ known_clock-past seat c past
  | inr beyond ↦ get_or_past (clocks_seen seat) (c - 1) new_clock (let l = length-contexts (known_clock seat) CONTEXTS refl in omega arith)
]

-- the reach of the clocks that a seat has seen
pub reach_seen-is : (seat : SeatModel) → reach_of_clocks (clocks_seen seat) ≡ reach_seen seat
reach_seen-is seat = map-map reached_by (known_clock seat) contexts

reach_seen-before : (before after : SeatModel) → after.words ≡ before.words → HasLoaded before after before.words.contexts → IsAtLeast (reach_seen after) (reach_seen before)
reach_seen-before before after own h =
    let count : after.words.contexts ≡ before.words.contexts = ap (λ (w : WordsModel). w.contexts) own in
    IsAtLeast-below (reach_seen after) (reach_seen before) CONTEXTS (let l = length-contexts (value_seen after) CONTEXTS refl in omega arith) (let l = length-contexts (value_seen before) CONTEXTS refl in omega arith)
    (λ k low.
    let a : get_or (reach_seen after) k 0 ≡ value_seen after (k + 1) = at-contexts (value_seen after) 0 CONTEXTS k refl low in
    let b : get_or (reach_seen before) k 0 ≡ value_seen before (k + 1) = at-contexts (value_seen before) 0 CONTEXTS k refl low in
    let le : value_seen before (k + 1) ≤ value_seen after (k + 1) = elim (cases_lt before.words.contexts (k + 1)) [
      | inl past ↦
          let p : value_seen before (k + 1) ≡ 0 = ap reached_by (known_clock-past before (k + 1) past) in omega arith
      | inr inside ↦
          let p : value_seen before (k + 1) ≡ reached_by (clock_seen before (k + 1)) = ap reached_by (known_clock-within before (k + 1) inside) in
          let q : value_seen after (k + 1) ≡ reached_by (clock_seen after (k + 1)) = ap reached_by (known_clock-within after (k + 1) (omega arith)) in
          let r = h.later (k + 1) (omega arith) inside in omega arith
    ] in omega arith)

pub HasLoadedAll-loaded : (before after : SeatModel) (n : ℕ) (reach : List ℕ) → n ≡ before.words.contexts → HasLoaded before after n → HasFound (reached_seen after) 0 n reach → HasLoadedAll before after reach
HasLoadedAll-loaded before after n reach all loaded found =
    let own : after.words ≡ before.words = ap (λ (s : SeatModel). s.words) loaded.entered in
    let count : after.words.contexts ≡ before.words.contexts = ap (λ (w : WordsModel). w.contexts) own in
    let is : reach ≡ reach_seen after = HasFound-all (reached_seen after) (value_seen after) 0 n reach found
    (λ c low high. ap reached_by (known_clock-within after c (omega arith))) (λ c past. ap reached_by (known_clock-past after c (omega arith))) in
    record {
      entered = subst (λ (k : ℕ). after ≡ with_steps before (loads_of (clock_seen after) k)) all loaded.entered;
      found = is;
      later = subst (λ (r : List ℕ). IsAtLeast r (reach_seen before)) (sym is) (reach_seen-before before after own (subst (HasLoaded before after) all loaded));
      closings = (subst (HasLoaded before after) all loaded).closings;
    }

-- after the load of each context, all are loaded
pub HasLoadedClocks-all : (before after : SeatModel) (n : ℕ) → n ≡ before.words.contexts → HasLoaded before after n → HasLoadedClocks before after (clocks_seen after)
HasLoadedClocks-all before after n all loaded =
    let own : after.words ≡ before.words = ap (λ (s : SeatModel). s.words) loaded.entered in
    let reach : reach_of_clocks (clocks_seen after) ≡ reach_seen after = reach_seen-is after in
    record {
      all = record {
        entered = subst (λ (k : ℕ). after ≡ with_steps before (loads_of (clock_seen after) k)) all loaded.entered;
        found = reach;
        later = subst (λ (r : List ℕ). IsAtLeast r (reach_seen before)) (sym reach) (reach_seen-before before after own (subst (HasLoaded before after) all loaded));
        closings = (subst (HasLoaded before after) all loaded).closings;
      };
      found = refl;
    }

pub HasLoadedClocks-loaded : (before after : SeatModel) (n : ℕ) (clocks : List Clock) → n ≡ before.words.contexts → HasLoaded before after n → HasFound (clock_seen after) new_clock n clocks → HasLoadedClocks before after clocks
HasLoadedClocks-loaded before after n clocks all loaded found =
    let own : after.words ≡ before.words = ap (λ (s : SeatModel). s.words) loaded.entered in
    let count : after.words.contexts ≡ before.words.contexts = ap (λ (w : WordsModel). w.contexts) own in
    let is : clocks ≡ clocks_seen after = HasFound-all (clock_seen after) (known_clock after) new_clock n clocks found
    (λ c low high. known_clock-within after c (omega arith)) (λ c past. known_clock-past after c (omega arith)) in
    subst (HasLoadedClocks before after) (sym is) (HasLoadedClocks-all before after n all loaded)
