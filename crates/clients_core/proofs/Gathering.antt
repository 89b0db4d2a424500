-- The values that a seat with all parts knows, as they are loaded one by one.
use Rattle.std.proofs.Common.{◌≡◌, ◌==◌, ℕ, zero, suc, ◌+◌, ◌-◌, ◌<◌, ◌≤◌, max, List, [], ◌∷◌, ◌++◌, map, length, inl, inr, refl, sym, ap, ◌∙◌, arith}
use mathlib.Core.Logic.{dite}
use native.Mathlib.Decide.{ℕ_discrete}
use Rattle.std.specs.List.{range_with_len}
use Rattle.std.proofs.lemmas.Bool.{cases_lt, cases_Bool}
use Rattle.std.proofs.lemmas.List.{append_assoc, append-nil, get_or_past}
use Rattle.std.proofs.lemmas.List.FromFn.{get_or-map-range_with_len, length-map-range_with_len, map-range_with_len_more}
use Rattle.point_core.specs.declared.entry.Entry.{Entry}
use Rattle.point_core.specs.declared.entry.Usage.{Usage}
use Rattle.point_core.specs.declared.entry.Usage.TheVariants.{Kernel, Write, Read, Bookkeep}
use Rattle.point_core.specs.Usage.{usage_number}
use Rattle.point_core.specs.Reach.{value_at, with_value}
use Rattle.point_core.specs.Agreement.{top, pending}
use Rattle.point_core.proofs.Agreement.{listing-same}
use Rattle.point_core.proofs.Values.{value_at-with_value_same, value_at-with_value_other}
use Rattle.resv_core.specs.Resv.{row_of, rows_at, rows_of}
use Rattle.resv_core.specs.declared.plan.Act.{Act}
use Rattle.resv_core.specs.Settled.{all_puts, tables_of}
use Rattle.resv_core.specs.Shared.{HasClosedNone}
use Rattle.words_core.specs.declared.trace.Step.{Step}
use Rattle.words_core.specs.theorem.Layout.{mark_word, value_word}
use Rattle.words_core.specs.theorem.Trace.{load, on, added, raised, amount_of, is_shut, shuts_of, total}
use Rattle.words_core.specs.theorem.Seat.{SeatModel, added_to, raised_to, with_step, with_steps}
use Rattle.words_core.proofs.Totals.{total-append}
use Rattle.words_core.proofs.Traces.{on-append, raised-append}

-- loads add nothing
added-load : (w v k : ℕ) → added (on w (load v k ∷ [])) ≡ 0
added-load w v k = elim (cases_Bool (v == w)) [
  | inl is ↦ rw is refl
  | inr not ↦ rw not refl
]

pub raised-load : (w v k : ℕ) → raised (on w (load v k ∷ [])) ≡ 0
raised-load w v k = elim (cases_Bool (v == w)) [
  | inl is ↦ rw is refl
  | inr not ↦ rw not refl
]

shuts-load : (w v k : ℕ) → shuts_of w (load v k ∷ []) ≡ 0
shuts-load w v k = elim (cases_Bool (v == w)) [
  | inl is ↦ rw is refl
  | inr not ↦ rw not refl
]

-- the seat has only loaded since
abbrev pub HasOnlyLoaded : SeatModel → SeatModel → Type 0
HasOnlyLoaded first seat = (steps : List Step) × (seat ≡ with_steps first steps) × ((w : ℕ) → added (on w steps) ≡ 0) × ((w : ℕ) → raised (on w steps) ≡ 0) × ((w : ℕ) → shuts_of w steps ≡ 0)

pub HasOnlyLoaded-none : (seat : SeatModel) → HasOnlyLoaded seat seat
HasOnlyLoaded-none seat = ([], ap (λ (steps : List Step). record seat { trace = steps }) (sym (append-nil seat.trace)), (λ w. refl), (λ w. refl), (λ w. refl))

added-append : (w : ℕ) (xs ys : List Step) → added (on w (xs ++ ys)) ≡ added (on w xs) + added (on w ys)
added-append w xs ys = ap added (on-append w xs ys) ∙ total-append amount_of (on w xs) (on w ys)

pub raised-steps : (w : ℕ) (xs ys : List Step) → raised (on w (xs ++ ys)) ≡ max (raised (on w xs)) (raised (on w ys))
raised-steps w xs ys = ap raised (on-append w xs ys) ∙ raised-append (on w xs) (on w ys)

shuts-append : (w : ℕ) (xs ys : List Step) → shuts_of w (xs ++ ys) ≡ shuts_of w xs + shuts_of w ys
shuts-append w xs ys = ap (total is_shut) (on-append w xs ys) ∙ total-append is_shut (on w xs) (on w ys)

pub HasOnlyLoaded-more : (first seat : SeatModel) (k value : ℕ) → HasOnlyLoaded first seat → HasOnlyLoaded first (with_step seat (load k value))
HasOnlyLoaded-more first seat k value h =
    let last : Step = load k value in (
      h.0 ++ last ∷ [],
      ap (λ (s : SeatModel). with_step s last) h.1 ∙ ap (λ (steps : List Step). record first { trace = steps }) (append_assoc first.trace h.0 (last ∷ [])),
      (λ w. let rest = h.2 w in let here = added-load w k value in added-append w h.0 (last ∷ []) ∙ (omega arith)),
      (λ w. let rest = h.3 w in let here = raised-load w k value in raised-steps w h.0 (last ∷ []) ∙ (omega (arith, rest, here))),
      (λ w. let rest = h.4 w in let here = shuts-load w k value in shuts-append w h.0 (last ∷ []) ∙ (omega (arith, rest, here))),
    )

-- so it has added what it had
pub added_to-HasOnlyLoaded : (first seat : SeatModel) (ctx : ℕ) → HasOnlyLoaded first seat → added_to seat ctx ≡ added_to first ctx
added_to-HasOnlyLoaded first seat ctx h =
    let none = h.2 (value_word ctx) in
    ap (λ (s : SeatModel). added_to s ctx) h.1 ∙ added-append (value_word ctx) first.trace h.0 ∙ (omega arith)

-- and raised what it had
pub raised_to-HasOnlyLoaded : (first seat : SeatModel) (w : ℕ) → HasOnlyLoaded first seat → raised_to seat w ≡ raised_to first w
raised_to-HasOnlyLoaded first seat w h =
    let none = h.3 w in
    ap (λ (s : SeatModel). raised_to s w) h.1 ∙ raised-steps w first.trace h.0 ∙ (omega (arith, none))

-- and closed what it had
pub shuts-HasOnlyLoaded : (first seat : SeatModel) (w : ℕ) → HasOnlyLoaded first seat → shuts_of w seat.trace ≡ shuts_of w first.trace
shuts-HasOnlyLoaded first seat w h =
    let none = h.4 w in
    ap (λ (s : SeatModel). shuts_of w s.trace) h.1 ∙ shuts-append w first.trace h.0 ∙ (omega (arith, none))

-- one more context that is open
pub HasClosedNone-more : (first seat : SeatModel) (n ctx : ℕ) → ctx ≡ n + 1 → HasOnlyLoaded first seat → shuts_of (mark_word ctx) seat.trace ≡ 0 → HasClosedNone n first → HasClosedNone (n + 1) first
HasClosedNone-more first seat n ctx is before state earlier c low high = dite (ℕ_discrete c ctx)
    (λ same. ap (λ (k : ℕ). shuts_of (mark_word k) first.trace) same ∙ sym (shuts-HasOnlyLoaded first seat (mark_word ctx) before) ∙ state)
    (λ other. earlier c low (omega arith))

-- a context of these that was closed
pub HasClosedNone-not : (first seat : SeatModel) (contexts ctx : ℕ) → 1 ≤ ctx → ctx ≤ contexts → HasOnlyLoaded first seat → shuts_of (mark_word ctx) seat.trace ≡ 1 → ¬ HasClosedNone contexts first
HasClosedNone-not first seat contexts ctx low high before state none =
    let same = shuts-HasOnlyLoaded first seat (mark_word ctx) before in
    let open_there = none ctx low high in
    absurd (omega (arith, same, open_there, state))

-- one more value
pub values-more : (first seat : SeatModel) (reach : List ℕ) (n ctx value : ℕ) → ctx ≡ n + 1 → ctx ≤ length reach → HasOnlyLoaded first seat → value ≡ added_to seat ctx
    → ((c : ℕ) → 1 ≤ c → c ≤ n → value_at reach c ≡ added_to first c) → (c : ℕ) → 1 ≤ c → c ≤ n + 1 → value_at (with_value reach ctx value) c ≡ added_to first c
values-more first seat reach n ctx value is fits before state earlier c low high = dite (ℕ_discrete c ctx)
    (λ same.
    ap (value_at (with_value reach ctx value)) same
    ∙ value_at-with_value_same reach ctx value (omega arith) fits
    ∙ state
    ∙ added_to-HasOnlyLoaded first seat ctx before
    ∙ ap (added_to first) (sym same))
    (λ other. value_at-with_value_other reach ctx c value (omega arith) low other ∙ earlier c low (omega arith))

-- the contexts that come after it are as they were
pub past-more : (reach : List ℕ) (n ctx value : ℕ) → ctx ≡ n + 1 → ((c : ℕ) → n < c → value_at reach c ≡ 0) → (c : ℕ) → n + 1 < c → value_at (with_value reach ctx value) c ≡ 0
past-more reach n ctx value is before c low = value_at-with_value_other reach ctx c value (omega arith) (omega arith) (λ bad. absurd (omega arith)) ∙ before c (omega arith)

-- a value of 0 is raised to any value
pub raised_from_zero : (reach : List ℕ) (ctx value : ℕ) → value_at reach ctx ≡ 0 → with_value reach ctx (max (value_at reach ctx) value) ≡ with_value reach ctx value
raised_from_zero reach ctx value none = let e : max (value_at reach ctx) value ≡ value = omega arith in ap (with_value reach ctx) e

-- two functions that give the same of the first contexts
pub map-contexts : (f g : ℕ → ℕ) (n : ℕ) → ((ctx : ℕ) → 1 ≤ ctx → ctx ≤ n → f ctx ≡ g ctx) → map f (range_with_len 1 n) ≡ map g (range_with_len 1 n)
map-contexts f g zero same = refl
map-contexts f g (suc n) same =
    let next : suc n ≡ n + 1 = omega arith in
    let rest = map-contexts f g n (λ ctx low high. same ctx low (omega arith)) in
    let here = same (suc n) (omega arith) (omega arith) in
    ap (λ (k : ℕ). map f (range_with_len 1 k)) next
    ∙ map-range_with_len_more f 1 n (suc n) (omega arith)
    ∙ ap (λ (v : ℕ). map f (range_with_len 1 n) ++ v ∷ []) here
    ∙ ap (λ (vs : List ℕ). vs ++ g (suc n) ∷ []) rest
    ∙ sym (map-range_with_len_more g 1 n (suc n) (omega arith))
    ∙ ap (λ (k : ℕ). map g (range_with_len 1 k)) (sym next)

-- the listed values are the reach's, and 0 past them
pub value_at-listed : (reach : List ℕ) (n ctx : ℕ) → ((c : ℕ) → n < c → value_at reach c ≡ 0) → 1 ≤ ctx → value_at (map (value_at reach) (range_with_len 1 n)) ctx ≡ value_at reach ctx
value_at-listed reach n ctx past low = elim (cases_lt (ctx - 1) n) [
  | inl inside ↦ get_or-map-range_with_len (value_at reach) 1 n (ctx - 1) ctx 0 inside (omega arith)
  | inr outside ↦ get_or_past (map (value_at reach) (range_with_len 1 n)) (ctx - 1) 0 (rw length-map-range_with_len outside) ∙ sym (past ctx (omega arith))
]

rows_at-same_values : (es : List Entry) (usage : Usage) (reach values : List ℕ) → ((ctx : ℕ) → 1 ≤ ctx → value_at values ctx ≡ value_at reach ctx) → rows_at es reach usage ≡ rows_at es values usage
rows_at-same_values es usage reach values same = ap (map (row_of usage)) (listing-same es es (usage_number usage) (usage_number usage) reach values (λ ctx low high. ap (λ (v : ℕ). pending v (top es (usage_number usage) ctx)) (sym (same ctx low))))

-- only the values of contexts matter to the rows
pub rows_of-same_values : (es : List Entry) (reach values : List ℕ) → ((ctx : ℕ) → 1 ≤ ctx → value_at values ctx ≡ value_at reach ctx) → rows_of es reach ≡ rows_of es values
rows_of-same_values es reach values same =
    let kernel = rows_at-same_values es Kernel reach values same in
    let write = rows_at-same_values es Write reach values same in
    let read = rows_at-same_values es Read reach values same in
    let bookkeep = rows_at-same_values es Bookkeep reach values same in
    cc

-- nor do the tables
pub tables_of-same_values : (buffers : ℕ) (plans : List (List Act)) (reach values : List ℕ) → ((ctx : ℕ) → 1 ≤ ctx → value_at values ctx ≡ value_at reach ctx) → map (λ b. rows_of (all_puts b plans) reach) (range_with_len 0 buffers) ≡ tables_of buffers plans values
tables_of-same_values buffers plans reach values same = λ i. map (λ b. rows_of-same_values (all_puts b plans) reach values same i) (range_with_len 0 buffers)
