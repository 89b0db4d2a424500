-- What a seat has won and added, after each of its steps.
use Rattle.std.proofs.Common.{◌≡◌, ◌≢◌, ℕ, ◌+◌, ◌-◌, ◌<◌, ◌≤◌, ◌==◌, nat_lt, inl, inr, true, false, cond, List, [], ◌∷◌, ◌++◌, sym, refl, ap, ◌∙◌, subst, arith}
use Rattle.std.proofs.lemmas.Bool.{lt-ltb, false≢true}
use Rattle.std.proofs.lemmas.List.{append_assoc}
use Rattle.words_core.specs.declared.trace.Step.{Step}
use Rattle.words_core.specs.theorem.Layout.{value_place, claim_place, value_word, claim_word, mark_word}
use Rattle.words_core.specs.theorem.Trace.{on, amount_of, total, added, is_win, is_shut, is_test, add, won, lost, shut, wins_of, shuts_of, mark_of, set_once_step}
use Rattle.words_core.specs.theorem.Seat.{SeatModel, with_step, both_of, added_to, tests_of}
use Rattle.words_core.proofs.Totals.{total-append}
use Rattle.words_core.proofs.ValueSteps.{none_or_some}
use Rattle.words_core.proofs.MarkSteps.{mark_none}
use Rattle.words_core.proofs.Traces.{on-append, on-append_here, on-append_other}

apart : (c : ℕ) → value_place c ≢ claim_place c
apart c e = omega arith

pub wins_of-won : (seat : SeatModel) (w : ℕ) → wins_of w (with_step seat (won w)).trace ≡ wins_of w seat.trace + 1
wins_of-won seat w =
    let a : total is_win (on w seat.trace ++ won w ∷ []) ≡ total is_win (on w seat.trace) + (1 + 0) = total-append is_win (on w seat.trace) (won w ∷ []) in
    rw (on-append_here w seat.trace (won w) refl) (omega arith)

pub set_once_step-word : (w n : ℕ) → (set_once_step w n).word ≡ w
set_once_step-word w n = elim (n == 0) as (λ b. (cond b (won w) (lost w)).word ≡ w) [ true ↦ refl | false ↦ refl ]

set_once_step-tests : (w n : ℕ) → is_test (set_once_step w n) ≡ 1
set_once_step-tests w n = elim (n == 0) as (λ b. is_test (cond b (won w) (lost w)) ≡ 1) [ true ↦ refl | false ↦ refl ]

-- whatever it found, a test-and-set is known afterwards
pub tests_of-set_once : (seat : SeatModel) (w n : ℕ) → tests_of (with_step seat (set_once_step w n)) w ≡ tests_of seat w + 1
tests_of-set_once seat w n =
    let s : Step = set_once_step w n in
    let known : List Step = on w (seat.start ++ seat.trace) in
    let more : on w (seat.start ++ (seat.trace ++ s ∷ [])) ≡ known ++ s ∷ [] = ap (on w) (sym (append_assoc seat.start seat.trace (s ∷ []))) ∙ on-append_here w (seat.start ++ seat.trace) s (set_once_step-word w n) in
    let sum : total is_test (known ++ s ∷ []) ≡ total is_test known + (is_test s + 0) = total-append is_test known (s ∷ []) in
    let one = set_once_step-tests w n in
    ap (total is_test) more ∙ (omega arith)

pub wins_of-both_of : (seat other : SeatModel) (w : ℕ) → wins_of w (both_of seat other).trace ≡ wins_of w seat.trace + wins_of w other.trace
wins_of-both_of seat other w = ap (total is_win) (on-append w seat.trace other.trace) ∙ total-append is_win (on w seat.trace) (on w other.trace)

pub added_to-won : (seat : SeatModel) (ctx : ℕ) → added_to (with_step seat (won (claim_word ctx))) ctx ≡ added_to seat ctx
added_to-won seat ctx = ap added (on-append_other (value_word ctx) seat.trace (won (claim_word ctx)) (λ e. apart (ctx - 1) (sym e)))

-- a step that is not on its mark closes no context
pub shuts_of-other : (seat : SeatModel) (ctx : ℕ) (s : Step) → s.word ≢ mark_word ctx → shuts_of (mark_word ctx) (with_step seat s).trace ≡ shuts_of (mark_word ctx) seat.trace
shuts_of-other seat ctx s other = ap (total is_shut) (on-append_other (mark_word ctx) seat.trace s other)

pub shuts_of-shut : (seat : SeatModel) (w m : ℕ) → shuts_of w (with_step seat (shut w m)).trace ≡ shuts_of w seat.trace + 1
shuts_of-shut seat w m =
    let a : total is_shut (on w seat.trace ++ shut w m ∷ []) ≡ total is_shut (on w seat.trace) + (1 + 0) = total-append is_shut (on w seat.trace) (shut w m ∷ []) in
    rw (on-append_here w seat.trace (shut w m) refl) (omega arith)

-- a closing left a mark above 0, and without one the mark is 0
pub shuts_of-marked : (w m : ℕ) (steps : List Step) → m ≡ mark_of w steps → shuts_of w steps ≤ 1 → (0 < shuts_of w steps → 0 < m) → shuts_of w steps ≡ cond (nat_lt 0 m) 1 0
shuts_of-marked w m steps is once some = elim (none_or_some (shuts_of w steps)) [
  | inl none ↦ let zero : m ≡ 0 = is ∙ mark_none (on w steps) none in rw zero none
  | inr one ↦ let more = some one in rw (lt-ltb 0 m more) (omega arith)
]

-- a mark above 0 was left by a closing
pub shut_if_marked : (w m : ℕ) (steps : List Step) → m ≡ mark_of w steps → nat_lt 0 m ≡ true → 0 < shuts_of w steps
shut_if_marked w m steps is set = elim (none_or_some (shuts_of w steps)) [
  | inl none ↦ let zero : m ≡ 0 = is ∙ mark_none (on w steps) none in absurd (false≢true (subst (λ (k : ℕ). nat_lt 0 k ≡ true) zero set))
  | inr one ↦ one
]

pub wins_of-add : (seat : SeatModel) (ctx n v : ℕ) → 0 < wins_of (claim_word ctx) seat.trace → 0 < wins_of (claim_word ctx) (with_step seat (add (value_word ctx) n v)).trace
wins_of-add seat ctx n v won = rw (on-append_other (claim_word ctx) seat.trace (add (value_word ctx) n v) (apart (ctx - 1))) won

pub added_to-add : (seat : SeatModel) (ctx n v : ℕ) → added_to (with_step seat (add (value_word ctx) n v)) ctx ≡ added_to seat ctx + n
added_to-add seat ctx n v = let w : ℕ = value_word ctx in let s : Step = add w n v in
    let a : added (on w seat.trace ++ s ∷ []) ≡ added (on w seat.trace) + (n + 0) = total-append amount_of (on w seat.trace) (s ∷ []) in
    rw (on-append_here w seat.trace s refl) (omega arith)
