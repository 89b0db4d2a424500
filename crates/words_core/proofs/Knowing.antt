-- What a seat knows to have been won or lost, after each call.
use Rattle.std.proofs.Common.{◌≡◌, ℕ, ◌+◌, ◌≤◌, List, [], ◌∷◌, ◌++◌, sym, ap, ◌∙◌, arith}
use Rattle.std.proofs.lemmas.List.{append-nil, append_assoc}
use Rattle.words_core.specs.declared.trace.Step.{Step}
use Rattle.words_core.specs.theorem.Trace.{on, total, is_test}
use Rattle.words_core.specs.theorem.Seat.{SeatModel, tests_of, with_step, parted, both_of}
use Rattle.words_core.proofs.Totals.{total-append}
use Rattle.words_core.proofs.Traces.{on-append}

tests-append : (w : ℕ) (xs ys : List Step) → total is_test (on w (xs ++ ys)) ≡ total is_test (on w xs) + total is_test (on w ys)
tests-append w xs ys = ap (total is_test) (on-append w xs ys) ∙ total-append is_test (on w xs) (on w ys)

pub tests_of-later : (seat : SeatModel) (s : Step) (w : ℕ) → tests_of seat w ≤ tests_of (with_step seat s) w
tests_of-later seat s w =
    let known : List Step = seat.start ++ seat.trace in
    let more : tests_of (with_step seat s) w ≡ total is_test (on w known) + total is_test (on w (s ∷ [])) = ap (λ (l : List Step). total is_test (on w l)) (sym (append_assoc seat.start seat.trace (s ∷ []))) ∙ tests-append w known (s ∷ []) in
    omega arith

pub tests_of-parted : (seat : SeatModel) (n w : ℕ) → tests_of (parted seat n) w ≡ tests_of seat w
tests_of-parted seat n w = ap (λ (l : List Step). total is_test (on w l)) (append-nil (seat.start ++ seat.trace))

pub tests_of-both_of : (seat other : SeatModel) (w : ℕ) → tests_of (both_of seat other) w ≡ tests_of seat w + tests_of other w
tests_of-both_of seat other w =
    let f : List Step → ℕ = λ l. total is_test (on w l) in
    let all : f ((seat.start ++ other.start) ++ (seat.trace ++ other.trace)) ≡ f (seat.start ++ other.start) + f (seat.trace ++ other.trace) = tests-append w (seat.start ++ other.start) (seat.trace ++ other.trace) in
    let starts : f (seat.start ++ other.start) ≡ f seat.start + f other.start = tests-append w seat.start other.start in
    let made : f (seat.trace ++ other.trace) ≡ f seat.trace + f other.trace = tests-append w seat.trace other.trace in
    let mine : f (seat.start ++ seat.trace) ≡ f seat.start + f seat.trace = tests-append w seat.start seat.trace in
    let theirs : f (other.start ++ other.trace) ≡ f other.start + f other.trace = tests-append w other.start other.trace in
    omega arith
