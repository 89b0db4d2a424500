-- What a seat has seen, after each call.
use Rattle.std.proofs.Common.{◌≡◌, ℕ, ◌≤◌, max, List, [], ◌∷◌, ◌++◌, sym, refl, ap, ◌∙◌, arith}
use Rattle.std.proofs.lemmas.List.{append-nil, append_assoc}
use Rattle.words_core.specs.declared.trace.Step.{Step}
use Rattle.words_core.specs.theorem.Trace.{on, greatest}
use Rattle.words_core.specs.theorem.Seat.{SeatModel, seen, with_step, with_steps, parted, both_of}
use Rattle.words_core.proofs.Traces.{on-append, on-append_here, greatest-append}

max_four : (a b d e : ℕ) → max (max a b) (max d e) ≡ max (max a d) (max b e)
max_four a b d e = grind arith

max_left : (a b : ℕ) → a ≤ max a b
max_left a b = grind arith

max_right : (a b : ℕ) → b ≤ max a (max b 0)
max_right a b = grind arith

max_later : (a b : ℕ) → a ≤ b → max a (max b 0) ≡ b
max_later a b h = grind arith

pub seen-with_steps : (seat : SeatModel) (w : ℕ) (steps : List Step) → seen (with_steps seat steps) w ≡ max (seen seat w) (greatest (on w steps))
seen-with_steps seat w steps =
    ap (λ (l : List Step). greatest (on w l)) (sym (append_assoc seat.start seat.trace steps))
    ∙ ap greatest (on-append w (seat.start ++ seat.trace) steps)
    ∙ greatest-append (on w (seat.start ++ seat.trace)) (on w steps)

-- what was seen stays seen
pub seen_stays : (seat : SeatModel) (w : ℕ) (steps : List Step) → seen seat w ≤ seen (with_steps seat steps) w
seen_stays seat w steps = rw (seen-with_steps seat w steps) (max_left (seen seat w) (greatest (on w steps)))

-- the value of a step is seen
pub seen-with_step : (seat : SeatModel) (s : Step) → s.value ≤ seen (with_step seat s) s.word
seen-with_step seat s =
    let here : on s.word (s ∷ []) ≡ s ∷ [] = on-append_here s.word [] s refl in
    rw (seen-with_steps seat s.word (s ∷ []), here) (max_right (seen seat s.word) s.value)

-- a value that is no less than what was seen is seen now
pub seen-with_step_later : (seat : SeatModel) (s : Step) → seen seat s.word ≤ s.value → seen (with_step seat s) s.word ≡ s.value
seen-with_step_later seat s later =
    let here : on s.word (s ∷ []) ≡ s ∷ [] = on-append_here s.word [] s refl in
    seen-with_steps seat s.word (s ∷ []) ∙ ap (λ (l : List Step). max (seen seat s.word) (greatest l)) here ∙ max_later (seen seat s.word) s.value later

-- a new seat has seen what its parent had
pub seen-parted : (seat : SeatModel) (n w : ℕ) → seen (parted seat n) w ≡ seen seat w
seen-parted seat n w = ap (λ (l : List Step). greatest (on w l)) (append-nil (seat.start ++ seat.trace))

-- a joined seat has seen what both had
pub seen-both_of : (seat other : SeatModel) (w : ℕ) → seen (both_of seat other) w ≡ max (seen seat w) (seen other w)
seen-both_of seat other w =
    let a : List Step = on w seat.start in let b : List Step = on w other.start in let d : List Step = on w seat.trace in let e : List Step = on w other.trace in
    let parts : on w ((seat.start ++ other.start) ++ (seat.trace ++ other.trace)) ≡ (a ++ b) ++ (d ++ e) = on-append w (seat.start ++ other.start) (seat.trace ++ other.trace) ∙ (λ i. on-append w seat.start other.start i ++ on-append w seat.trace other.trace i) in
    let left : greatest (on w (seat.start ++ seat.trace)) ≡ max (greatest a) (greatest d) = ap greatest (on-append w seat.start seat.trace) ∙ greatest-append a d in
    let right : greatest (on w (other.start ++ other.trace)) ≡ max (greatest b) (greatest e) = ap greatest (on-append w other.start other.trace) ∙ greatest-append b e in
    ap greatest parts ∙ (greatest-append (a ++ b) (d ++ e) ∙ ((λ i. max (greatest-append a b i) (greatest-append d e i)) ∙ (max_four (greatest a) (greatest b) (greatest d) (greatest e) ∙ (λ i. max (sym left i) (sym right i)))))
