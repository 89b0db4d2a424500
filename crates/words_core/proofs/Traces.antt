-- Lists of steps.
use Rattle.std.proofs.Common.{◌≡◌, ◌≢◌, ℕ, ◌+◌, ◌<◌, ◌≤◌, ◌==◌, max, Bool, cond, List, [], ◌∷◌, ◌++◌, refl, ap, ◌∙◌, subst, arith}
use mathlib.Core.Logic.{dite}
use native.Mathlib.Decide.{ℕ_discrete}
use Rattle.std.proofs.lemmas.Bool.{eq-eqb, ne_eqb}
use Rattle.std.proofs.lemmas.Bool.Decides.{nat_tests}
use Rattle.std.proofs.lemmas.List.{append-nil}
use Rattle.std.proofs.lemmas.List.Elements.{filter-append}
use Rattle.words_core.specs.declared.trace.StepKind.{StepKind}
use Rattle.words_core.specs.declared.trace.StepKind.TheVariants.{Load, Add, Won, Lost, Raise, Shown, Shut}
use Rattle.words_core.specs.declared.trace.Step.{Step}
use Rattle.words_core.specs.theorem.Trace.{if_kind, amount_of, is_add, is_win, is_loss, is_test, is_load_of, is_add_to, target_of, is_raise_to, is_sight_of, load, add, raise, shown, total, on, greatest, raised, added, HasRunningSums}

-- the steps on a word, after one more

pub on-append : (w : ℕ) (xs ys : List Step) → on w (xs ++ ys) ≡ on w xs ++ on w ys
on-append w xs ys = filter-append (λ (s : Step). s.word == w) xs ys

pub on-append_here : (w : ℕ) (xs : List Step) (s : Step) → s.word ≡ w → on w (xs ++ s ∷ []) ≡ on w xs ++ s ∷ []
on-append_here w xs s here = on-append w xs (s ∷ []) ∙ ap (λ (b : Bool). on w xs ++ cond b (s ∷ []) []) (eq-eqb s.word w here)

pub on-append_other : (w : ℕ) (xs : List Step) (s : Step) → s.word ≢ w → on w (xs ++ s ∷ []) ≡ on w xs
on-append_other w xs s other = on-append w xs (s ∷ []) ∙ ap (λ (b : Bool). on w xs ++ cond b (s ∷ []) []) (ne_eqb s.word w other) ∙ append-nil (on w xs)

-- the greatest value

max_none : (n : ℕ) → n ≡ max 0 n
max_none n = grind arith

max_three : (x y z : ℕ) → max x (max y z) ≡ max (max x y) z
max_three x y z = grind arith

pub greatest-append : (xs ys : List Step) → greatest (xs ++ ys) ≡ max (greatest xs) (greatest ys)
greatest-append [] ys = max_none (greatest ys)
greatest-append (x ∷ xs) ys = ap (λ (n : ℕ). max x.value n) (greatest-append xs ys) ∙ max_three x.value (greatest xs) (greatest ys)

pub max_both : (a b n : ℕ) → a ≤ n → b ≤ n → max a b ≤ n
max_both a b n p q = grind arith

pub greatest-append_le : (xs ys : List Step) (n : ℕ) → greatest xs ≤ n → greatest ys ≤ n → greatest (xs ++ ys) ≤ n
greatest-append_le xs ys n p q = rw (greatest-append xs ys) (max_both (greatest xs) (greatest ys) n p q)

pub greatest_one : (s : Step) (n : ℕ) → s.value ≤ n → greatest (s ∷ []) ≤ n
greatest_one s n h = max_both s.value 0 n h (omega arith)

-- sums

pub HasRunningSums-append : (n : ℕ) (xs ys : List Step) → HasRunningSums n xs → HasRunningSums (n + added xs) ys → HasRunningSums n (xs ++ ys)
HasRunningSums-append n [] ys h t = let e : n + 0 ≡ n = omega arith in subst (λ (m : ℕ). HasRunningSums m ys) e t
HasRunningSums-append n (x ∷ xs) ys h t = let e : n + (amount_of x + added xs) ≡ (n + amount_of x) + added xs = omega arith in
    (h.0, HasRunningSums-append (n + amount_of x) xs ys h.1 (subst (λ (m : ℕ). HasRunningSums m ys) e t))

-- a step that is no addition adds nothing
no_amount : (kind : StepKind) (n : ℕ) → if_kind Add kind 1 ≡ 0 → if_kind Add kind n ≡ 0
no_amount Load n h = refl
no_amount Add n h = absurd (omega arith)
no_amount Won n h = refl
no_amount Lost n h = refl
no_amount Raise n h = refl
no_amount Shown n h = refl
no_amount Shut n h = refl

pub added_none : (xs : List Step) → total is_add xs ≡ 0 → added xs ≡ 0
added_none [] h = refl
added_none (x ∷ xs) h = let one : amount_of x ≡ 0 = no_amount x.kind x.operand (omega arith) in let more : added xs ≡ 0 = added_none xs (omega arith) in omega arith

pub HasRunningSums-none : (n : ℕ) (xs : List Step) → total is_add xs ≡ 0 → HasRunningSums n xs
HasRunningSums-none n [] h = tt
HasRunningSums-none n (x ∷ xs) h = ((λ is. absurd (omega arith)), HasRunningSums-none (n + amount_of x) xs (omega arith))

-- wins and losses

pub total-tests : (xs : List Step) → total is_test xs ≡ total is_win xs + total is_loss xs
total-tests [] = refl
total-tests (x ∷ xs) = let more : total is_test xs ≡ total is_win xs + total is_loss xs = total-tests xs in omega arith

-- the greatest value to which the word was raised

pub raised-append : (xs ys : List Step) → raised (xs ++ ys) ≡ max (raised xs) (raised ys)
raised-append [] ys = max_none (raised ys)
raised-append (x ∷ xs) ys = ap (λ (n : ℕ). max (target_of x) n) (raised-append xs ys) ∙ max_three (target_of x) (raised xs) (raised ys)

pub raised-append_le : (xs ys : List Step) (n : ℕ) → raised xs ≤ n → raised ys ≤ n → raised (xs ++ ys) ≤ n
raised-append_le xs ys n p q = rw (raised-append xs ys) (max_both (raised xs) (raised ys) n p q)

-- values

same_value : (n x : ℕ) → 0 < cond (n == x) 1 0 → n ≡ x
same_value n x h = grind (arith, nat_tests)

pub load_value : (w n x : ℕ) → 0 < is_load_of x (load w n) → n ≡ x
load_value w n x h = same_value n x h

pub add_value : (w n x : ℕ) → 0 < is_add_to x (add w n x)
add_value w n x = rw (eq-eqb x x refl) (omega arith)

pub shown_value : (w n x : ℕ) → 0 < is_sight_of x (shown w n) → n ≡ x
shown_value w n x h = same_value n x (omega arith)

pub raise_value : (w p v x : ℕ) → 0 < is_sight_of x (raise w p v) → v ≡ x
raise_value w p v x h = same_value v x (omega arith)

pub raise_target : (w p v : ℕ) → 0 < is_raise_to p (raise w p v)
raise_target w p v = rw (eq-eqb p p refl) (omega arith)

max_from_left : (a b x : ℕ) → x ≤ a → x ≤ max a b
max_from_left a b x h = grind arith

max_from_right : (a b x : ℕ) → x ≤ b → x ≤ max a b
max_from_right a b x h = grind arith

raise_to_le : (kind : StepKind) (p x : ℕ) → 0 < if_kind Raise kind (cond (p == x) 1 0) → x ≤ if_kind Raise kind p
raise_to_le Load p x h = absurd (omega arith)
raise_to_le Add p x h = absurd (omega arith)
raise_to_le Won p x h = absurd (omega arith)
raise_to_le Lost p x h = absurd (omega arith)
raise_to_le Raise p x h = let e : p ≡ x = same_value p x h in omega arith
raise_to_le Shown p x h = absurd (omega arith)
raise_to_le Shut p x h = absurd (omega arith)

-- a value to which the word was raised is at most the greatest
pub raised_le : (x : ℕ) (xs : List Step) → 0 < total (is_raise_to x) xs → x ≤ raised xs
raised_le x [] h = absurd (omega arith)
raised_le x (s ∷ xs) h = dite (ℕ_discrete (is_raise_to x s) 0)
    (λ e. max_from_right (target_of s) (raised xs) x (raised_le x xs (omega arith)))
    (λ ne. max_from_left (target_of s) (raised xs) x (raise_to_le s.kind s.operand x (omega arith)))
