-- The spaces that a line begins with.
use Rattle.std.proofs.Common.{◌≡◌, ℕ, ◌≤◌, suc, Bool, true, false, not, cond, nat_lt, List, [], ◌∷◌, length, drop, None, Some, refl, sym, ap, ◌∙◌, arith, one-add}
use Rattle.std.specs.List.{position_or_len, position}
use Rattle.std.proofs.lemmas.Option.{cond_some}
use Rattle.std.proofs.lemmas.Bool.Decides.{nat_tests}
use Rattle.std.proofs.Math.ListN.{drop_of_length-le}
use Rattle.line_core.specs.Fronts.{drop_spaces}
use Rattle.line_core.specs.Words.{is_space}

abbrev start : List ℕ → ℕ
start xs = position_or_len (λ x. not (is_space x)) xs

drop_spaces-step : (x : ℕ) (xs : List ℕ) (s : Bool) → is_space x ≡ s → drop (start xs) xs ≡ drop_spaces xs → drop (start (x ∷ xs)) (x ∷ xs) ≡ drop_spaces (x ∷ xs)
drop_spaces-step x xs true e ih =
    let later : start (x ∷ xs) ≡ suc (start xs) = rw (e, one-add) refl in
    rw (later, e) ih
drop_spaces-step x xs false e ih =
    let here : start (x ∷ xs) ≡ 0 = rw e refl in
    rw (here, e) refl

drop_spaces-start : (xs : List ℕ) → drop (start xs) xs ≡ drop_spaces xs
drop_spaces-start [] = refl
drop_spaces-start (x ∷ xs) = drop_spaces-step x xs (is_space x) refl (drop_spaces-start xs)

unchosen : (a b : ℕ) → cond (nat_lt a b) (Some a) None ≡ None → b ≤ a
unchosen a b e = grind (arith, nat_tests)

pub drop_spaces-some : (xs : List ℕ) (i : ℕ) → position (λ x. not (is_space x)) xs ≡ Some i → drop i xs ≡ drop_spaces xs
drop_spaces-some xs i e =
    let both = cond_some (nat_lt (start xs) (length xs)) (start xs) i e in
    ap (λ k. drop k xs) (sym both.1) ∙ drop_spaces-start xs

pub drop_spaces-none : (xs : List ℕ) → position (λ x. not (is_space x)) xs ≡ None → [] ≡ drop_spaces xs
drop_spaces-none xs e = sym (drop_of_length-le xs (unchosen (start xs) (length xs) e)) ∙ drop_spaces-start xs
