-- The two line numbers that a text spells, with `..` between.
use Rattle.std.proofs.Common.{◌≡◌, ◌≢◌, ℕ, Bool, true, false, cond, refl, sym, ap, subst, ◌∙◌, List, [], ◌∷◌, ◌++◌, Option, None, Some, get_or, drop, arith}
use Rattle.std.specs.Prelude.{⊤, ◌==◌, IfSome, codes}
use Rattle.std.specs.Str.Parse.{AllDigits, without_leading_plus}
use Rattle.std.proofs.lemmas.Str.Parse.{digit_from_value}
use Rattle.draw_core.specs.declared.window.Window.{Window}
use Rattle.draw_core.specs.Spelling.{HasLines, Spells, SpellsLines, SpellsNumber}

-- no byte is a dot
abbrev HasNoDot : List ℕ → Type 0
HasNoDot [] = ⊤
HasNoDot (c ∷ cs) = (c ≢ 46) × HasNoDot cs

no_dot-digits : (ds : List ℕ) → AllDigits 10 ds → HasNoDot ds
no_dot-digits [] all = tt
no_dot-digits (c ∷ cs) all = let digit = digit_from_value c all.0 in (λ e. absurd (omega (arith, digit)), no_dot-digits cs all.1)

no_dot : (bs : List ℕ) → AllDigits 10 (without_leading_plus bs) → HasNoDot bs
no_dot [] all = tt
no_dot (c ∷ cs) all = go (c == 43) refl all
  where
    go : (b : Bool) → (c == 43) ≡ b → AllDigits 10 (drop (cond b 1 0) (c ∷ cs)) → HasNoDot (c ∷ cs)
    go true is all = ((λ e. absurd (cc (sym is ∙ ap (λ (n : ℕ). n == 43) e))), no_dot-digits cs all)
    go false is all = no_dot-digits (c ∷ cs) all

no_dot_in : (xs ys : List ℕ) → HasNoDot (xs ++ 46 ∷ ys) → ⊥
no_dot_in [] ys dots = dots.0 refl
no_dot_in (x ∷ xs) ys dots = no_dot_in xs ys dots.1

-- texts without a dot, with two between, are those at any two dots
same_parts : (a b x y : List ℕ) → HasNoDot a → HasNoDot b → a ++ (46 ∷ 46 ∷ b) ≡ x ++ (46 ∷ 46 ∷ y) → (a ≡ x) × (b ≡ y)
same_parts [] b [] y first last is = (refl, ap (drop 2) is)
same_parts [] b (c ∷ []) y first last is = absurd ((subst HasNoDot (ap (drop 2) is) last).0 refl)
same_parts [] b (c ∷ d ∷ x) y first last is = absurd (no_dot_in x (46 ∷ y) (subst HasNoDot (ap (drop 2) is) last))
same_parts (c ∷ a) b [] y first last is = absurd (first.0 (ap (λ (l : List ℕ). get_or l 0 0) is))
same_parts (c ∷ a) b (d ∷ x) y first last is =
    let rest = same_parts a b x y first.1 last (ap (drop 1) is) in
    ((λ j. get_or (is j) 0 0 ∷ rest.0 j), rest.1)

-- a text that spells a window is cut in one way only
lines-between : (text x y : List ℕ) (window : Window) → text ≡ x ++ (codes ".." ++ y) → Spells text window → SpellsLines x y window
lines-between text x y window cut spells =
    let same = same_parts spells.first_text spells.last_text x y
    (no_dot spells.first_text spells.lines.first.digits.1) (no_dot spells.last_text spells.lines.last.digits.1) (sym spells.parts ∙ cut) in
    record {
      first = subst (λ t. SpellsNumber t window.first) same.0 spells.lines.first;
      last = subst (λ t. SpellsNumber t window.last) same.1 spells.lines.last;
    }

pub spells-cut : (text x y : List ℕ) (o : Option Window) → text ≡ x ++ (codes ".." ++ y) → IfSome o (SpellsLines x y) → IfSome o (Spells text)
spells-cut text x y None cut spelled = tt
spells-cut text x y (Some window) cut spelled = record { first_text = x; last_text = y; parts = cut; lines = spelled }

pub read-cut : (text x y : List ℕ) (o : Option Window) → text ≡ x ++ (codes ".." ++ y)
    → ((window : Window) → HasLines window → SpellsLines x y window → o ≡ Some window)
    → (window : Window) → HasLines window → Spells text window → o ≡ Some window
read-cut text x y o cut read window lines spells = read window lines (lines-between text x y window cut spells)

pub read-uncut : (text : List ℕ) (o : Option Window) → ((x y : List ℕ) → text ≢ x ++ (codes ".." ++ y))
    → (window : Window) → HasLines window → Spells text window → o ≡ Some window
read-uncut text o uncut window lines spells = absurd (uncut spells.first_text spells.last_text spells.parts)

-- digits spell one number
same_number : (text : List ℕ) (m n : ℕ) → SpellsNumber text m → SpellsNumber text n → m ≡ n
same_number text m n one other = one.value ∙ sym other.value

pub spells-lines : (x y : List ℕ) (number : ℕ) (o : Option Window) → SpellsNumber x number → IfSome o (λ window. window.first ≡ number)
    → IfSome o (λ window. SpellsNumber y window.last) → IfSome o (SpellsLines x y)
spells-lines x y number None spelled first last = tt
spells-lines x y number (Some window) spelled first last = record { first = subst (SpellsNumber x) (sym first) spelled; last = last }

pub read-lines : (x y : List ℕ) (number : ℕ) (o : Option Window) → SpellsNumber x number
    → ((window : Window) → HasLines window → window.first ≡ number → SpellsNumber y window.last → o ≡ Some window)
    → (window : Window) → HasLines window → SpellsLines x y window → o ≡ Some window
read-lines x y number o spelled read window lines spells =
    read window lines (same_number x window.first number spells.first spelled) spells.last

pub read-last : (y : List ℕ) (first number : ℕ) (o : Option Window) → SpellsNumber y number
    → ((window : Window) → HasLines window → window.first ≡ first → window.last ≡ number → o ≡ Some window)
    → (window : Window) → HasLines window → window.first ≡ first → SpellsNumber y window.last → o ≡ Some window
read-last y first number o spelled read window lines same spells =
    read window lines same (same_number y window.last number spells spelled)

pub spells-last : (y : List ℕ) (number : ℕ) (o : Option Window) → SpellsNumber y number → IfSome o (λ window. window.last ≡ number)
    → IfSome o (λ window. SpellsNumber y window.last)
spells-last y number None spelled last = tt
spells-last y number (Some window) spelled last = subst (SpellsNumber y) (sym last) spelled
