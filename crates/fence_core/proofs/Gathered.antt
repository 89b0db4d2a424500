-- Registrations of watches that fire, gathered in rising order: one more, at its place.
use Rattle.std.proofs.Common.{◌≡◌, ℕ, zero, suc, ◌<◌, ◌≤◌, cond, refl, sym, ap, ◌∙◌, subst, List, [], ◌∷◌, ◌++◌, ◌+◌, Some, Ok, Err, length, get_or, take, inl, inr, arith}
use Rattle.std.specs.List.{insert, AllByRecursion}
use Rattle.std.specs.List.Sorted.{IsStrictlySortedBy, IsBinarySearchResult}
use Rattle.std.specs.Map.{keys_of, values_of}
use Rattle.std.specs.BTreeMap.{is_at, insert_entry}
use Rattle.std.specs.Ordering.{nat_cmp, match_ordering}
use Rattle.std.specs.declared.cmp.Ordering.TheVariants.{Less}
use Rattle.std.proofs.lemmas.Bool.{cases_Bool}
use Rattle.std.proofs.lemmas.List.{take_more}
use Rattle.std.proofs.lemmas.List.Sorted.{searched}
use Rattle.fence_core.specs.Registration.{cookie_of}
use Rattle.fence_core.specs.Watch.{Watch}
use Rattle.fence_core.specs.Pending.{Places, found}
use Rattle.fence_core.specs.Reported.{at, with_cookies, AreGathered, HasGathered}
use Rattle.fence_core.proofs.PointIndex.{less-nat}
use Rattle.fence_core.proofs.InOrder.{is_at-true, is_at-is, greater, less, at-insert, ordered-insert}
use Rattle.fence_core.proofs.ByCookie.{found-is}
use Rattle.fence_core.proofs.Fired.{keys_of-with_cookies}

-- the cookie of a registration's watch
pub cookie-found : (es : Places) (r : ℕ) (w : Watch) → found es r ≡ Some w → cookie_of r ≡ w.cookie
cookie-found es r w is = let it = found-is es r w is in ap cookie_of (sym it.2) ∙ ap (λ (v : Watch). v.cookie) it.3

pub HasGathered-none : (es : Places) (reach fired : List ℕ) → AreGathered es reach fired → HasGathered es reach fired fired
HasGathered-none es reach fired h = record { gathered = h; still = λ r told. told }

pub HasGathered-same : (es : Places) (reach fired after : List ℕ) → after ≡ fired → AreGathered es reach fired → HasGathered es reach fired after
HasGathered-same es reach fired after is h = subst (HasGathered es reach fired) (sym is) (HasGathered-none es reach fired h)

pub HasGathered-more : (es : Places) (reach before now after : List ℕ) → HasGathered es reach before now → HasGathered es reach now after → HasGathered es reach before after
HasGathered-more es reach before now after h more = record { gathered = more.gathered; still = λ r told. more.still r (h.still r told) }

-- registrations that rise never fall
least-first : (x : ℕ) (xs : List ℕ) (j : ℕ) → AllByRecursion (λ y. nat_cmp x y ≡ Less) xs → j < length xs → x ≤ get_or xs j 0
least-first x [] j all low = absurd (omega arith)
least-first x (y ∷ xs) zero all low = let up = less-nat x y all.0 in omega arith
least-first x (y ∷ xs) (suc j) all low = least-first x xs j all.1 (omega arith)

pub rising-at : (xs : List ℕ) → IsStrictlySortedBy nat_cmp xs → (i j : ℕ) → i ≤ j → j < length xs → get_or xs i 0 ≤ get_or xs j 0
unfolding IsStrictlySortedBy
rising-at [] h i j up low = absurd (omega arith)
rising-at (x ∷ xs) h zero zero up low = omega arith
rising-at (x ∷ xs) h zero (suc j) up low = least-first x xs j h.0 (omega arith)
rising-at (x ∷ xs) h (suc i) zero up low = absurd (omega arith)
rising-at (x ∷ xs) h (suc i) (suc j) up low = rising-at xs h.1 i j (omega arith) (omega arith)

-- one more, at its place
pub with_cookies-insert : (xs : List ℕ) (place r : ℕ) → place ≤ length xs → ((k : ℕ) → k < place → get_or xs k 0 < r) → ((k : ℕ) → place ≤ k → k < length xs → r < get_or xs k 0) → with_cookies (insert xs place r) ≡ insert_entry nat_cmp (with_cookies xs) r (cookie_of r)
with_cookies-insert [] zero r within under over = refl
with_cookies-insert [] (suc place) r within under over = absurd (omega arith)
with_cookies-insert (x ∷ xs) zero r within under over =
    sym (ap (λ o. match_ordering o ((r, cookie_of r) ∷ (x, cookie_of x) ∷ with_cookies xs) ((x, cookie_of r) ∷ with_cookies xs) ((x, cookie_of x) ∷ insert_entry nat_cmp (with_cookies xs) r (cookie_of r))) (less r x (over 0 (omega arith) (omega arith))))
with_cookies-insert (x ∷ xs) (suc place) r within under over =
    ap (λ es. (x, cookie_of x) ∷ es) (with_cookies-insert xs place r (omega arith) (λ k low. under (suc k) (omega arith)) (λ k up low. over (suc k) (omega arith) (omega arith)))
    ∙ sym (ap (λ o. match_ordering o ((r, cookie_of r) ∷ (x, cookie_of x) ∷ with_cookies xs) ((x, cookie_of r) ∷ with_cookies xs) ((x, cookie_of x) ∷ insert_entry nat_cmp (with_cookies xs) r (cookie_of r))) (greater r x (under 0 (omega arith))))

module _ (xs : List ℕ) (place r : ℕ) (within : place ≤ length xs) (under : (k : ℕ) → k < place → get_or xs k 0 < r) (over : (k : ℕ) → place ≤ k → k < length xs → r < get_or xs k 0) where
  pub at-inserted : (q : ℕ) → at (with_cookies (insert xs place r)) q ≡ cond (is_at (nat_cmp r) q) (Some (cookie_of r)) (at (with_cookies xs) q)
  at-inserted q = ap (λ es. at es q) (with_cookies-insert xs place r within under over) ∙ at-insert (with_cookies xs) r (cookie_of r) q

  pub rising-inserted : IsStrictlySortedBy nat_cmp xs → IsStrictlySortedBy nat_cmp (insert xs place r)
  rising-inserted h =
      let keys = sym (keys_of-with_cookies (insert xs place r)) ∙ ap (λ es. keys_of es) (with_cookies-insert xs place r within under over) in
      subst (IsStrictlySortedBy nat_cmp) (sym keys) (ordered-insert (with_cookies xs) r (cookie_of r) (subst (IsStrictlySortedBy nat_cmp) (sym (keys_of-with_cookies xs)) h))

-- a registration that is there already
at-there : (xs : List ℕ) (i r : ℕ) → i < length xs → get_or xs i 0 ≡ r → at (with_cookies xs) r ≡ Some (cookie_of r)
at-there [] i r low is = absurd (omega arith)
at-there (x ∷ xs) zero r low is = ap (λ b. cond b (Some (cookie_of x)) (at (with_cookies xs) r)) (is_at-true r x (sym is)) ∙ ap (λ n. Some (cookie_of n)) is
at-there (x ∷ xs) (suc i) r low is = elim (cases_Bool (is_at (nat_cmp r) x)) [
  | inl here ↦ ap (λ b. cond b (Some (cookie_of x)) (at (with_cookies xs) r)) here ∙ ap (λ n. Some (cookie_of n)) (sym (is_at-is r x here))
  | inr past ↦ ap (λ b. cond b (Some (cookie_of x)) (at (with_cookies xs) r)) past ∙ at-there xs i r (omega arith) is
]

pub at-again : (xs : List ℕ) (i r : ℕ) → i < length xs → get_or xs i 0 ≡ r → (q : ℕ) → at (with_cookies xs) q ≡ cond (is_at (nat_cmp r) q) (Some (cookie_of r)) (at (with_cookies xs) q)
at-again xs i r low is q = elim (cases_Bool (is_at (nat_cmp r) q)) [
  | inl here ↦
      ap (λ n. at (with_cookies xs) n) (sym (is_at-is r q here)) ∙ at-there xs i r low is
      ∙ sym (ap (λ b. cond b (Some (cookie_of r)) (at (with_cookies xs) q)) here)
  | inr past ↦ sym (ap (λ b. cond b (Some (cookie_of r)) (at (with_cookies xs) q)) past)
]

-- what a search found
pub at-found : (xs ys : List ℕ) (i r : ℕ) → ys ≡ xs → IsBinarySearchResult (λ y. nat_cmp y r) ys (Ok i) → IsStrictlySortedBy nat_cmp xs → (q : ℕ) → at (with_cookies xs) q ≡ cond (is_at (nat_cmp r) q) (Some (cookie_of r)) (at (with_cookies xs) q)
at-found xs ys i r is there h q =
    let found : (i < length xs) × (get_or xs i 0 ≡ r) = searched xs r (Ok i) (subst (λ zs. IsBinarySearchResult (λ y. nat_cmp y r) zs (Ok i)) is there) (rising-at xs h) in
    at-again xs i r found.0 found.1 q

module _ (xs ys : List ℕ) (i r : ℕ) (is : ys ≡ xs) (past : IsBinarySearchResult (λ y. nat_cmp y r) ys (Err i)) (h : IsStrictlySortedBy nat_cmp xs) where
  place : (i ≤ length xs) × ((k : ℕ) → k < i → get_or xs k 0 < r) × ((k : ℕ) → i ≤ k → k < length xs → r < get_or xs k 0)
  place = searched xs r (Err i) (subst (λ zs. IsBinarySearchResult (λ y. nat_cmp y r) zs (Err i)) is past) (rising-at xs h)

  pub put-within : i ≤ length xs
  put-within = place.0

  pub at-put : (q : ℕ) → at (with_cookies (insert xs i r)) q ≡ cond (is_at (nat_cmp r) q) (Some (cookie_of r)) (at (with_cookies xs) q)
  at-put = at-inserted xs i r place.0 place.1 place.2

  pub rising-put : IsStrictlySortedBy nat_cmp (insert xs i r)
  rising-put = rising-inserted xs i r place.0 place.1 place.2 h

-- their cookies, one by one
values-push : (xs : List ℕ) (x : ℕ) → values_of (with_cookies (xs ++ x ∷ [])) ≡ values_of (with_cookies xs) ++ cookie_of x ∷ []
values-push [] x = refl
values-push (y ∷ xs) x = ap (λ cs. cookie_of y ∷ cs) (values-push xs x)

pub listed-more : (xs cookies more : List ℕ) (i c d : ℕ) → i < length xs → cookies ≡ values_of (with_cookies (take i xs)) → more ≡ cookies ++ c ∷ [] → c ≡ cookie_of (get_or xs i d) → more ≡ values_of (with_cookies (take (i + 1) xs))
listed-more xs cookies more i c d low were pushed is =
    pushed ∙ ap (λ cs. cs ++ c ∷ []) were ∙ ap (λ n. values_of (with_cookies (take i xs)) ++ n ∷ []) is
    ∙ sym (values-push (take i xs) (get_or xs i d)) ∙ ap (λ rs. values_of (with_cookies rs)) (sym (take_more xs i d low))

pub none-listed : (xs : List ℕ) (i : ℕ) → i < length xs → values_of (with_cookies xs) ≡ [] → ⊥
none-listed [] i low none = absurd (omega arith)
none-listed (x ∷ xs) i low none = absurd (cc)
