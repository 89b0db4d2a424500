-- Queues of watches: a watch more or less, and how many of a queue's watches pass a test.
use Rattle.std.proofs.Common.{◌≡◌, ◌<◌, nat_eq, length, filter, Bool, true, false, not, cond, ◌&&◌, ◌||◌, refl, sym, ap, ◌∙◌, List, [], ◌∷◌, inl, inr, arith}
use Rattle.std.specs.declared.cmp.Ordering.{Ordering}
use Rattle.std.specs.declared.cmp.Ordering.TheVariants.{Less, Equal, Greater}
use Rattle.std.specs.Ordering.{is_eq, nat_cmp, ordering_then, match_ordering}
use Rattle.std.specs.List.{list_any}
use Rattle.std.specs.BTreeSet.{insert_key}
use Rattle.std.specs.Set.{remove_key}
use Rattle.std.proofs.lemmas.Bool.{cases_Bool}
use Rattle.fence_core.specs.PointIndex.{is_alike, has, number, order}
use Rattle.fence_core.specs.declared.watches.point_index.point_queue.Standing.{Standing}
use Rattle.fence_core.proofs.PointIndex.{is_eq-nat_cmp, one_standing}

is_eq-then : (o p : Ordering) → is_eq (ordering_then o p) ≡ (is_eq o && is_eq p)
is_eq-then Less p = refl
is_eq-then Equal p = refl
is_eq-then Greater p = refl

-- the order distinguishes all of them
pub is_eq-order : (a b : Standing) → is_eq (order a b) ≡ is_alike a b
is_eq-order a b =
    is_eq-then (nat_cmp a.value b.value) (nat_cmp a.registration b.registration)
    ∙ ap (λ t. t && is_eq (nat_cmp a.registration b.registration)) (is_eq-nat_cmp a.value b.value)
    ∙ ap (λ t. nat_eq a.value b.value && t) (is_eq-nat_cmp a.registration b.registration)

found-has : (s : Standing) (q : List Standing) → list_any (λ x. is_eq (order s x)) q ≡ has q s
found-has s q = λ i. list_any (λ x. is_eq-order s x i) q

cond-or : (a b : Bool) → cond a true b ≡ (a || b)
cond-or true b = refl
cond-or false b = refl

cond-and : (a b : Bool) → cond a false b ≡ (not a && b)
cond-and true b = refl
cond-and false b = refl

-- with one watch more
pub has-put : (old new : List Standing) (w s : Standing) → list_any (λ x. is_eq (order s x)) new ≡ cond (is_eq (order w s)) true (list_any (λ x. is_eq (order s x)) old) → has new s ≡ (is_alike w s || has old s)
has-put old new w s is =
    sym (found-has s new) ∙ is
    ∙ ap (λ b. cond b true (list_any (λ x. is_eq (order s x)) old)) (is_eq-order w s)
    ∙ ap (λ b. cond (is_alike w s) true b) (found-has s old)
    ∙ cond-or (is_alike w s) (has old s)

-- with one less
pub has-taken : (old new : List Standing) (w s : Standing) → list_any (λ x. is_eq (order s x)) new ≡ cond (is_eq (order w s)) false (list_any (λ x. is_eq (order s x)) old) → has new s ≡ (not (is_alike w s) && has old s)
has-taken old new w s is =
    sym (found-has s new) ∙ is
    ∙ ap (λ b. cond b false (list_any (λ x. is_eq (order s x)) old)) (is_eq-order w s)
    ∙ ap (λ b. cond (is_alike w s) false b) (found-has s old)
    ∙ cond-and (is_alike w s) (has old s)

keeps : (b : Bool) (x : Standing) (xs ys : List Standing) → length xs ≡ length ys → length (cond b (x ∷ xs) xs) ≡ length (cond b (x ∷ ys) ys)
keeps true x xs ys is = omega arith
keeps false x xs ys is = is

-- a watch that fails the test changes no count
pub number-put : (test : Standing → Bool) (q : List Standing) (w : Standing) → test w ≡ false → number test (insert_key order q w) ≡ number test q
number-put test [] w none = ap (λ b. length (cond b (w ∷ []) [])) none
number-put test (x ∷ q) w none = by (number-put test q w none) (order w x)
  where
    by : number test (insert_key order q w) ≡ number test q → (o : Ordering) → number test (match_ordering o (w ∷ x ∷ q) (x ∷ q) (x ∷ insert_key order q w)) ≡ number test (x ∷ q)
    by rest Less = ap (λ b. length (cond b (w ∷ filter test (x ∷ q)) (filter test (x ∷ q)))) none
    by rest Equal = refl
    by rest Greater = keeps (test x) x (filter test (insert_key order q w)) (filter test q) rest

fewer : (b : Bool) (x : Standing) (xs ys : List Standing) → length xs < length ys → length (cond b (x ∷ xs) xs) < length (cond b (x ∷ ys) ys)
fewer true x xs ys is = omega arith
fewer false x xs ys is = is

-- a watch that passes the test leaves fewer
pub number-taken : (test : Standing → Bool) (q : List Standing) (w : Standing) → test w ≡ true → has q w ≡ true → number test (remove_key (λ x. is_eq (order w x)) q) < number test q
number-taken test [] w is there = absurd (cc)
number-taken test (x ∷ q) w is there = elim (cases_Bool (is_alike w x)) [
  | inl alike ↦
      let left : remove_key (λ y. is_eq (order w y)) (x ∷ q) ≡ q = ap (λ b. cond b q (x ∷ remove_key (λ y. is_eq (order w y)) q)) (is_eq-order w x ∙ alike) in
      let one : number test (x ∷ q) ≡ length (x ∷ filter test q) = ap (λ b. length (cond b (x ∷ filter test q) (filter test q))) (ap test (sym (one_standing w x alike)) ∙ is) in
      omega (arith, ap (number test) left)
  | inr apart ↦
      let left : remove_key (λ y. is_eq (order w y)) (x ∷ q) ≡ x ∷ remove_key (λ y. is_eq (order w y)) q = ap (λ b. cond b q (x ∷ remove_key (λ y. is_eq (order w y)) q)) (is_eq-order w x ∙ apart) in
      let rest = fewer (test x) x (filter test (remove_key (λ y. is_eq (order w y)) q)) (filter test q) (number-taken test q w is (sym (ap (λ b. b || has q w) apart) ∙ there)) in
      omega (arith, rest, ap (number test) left)
]
