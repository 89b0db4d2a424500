-- Watches by cookie, and what is found of them by registration: one more, one taken out, and one moved.
use Rattle.std.proofs.Common.{◌≡◌, ℕ, nat_eq, Bool, true, false, cond, refl, sym, ap, ◌∙◌, subst, List, [], ◌∷◌, suc, length, is_some, Option, None, Some, inl, inr}
use Rattle.std.specs.List.{IsDistinct, AllByRecursion}
use Rattle.std.specs.Map.{keys_of, lookup, set_value}
use Rattle.std.specs.Cmp.{nat_eq_equiv}
use Rattle.std.proofs.lemmas.Bool.{cases_Bool, eqb-true, eq-eqb}
use Rattle.std.proofs.lemmas.Option.{same_Some, none-some}
use Rattle.std.proofs.lemmas.Map.{lookup-set_value, keys-set_value}
use Rattle.std.proofs.lemmas.Map.Entries.{length-values_of}
use Rattle.fence_core.specs.Fence.{members_of}
use Rattle.fence_core.specs.Registration.{cookie_of}
use Rattle.fence_core.specs.Reported.{at}
use Rattle.fence_core.specs.Watch.{Watch}
use Rattle.fence_core.specs.Pending.{Places, watch_in, watch_if_any, if_of, pending_at, found, by_registration, in_order, watches_of}
use Rattle.fence_core.specs.Registered.{AreByCookie, AreKept}
use Rattle.fence_core.specs.declared.watches.pending.PendingWatch.{PendingWatch}
use Rattle.fence_core.proofs.InOrder.{lookup-apart, at-in_order, length-in_order}

AreByCookie-rest : (e : ℕ × PendingWatch) (es : Places) → IsDistinct nat_eq (keys_of (e ∷ es)) → AreByCookie (e ∷ es) → AreByCookie es
unfolding IsDistinct
AreByCookie-rest e es distinct own = λ cookie w is. elim (cases_Bool (nat_eq cookie e.0)) [
  | inl same ↦ absurd (none-some w (sym (ap (λ c. lookup (nat_eq c) es) (eqb-true cookie e.0 same) ∙ lookup-apart e.0 es distinct.0) ∙ is))
  | inr other ↦ own cookie w (ap (λ b. cond b (Some e.1) (lookup (nat_eq cookie) es)) other ∙ is)
]

-- what the first watch's key is
own-first : (e : ℕ × PendingWatch) (es : Places) → AreByCookie (e ∷ es) → cookie_of e.1.place.registration ≡ e.0
own-first e es own = own e.0 e.1 (ap (λ b. cond b (Some e.1) (lookup (nat_eq e.0) es)) (nat_eq_equiv.refl e.0))

-- a watch is found by its registration where its cookie has it
pub lookup-by_registration : (es : Places) (r : ℕ) → IsDistinct nat_eq (keys_of es) → AreByCookie es → lookup (nat_eq r) (by_registration es) ≡ found es r
unfolding IsDistinct
lookup-by_registration [] r distinct own = refl
lookup-by_registration (e ∷ es) r distinct own =
    let rest = lookup-by_registration es r distinct.1 (AreByCookie-rest e es distinct own) in
    elim (cases_Bool (nat_eq r e.1.place.registration)) [
      | inl here ↦
          let at : nat_eq (cookie_of r) e.0 ≡ true = eq-eqb (cookie_of r) e.0 (ap cookie_of (eqb-true r e.1.place.registration here) ∙ own-first e es own) in
          ap (λ b. cond b (Some (watch_in e.1)) (lookup (nat_eq r) (by_registration es))) here
          ∙ sym (ap (λ b. watch_if_any (cond b (Some e.1) None)) here)
          ∙ sym (ap (λ b. watch_if_any (if_of r (cond b (Some e.1) (lookup (nat_eq (cookie_of r)) es)))) at)
      | inr past ↦
          ap (λ b. cond b (Some (watch_in e.1)) (lookup (nat_eq r) (by_registration es))) past ∙ rest
          ∙ elim (cases_Bool (nat_eq (cookie_of r) e.0)) [
            | inl same ↦
                ap (λ o. watch_if_any (if_of r o)) (ap (λ c. lookup (nat_eq c) es) (eqb-true (cookie_of r) e.0 same) ∙ lookup-apart e.0 es distinct.0)
                ∙ sym (ap (λ b. watch_if_any (cond b (Some e.1) None)) past)
                ∙ sym (ap (λ b. watch_if_any (if_of r (cond b (Some e.1) (lookup (nat_eq (cookie_of r)) es)))) same)
            | inr other ↦ sym (ap (λ b. watch_if_any (if_of r (cond b (Some e.1) (lookup (nat_eq (cookie_of r)) es)))) other)
          ]
    ]

pub at-by_registration : (es : Places) (r : ℕ) → AreKept es → at (in_order (by_registration es)) r ≡ found es r
at-by_registration es r h = at-in_order (by_registration es) r ∙ lookup-by_registration es r h.distinct h.own

-- the watch that is found, and its cookie
pub found-is : (es : Places) (r : ℕ) (v : Watch) → found es r ≡ Some v → (w : PendingWatch) × (lookup (nat_eq (cookie_of r)) es ≡ Some w) × (w.place.registration ≡ r) × (watch_in w ≡ v)
found-is es r v is = by (lookup (nat_eq (cookie_of r)) es) refl is
  where
    by : (o : Option PendingWatch) → lookup (nat_eq (cookie_of r)) es ≡ o → watch_if_any (if_of r o) ≡ Some v → (w : PendingWatch) × (lookup (nat_eq (cookie_of r)) es ≡ Some w) × (w.place.registration ≡ r) × (watch_in w ≡ v)
    by None there is = absurd (none-some v is)
    by (Some w) there is = elim (cases_Bool (nat_eq r w.place.registration)) [
      | inl here ↦ (w, there, sym (eqb-true r w.place.registration here), same_Some (watch_in w) v (sym (ap (λ b. watch_if_any (cond b (Some w) None)) here) ∙ is))
      | inr past ↦ absurd (none-some v (sym (ap (λ b. watch_if_any (cond b (Some w) None)) past) ∙ is))
    ]

pub found-there : (es : Places) (cookie : ℕ) (w : PendingWatch) → AreByCookie es → lookup (nat_eq cookie) es ≡ Some w → found es w.place.registration ≡ Some (watch_in w)
found-there es cookie w own there =
    let r = w.place.registration in
    ap (λ o. watch_if_any (if_of r o)) (ap (λ c. lookup (nat_eq c) es) (own cookie w there) ∙ there)
    ∙ ap (λ b. watch_if_any (cond b (Some w) None)) (nat_eq_equiv.refl r)

-- no two watches have the same registration
apart-lookup : {X : Type 0} (r : ℕ) (es : List (ℕ × X)) → lookup (nat_eq r) es ≡ None → AllByRecursion (λ y. nat_eq r y ≡ false) (keys_of es)
apart-lookup r [] none = tt
apart-lookup r (e ∷ es) none = elim (cases_Bool (nat_eq r e.0)) [
  | inl here ↦ absurd (none-some e.1 (sym none ∙ ap (λ b. cond b (Some e.1) (lookup (nat_eq r) es)) here))
  | inr past ↦ (past, apart-lookup r es (sym (ap (λ b. cond b (Some e.1) (lookup (nat_eq r) es)) past) ∙ none))
]

distinct-by_registration : (es : Places) → IsDistinct nat_eq (keys_of es) → AreByCookie es → IsDistinct nat_eq (keys_of (by_registration es))
unfolding IsDistinct
distinct-by_registration [] distinct own = tt
distinct-by_registration (e ∷ es) distinct own =
    let rest = AreByCookie-rest e es distinct own in
    let r = e.1.place.registration in (
      apart-lookup r (by_registration es)
          (lookup-by_registration es r distinct.1 rest ∙ ap (λ o. watch_if_any (if_of r o)) (ap (λ c. lookup (nat_eq c) es) (own-first e es own) ∙ lookup-apart e.0 es distinct.0)),
      distinct-by_registration es distinct.1 rest,
    )

length-by_registration : (es : Places) → length (by_registration es) ≡ length es
length-by_registration [] = refl
length-by_registration (e ∷ es) = ap suc (length-by_registration es)

pub length-watches_of : (es : Places) → AreKept es → length (watches_of es) ≡ length es
length-watches_of es h = length-values_of (in_order (by_registration es)) ∙ length-in_order (by_registration es) (distinct-by_registration es h.distinct h.own) ∙ length-by_registration es

-- one more watch, of a new cookie
module _ (es more : Places) (cookie : ℕ) (w : PendingWatch) (its : cookie_of w.place.registration ≡ cookie) (new : lookup (nat_eq cookie) es ≡ None) (put : (q : ℕ) → lookup (nat_eq q) more ≡ cond (nat_eq cookie q) (Some w) (lookup (nat_eq q) es)) (h : AreKept es) (distinct : IsDistinct nat_eq (keys_of more)) where
  pub AreKept-put : AreKept more
  AreKept-put = record {
    distinct = distinct;
    own = λ q v is. elim (cases_Bool (nat_eq cookie q)) [
      | inl here ↦
          let same : w ≡ v = same_Some w v (sym (put q ∙ ap (λ b. cond b (Some w) (lookup (nat_eq q) es)) here) ∙ is) in
          ap (λ (x : PendingWatch). cookie_of x.place.registration) (sym same) ∙ its ∙ eqb-true cookie q here
      | inr other ↦ h.own q v (sym (put q ∙ ap (λ b. cond b (Some w) (lookup (nat_eq q) es)) other) ∙ is)
    ];
  }

  pub by_registration-put : (q : ℕ) → lookup (nat_eq q) (by_registration more) ≡ cond (nat_eq w.place.registration q) (Some (watch_in w)) (lookup (nat_eq q) (by_registration es))
  by_registration-put q =
      let r = w.place.registration in
      lookup-by_registration more q distinct AreKept-put.own ∙ ap (λ o. watch_if_any (if_of q o)) (put (cookie_of q))
      ∙ elim (cases_Bool (nat_eq r q)) [
        | inl here ↦
            let is : r ≡ q = eqb-true r q here in
            ap (λ b. watch_if_any (if_of q (cond b (Some w) (lookup (nat_eq (cookie_of q)) es)))) (eq-eqb cookie (cookie_of q) (sym its ∙ ap cookie_of is))
            ∙ ap (λ b. watch_if_any (cond b (Some w) None)) (eq-eqb q r (sym is))
            ∙ sym (ap (λ b. cond b (Some (watch_in w)) (lookup (nat_eq q) (by_registration es))) here)
        | inr other ↦
            elim (cases_Bool (nat_eq cookie (cookie_of q))) [
              | inl same ↦
                  ap (λ b. watch_if_any (if_of q (cond b (Some w) (lookup (nat_eq (cookie_of q)) es)))) same
                  ∙ ap (λ b. watch_if_any (cond b (Some w) None)) (nat_eq_equiv.symm q r ∙ other)
                  ∙ sym (ap (λ c. watch_if_any (if_of q (lookup (nat_eq c) es))) (sym (eqb-true cookie (cookie_of q) same)) ∙ ap (λ o. watch_if_any (if_of q o)) new)
              | inr apart ↦ ap (λ b. watch_if_any (if_of q (cond b (Some w) (lookup (nat_eq (cookie_of q)) es)))) apart
            ]
            ∙ sym (lookup-by_registration es q h.distinct h.own)
            ∙ sym (ap (λ b. cond b (Some (watch_in w)) (lookup (nat_eq q) (by_registration es))) other)
      ]

-- the watch of a cookie taken out
module _ (es left : Places) (cookie : ℕ) (w : PendingWatch) (there : lookup (nat_eq cookie) es ≡ Some w) (out : (q : ℕ) → lookup (nat_eq q) left ≡ cond (nat_eq cookie q) None (lookup (nat_eq q) es)) (h : AreKept es) (distinct : IsDistinct nat_eq (keys_of left)) where
  pub still-there : (q : ℕ) (v : PendingWatch) → lookup (nat_eq q) left ≡ Some v → (nat_eq cookie q ≡ false) × (lookup (nat_eq q) es ≡ Some v)
  still-there q v is = elim (cases_Bool (nat_eq cookie q)) [
    | inl here ↦ absurd (none-some v (sym (out q ∙ ap (λ b. cond b None (lookup (nat_eq q) es)) here) ∙ is))
    | inr other ↦ (other, sym (out q ∙ ap (λ b. cond b None (lookup (nat_eq q) es)) other) ∙ is)
  ]

  pub AreKept-taken : AreKept left
  AreKept-taken = record { distinct = distinct; own = λ q v is. h.own q v (still-there q v is).1 }

  pub by_registration-taken : (q : ℕ) → lookup (nat_eq q) (by_registration left) ≡ cond (nat_eq w.place.registration q) None (lookup (nat_eq q) (by_registration es))
  by_registration-taken q =
      let r = w.place.registration in
      let its : cookie_of r ≡ cookie = h.own cookie w there in
      lookup-by_registration left q distinct AreKept-taken.own ∙ ap (λ o. watch_if_any (if_of q o)) (out (cookie_of q))
      ∙ elim (cases_Bool (nat_eq r q)) [
        | inl here ↦
            ap (λ b. watch_if_any (if_of q (cond b None (lookup (nat_eq (cookie_of q)) es)))) (eq-eqb cookie (cookie_of q) (sym its ∙ ap cookie_of (eqb-true r q here)))
            ∙ sym (ap (λ b. cond b None (lookup (nat_eq q) (by_registration es))) here)
        | inr other ↦
            elim (cases_Bool (nat_eq cookie (cookie_of q))) [
              | inl same ↦
                  ap (λ b. watch_if_any (if_of q (cond b None (lookup (nat_eq (cookie_of q)) es)))) same
                  ∙ sym (ap (λ o. watch_if_any (if_of q o)) (ap (λ c. lookup (nat_eq c) es) (sym (eqb-true cookie (cookie_of q) same)) ∙ there) ∙ ap (λ b. watch_if_any (cond b (Some w) None)) (nat_eq_equiv.symm q r ∙ other))
              | inr apart ↦ ap (λ b. watch_if_any (if_of q (cond b None (lookup (nat_eq (cookie_of q)) es)))) apart
            ]
            ∙ sym (lookup-by_registration es q h.distinct h.own)
            ∙ sym (ap (λ b. cond b None (lookup (nat_eq q) (by_registration es))) other)
      ]

-- a watch moved to another place, under its registration
pub by_registration-moved : (test : ℕ → Bool) (es : Places) (w v : PendingWatch) → lookup test es ≡ Some w → v.place.registration ≡ w.place.registration → v.fence ≡ w.fence → by_registration (set_value test es v) ≡ by_registration es
by_registration-moved test [] w v is same fence = refl
by_registration-moved test (e ∷ es) w v is same fence = by (test e.0) refl (by_registration-moved test es w v)
  where
    by : (b : Bool) → test e.0 ≡ b → (lookup test es ≡ Some w → v.place.registration ≡ w.place.registration → v.fence ≡ w.fence → by_registration (set_value test es v) ≡ by_registration es) → by_registration (set_value test (e ∷ es) v) ≡ by_registration (e ∷ es)
    by true here rest =
        let its : e.1 ≡ w = same_Some e.1 w (sym (ap (λ b. cond b (Some e.1) (lookup test es)) here) ∙ is) in
        ap (λ b. by_registration (cond b ((e.0, v) ∷ es) (e ∷ set_value test es v))) here
        ∙ (λ i. (same i, record { cookie = cookie_of (same i); points = members_of (fence i) }) ∷ by_registration es)
        ∙ ap (λ (x : PendingWatch). (x.place.registration, watch_in x) ∷ by_registration es) (sym its)
    by false past rest =
        ap (λ b. by_registration (cond b ((e.0, v) ∷ es) (e ∷ set_value test es v))) past
        ∙ ap (λ xs. (e.1.place.registration, watch_in e.1) ∷ xs) (rest (sym (ap (λ b. cond b (Some e.1) (lookup test es)) past) ∙ is) same fence)

pub lookup-moved : (cookie : ℕ) (es : Places) (w v : PendingWatch) (q : ℕ) → lookup (nat_eq cookie) es ≡ Some w → lookup (nat_eq q) (set_value (nat_eq cookie) es v) ≡ cond (nat_eq cookie q) (Some v) (lookup (nat_eq q) es)
lookup-moved cookie es w v q is = lookup-set_value nat_eq_equiv (nat_eq cookie) (λ x y here. ap (λ c. nat_eq c y) (eqb-true cookie x here)) q v es (ap is_some is)

pub AreKept-moved : (cookie : ℕ) (es : Places) (w v : PendingWatch) → lookup (nat_eq cookie) es ≡ Some w → v.place.registration ≡ w.place.registration → AreKept es → AreKept (set_value (nat_eq cookie) es v)
AreKept-moved cookie es w v there same h = record {
  distinct = subst (IsDistinct nat_eq) (sym (keys-set_value (nat_eq cookie) es v)) h.distinct;
  own = λ q x is. elim (cases_Bool (nat_eq cookie q)) [
    | inl here ↦
        let its : v ≡ x = same_Some v x (sym (lookup-moved cookie es w v q there ∙ ap (λ b. cond b (Some v) (lookup (nat_eq q) es)) here) ∙ is) in
        ap (λ (y : PendingWatch). cookie_of y.place.registration) (sym its) ∙ ap cookie_of same ∙ h.own cookie w there ∙ eqb-true cookie q here
    | inr other ↦ h.own q x (sym (lookup-moved cookie es w v q there ∙ ap (λ b. cond b (Some v) (lookup (nat_eq q) es)) other) ∙ is)
  ];
}

-- the watch of a cookie is that of its registration
pub pending_at-there : (es : Places) (r : ℕ) (w : PendingWatch) → lookup (nat_eq (cookie_of r)) es ≡ Some w → w.place.registration ≡ r → pending_at es r ≡ Some w
pending_at-there es r w there is = ap (if_of r) there ∙ ap (λ b. cond b (Some w) None) (eq-eqb r w.place.registration (sym is))
