-- A free client that leaves no race may go first: whatever races behind lines of others races now, or behind its line and theirs.
use Rattle.std.proofs.Common.{◌≡◌, ◌≢◌, ◌⊎◌, ℕ, zero, suc, ◌+◌, ◌≤◌, ◌==◌, nat_le, nat_lt, Bool, true, false, not, ◌&&◌, ◌||◌, if◌then◌else◌, refl, sym, ap, ◌∙◌, subst, List, [], ◌∷◌, get_or, set, slice_get, Option, None, Some, arith, inl, inr}
use Rattle.std.specs.Cmp.Lexicographic.{nat_list_eq_equiv}
use Rattle.std.specs.List.{list_all}
use Rattle.std.proofs.lemmas.Bool.{and_from, and_parts, cases_Bool, eq-eqb, eqb-true, false≢true, le-leb, leb-true, ltb-true}
use Rattle.std.proofs.lemmas.List.{get_or-set_other}
use Rattle.std.proofs.lemmas.Option.{none-some, same_Some}
use Rattle.point_core.specs.Named.{same_name}
use Rattle.command_core.specs.declared.answer.Answer.{Answer}
use Rattle.explore_core.specs.Access.{RaceAt, conflict, holds, is_inside}
use Rattle.explore_core.specs.Branch.{Branching}
use Rattle.explore_core.specs.declared.access.Access.{Access}
use Rattle.explore_core.specs.declared.plan.Step.{Step}
use Rattle.explore_core.specs.Persistent.{Choice, continues, ends_in_time, is_far, leaves_no_race, may_end, misses_none}
use Rattle.explore_core.specs.Schedule.{Lines, Standing, is_taken, made_by, place_after, place_by}
use Rattle.explore_core.proofs.Persistent.{set-either}
use Rattle.explore_core.proofs.Showing.{or-cases}

pub all-at : {X : Type 0} (p : X → Bool) (xs : List X) (k : ℕ) (x : X) → list_all p xs ≡ true → slice_get xs k ≡ Some x → p x ≡ true
all-at p [] k x all at = absurd (none-some x at)
all-at p (y ∷ xs) zero x all at = subst (λ z. p z ≡ true) (same_Some y x at) (and_parts (p y) (list_all p xs) all).0
all-at p (y ∷ xs) (suc k) x all at = all-at p xs k x (and_parts (p y) (list_all p xs) all).1 at

-- accesses that conflict

or-swap : (a b : Bool) → (a || b) ≡ true → (b || a) ≡ true
or-swap true true is = refl
or-swap true false is = refl
or-swap false true is = refl
or-swap false false is = is

clients-apart : (a b : Access) → conflict a b ≡ true → a.client ≢ b.client
clients-apart a b is = λ same.
    let other = (and_parts (not (a.client == b.client)) (same_name a.buffer b.buffer && (a.writes || b.writes)) is).0 in
    false≢true (sym (ap not (eq-eqb a.client b.client same)) ∙ other)

conflict-swap : (a b : Access) → conflict a b ≡ true → conflict b a ≡ true
conflict-swap a b is =
    let parts = and_parts (not (a.client == b.client)) (same_name a.buffer b.buffer && (a.writes || b.writes)) is in
    let rest = and_parts (same_name a.buffer b.buffer) (a.writes || b.writes) parts.1 in
    let other : not (b.client == a.client) ≡ true = elim (cases_Bool (b.client == a.client)) [
      | inl same ↦ absurd (clients-apart a b is (sym (eqb-true b.client a.client same)))
      | inr isnt ↦ ap not isnt
    ] in
    and_from (not (b.client == a.client)) (same_name b.buffer a.buffer && (b.writes || a.writes)) other
    (and_from (same_name b.buffer a.buffer) (b.writes || a.writes) (nat_list_eq_equiv.symm b.buffer a.buffer ∙ rest.0) (or-swap a.writes b.writes rest.1))

-- an access that continues

next-held : (a : Access) (place : ℕ) → holds a place ≡ true → nat_lt place a.last ≡ true → holds a (place + 1) ≡ true
next-held a place inside before =
    let low = leb-true a.first place (and_parts (nat_le a.first place) (nat_le place a.last) inside).0 in
    let high = ltb-true place a.last before in
    and_from (nat_le a.first (place + 1)) (nat_le (place + 1) a.last) (le-leb a.first (place + 1) (omega (arith, low))) (le-leb (place + 1) a.last (omega (arith, high)))

held-either : (a : Access) (place otherwise : ℕ) (taken : Bool) → holds a (place + 1) ≡ true → holds a otherwise ≡ true → holds a (if taken then place + 1 else otherwise) ≡ true
held-either a place otherwise true next other = next
held-either a place otherwise false next other = other

held-after : (a : Access) (place : ℕ) (b : Option Branching) (given : Answer) → holds a place ≡ true → continues a place b ≡ true → holds a (place_by b place given) ≡ true
held-after a place None given inside on = next-held a place inside on
held-after a place (Some branch) given inside on =
    let parts = and_parts (nat_lt place a.last) (holds a branch.otherwise) on in
    held-either a place branch.otherwise (is_taken branch given) (next-held a place inside parts.0) parts.1

module _ (plan : Lines) (now later : Standing) (choice : Choice) (client : ℕ) (line : Step) (given : Answer) (chosen : choice.chosen client ≡ true)
    (still : (k : ℕ) → choice.chosen k ≡ true → made_by later k ≡ made_by now k)
    (others : (k : ℕ) → choice.chosen k ≡ false → (made_by now k ≤ made_by later k) × (made_by later k ≤ choice.limit k))
    (leaves : leaves_no_race plan.accesses choice client now.made line ≡ true) where
  -- the places once the client has made its line behind the lines of others
  abbrev ends : List ℕ
  ends = set later.made client (place_after line (made_by later client) given)

  elsewhere : (a : Access) → a.client ≢ client → is_inside a later.made ≡ true → is_inside a ends ≡ true
  elsewhere a isnt inside = ap (holds a) (get_or-set_other later.made client a.client (place_after line (made_by later client) given) 0 isnt) ∙ inside

  of-chosen : (a : Access) → choice.chosen a.client ≡ true → is_inside a later.made ≡ true → is_inside a now.made ≡ true
  of-chosen a is inside = ap (holds a) (sym (still a.client is)) ∙ inside

  continued : (a : Access) → a.client ≡ client → is_inside a later.made ≡ true → continues a (made_by now client) line.branch ≡ true → is_inside a ends ≡ true
  continued a own inside on =
      let place = made_by later client in
      let at : holds a place ≡ true = subst (λ c. holds a (get_or later.made c 0) ≡ true) own inside in
      let on-later : continues a place line.branch ≡ true = subst (λ p. continues a p line.branch ≡ true) (sym (still client chosen)) on in
      subst (λ c. holds a (get_or ends c 0) ≡ true) (sym own)
      (set-either (λ p. holds a p ≡ true) later.made client (place_after line place given) (held-after a place line.branch given at on-later) at)

  not-far : (b : Access) → choice.chosen b.client ≡ false → is_inside b later.made ≡ true → is_far choice now.made b ≡ true → ⊥
  not-far b isnt inside far =
      let place = made_by later b.client in
      let moved = others b.client isnt in
      let parts = and_parts (nat_le b.first place) (nat_le place b.last) inside in
      let low = leb-true b.first place parts.0 in
      let high = leb-true place b.last parts.1 in
      let from = moved.0 in
      let within = moved.1 in
      elim (or-cases (nat_lt (choice.limit b.client) b.first) (nat_lt b.last (made_by now b.client)) far) [
        | inl stops ↦ (let short = ltb-true (choice.limit b.client) b.first stops in omega (arith, short, low, within))
        | inr past ↦ (let behind = ltb-true b.last (made_by now b.client) past in omega (arith, behind, high, from))
      ]

  -- the other access is made now too
  both-now : (a b : Access) → conflict a b ≡ true → misses_none choice now.made a b ≡ true → is_inside b later.made ≡ true → is_inside b now.made ≡ true
  both-now a b clash misses inside = elim (cases_Bool (choice.chosen b.client)) [
    | inl is ↦ of-chosen b is inside
    | inr isnt ↦ (
        let rest = choice.chosen b.client || (is_inside b now.made || is_far choice now.made b) in
        let some : rest ≡ true = sym (ap (λ x. not x || rest) clash) ∙ misses in
        let near : (is_inside b now.made || is_far choice now.made b) ≡ true = sym (ap (λ x. x || (is_inside b now.made || is_far choice now.made b)) isnt) ∙ some in
        elim (or-cases (is_inside b now.made) (is_far choice now.made b) near) [
          | inl here ↦ here
          | inr far ↦ absurd (not-far b isnt inside far)
        ])
  ]

  -- the client's access ends where the race is now, or continues
  of-client : (a b : Access) (k j : ℕ) → slice_get plan.accesses k ≡ Some a → slice_get plan.accesses j ≡ Some b → a.client ≡ client → conflict a b ≡ true → is_inside a later.made ≡ true
      → is_inside b later.made ≡ true → ((is_inside a now.made ≡ true) × (is_inside b now.made ≡ true)) ⊎ (is_inside a ends ≡ true)
  of-client a b k j a-is b-is own clash in-a in-b =
      let place = made_by now client in
      let here : is_inside a now.made ≡ true = of-chosen a (subst (λ c. choice.chosen c ≡ true) (sym own) chosen) in-a in
      elim (cases_Bool (continues a place line.branch)) [
        | inl on ↦ inr (continued a own in-a on)
        | inr off ↦ (
            let may : may_end client now.made line a ≡ true =
            and_from (a.client == client) (is_inside a now.made && not (continues a place line.branch)) (eq-eqb a.client client own)
            (and_from (is_inside a now.made) (not (continues a place line.branch)) here (ap not off)) in
            let each : ends_in_time plan.accesses choice client now.made line a ≡ true = all-at (ends_in_time plan.accesses choice client now.made line) plan.accesses k a leaves a-is in
            let all : list_all (misses_none choice now.made a) plan.accesses ≡ true = sym (ap (λ x. not x || list_all (misses_none choice now.made a) plan.accesses) may) ∙ each in
            inl (here, both-now a b clash (all-at (misses_none choice now.made a) plan.accesses j b all b-is) in-b))
      ]

  pub race-kept : (one other : ℕ) → RaceAt plan later.made one other → RaceAt plan now.made one other ⊎ RaceAt plan ends one other
  race-kept one other r =
      let a = r.first in
      let b = r.second in
      let parts = and_parts (conflict a b) (is_inside a later.made && is_inside b later.made) r.race in
      let clash = parts.0 in
      let both = and_parts (is_inside a later.made) (is_inside b later.made) parts.1 in
      let race : (made : List ℕ) → is_inside a made ≡ true → is_inside b made ≡ true → RaceAt plan made one other = λ made in-a in-b. record {
        before = r.before;
        first = a;
        first_is = r.first_is;
        second = b;
        second_is = r.second_is;
        race = and_from (conflict a b) (is_inside a made && is_inside b made) clash (and_from (is_inside a made) (is_inside b made) in-a in-b);
      } in
      elim (cases_Bool (a.client == client)) [
        | inl own ↦ (
            let its = eqb-true a.client client own in
            elim (of-client a b one other r.first_is r.second_is its clash both.0 both.1) [
              | inl here ↦ inl (race now.made here.0 here.1)
              | inr on ↦ inr (race ends on (elsewhere b (λ same. clients-apart a b clash (its ∙ sym same)) both.1))
            ])
        | inr foreign ↦ (
            let apart = elsewhere a (λ same. false≢true (sym foreign ∙ eq-eqb a.client client same)) both.0 in
            elim (cases_Bool (b.client == client)) [
              | inl own ↦ elim (of-client b a other one r.second_is r.first_is (eqb-true b.client client own) (conflict-swap a b clash) both.1 both.0) [
                | inl here ↦ inl (race now.made here.1 here.0)
                | inr on ↦ inr (race ends apart on)
              ]
              | inr neither ↦ inr (race ends apart (elsewhere b (λ same. false≢true (sym neither ∙ eq-eqb b.client client same)) both.1))
            ])
      ]
