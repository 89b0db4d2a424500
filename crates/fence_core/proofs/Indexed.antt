-- The index of waiting points: with one watch taken out, with one more, and with one moved on.
use Rattle.std.proofs.Common.{◌≡◌, ◌≢◌, ℕ, nat_eq, nat_le, Bool, true, false, not, cond, ◌&&◌, ◌||◌, refl, sym, ap, ◌∙◌, subst, List, [], ◌∷◌, Option, None, Some, inl, inr, ◌⊎◌}
use Rattle.std.specs.Map.{lookup}
use Rattle.std.proofs.lemmas.Bool.{cases_Bool, eqb-true, eq-eqb, false≢true, and_parts, and_from}
use Rattle.std.proofs.lemmas.Option.{same_Some, none-some}
use Rattle.point_core.specs.declared.entry.Point.{Point}
use Rattle.point_core.specs.Reach.{is_reached, value_at}
use Rattle.fence_core.specs.Fence.{members_of, are_reached}
use Rattle.fence_core.specs.Registration.{cookie_of}
use Rattle.fence_core.specs.Watch.{Watch}
use Rattle.fence_core.specs.Watches.{fires}
use Rattle.fence_core.specs.Pending.{Places, found}
use Rattle.fence_core.specs.PointIndex.{waiting, is_same, holds, is_of, is_due}
use Rattle.fence_core.specs.Registered.{AreByCookie, IsIndexed}
use Rattle.fence_core.specs.declared.watches.pending.PendingWatch.{PendingWatch}
use Rattle.fence_core.specs.declared.watches.point_index.WaitingPoint.{WaitingPoint}
use Rattle.fence_core.specs.declared.watches.point_index.point_queue.Standing.{Standing}
use Rattle.fence_core.proofs.PointIndex.{holds-nothing, is_same-is, same_itself, one_point, not_same, same-one}
use Rattle.fence_core.proofs.ByCookie.{found-is}

pub or_cases : (a b : Bool) → (a || b) ≡ true → (a ≡ true) ⊎ (b ≡ true)
or_cases true b h = inl refl
or_cases false b h = inr h

pub or-right : (a : Bool) {b : Bool} → b ≡ true → (a || b) ≡ true
or-right true h = refl
or-right false h = h

-- all points are reached, so each is due
pub reached-due : (reach : List ℕ) (ps : List Point) (r : ℕ) (k : WaitingPoint) → are_reached reach ps ≡ true → is_of ps r k ≡ true → is_due k.ctx (value_at reach k.ctx) k ≡ true
reached-due reach [] r k all h = absurd (cc)
reached-due reach (p ∷ ps) r k all h =
    let parts = and_parts (is_reached reach p) (are_reached reach ps) all in
    elim (or_cases (is_same (waiting p r) k) (is_of ps r k) h) [
      | inl same ↦
          let is = is_same-is (waiting p r) k same in
          and_from (nat_eq k.ctx k.ctx) (nat_le k.value (value_at reach k.ctx)) (eq-eqb k.ctx k.ctx refl) (sym (ap (λ c. nat_le p.value (value_at reach c)) is.0 ∙ ap (λ v. nat_le v (value_at reach k.ctx)) is.1) ∙ parts.0)
      | inr more ↦ reached-due reach ps r k parts.1 more
    ]

-- an index stays correct under equal queues
pub IsIndexed-same : (es : Places) (index kept : List (List Standing)) → IsIndexed es index → ((k : WaitingPoint) → holds kept k ≡ holds index k) → IsIndexed es kept
IsIndexed-same es index kept h same = record {
  owned = λ k there. h.owned k (sym (same k) ∙ there);
  some = λ cookie w is. same w.place ∙ h.some cookie w is;
}

pub IsIndexed-none : (es : Places) (index : List (List Standing)) → es ≡ [] → index ≡ [] → IsIndexed es index
IsIndexed-none es index is also = record {
  owned = λ k there. absurd (false≢true (sym (holds-nothing index k also) ∙ there));
  some = λ cookie w there. absurd (none-some w (sym (ap (lookup (nat_eq cookie)) is) ∙ there));
}

abbrev cookie_in : WaitingPoint → ℕ
cookie_in k = cookie_of k.registration

-- what is found of another cookie
lookup-other : (es other : Places) (cookie q : ℕ) (o : Option PendingWatch) → lookup (nat_eq q) other ≡ cond (nat_eq cookie q) o (lookup (nat_eq q) es) → nat_eq cookie q ≡ false → lookup (nat_eq q) other ≡ lookup (nat_eq q) es
lookup-other es other cookie q o is apart = is ∙ ap (λ b. cond b o (lookup (nat_eq q) es)) apart

lookup-here : (es other : Places) (cookie q : ℕ) (o : Option PendingWatch) → lookup (nat_eq q) other ≡ cond (nat_eq cookie q) o (lookup (nat_eq q) es) → nat_eq cookie q ≡ true → lookup (nat_eq q) other ≡ o
lookup-here es other cookie q o is here = is ∙ ap (λ b. cond b o (lookup (nat_eq q) es)) here

-- a watch taken out
pub IsIndexed-remove : (es left : Places) (index kept : List (List Standing)) (cookie : ℕ) (w : PendingWatch) → IsIndexed es index → AreByCookie es → lookup (nat_eq cookie) es ≡ Some w → ((q : ℕ) → lookup (nat_eq q) left ≡ cond (nat_eq cookie q) None (lookup (nat_eq q) es)) → ((k : WaitingPoint) → holds kept k ≡ (not (is_same w.place k) && holds index k)) → IsIndexed left kept
IsIndexed-remove es left index kept cookie w h own there out taken = record {
  owned = λ k is.
      let parts = and_parts (not (is_same w.place k)) (holds index k) (sym (taken k) ∙ is) in
      let old = h.owned k parts.1 in
      elim (cases_Bool (nat_eq cookie (cookie_in k))) [
        | inl here ↦
            let its : w ≡ old.0 = same_Some w old.0 (sym there ∙ ap (λ c. lookup (nat_eq c) es) (eqb-true cookie (cookie_in k) here) ∙ old.1) in
            let same : w.place ≡ k = ap (λ (x : PendingWatch). x.place) its ∙ old.2 in
            absurd (false≢true (sym (ap not (same-one w.place k same)) ∙ parts.0))
        | inr other ↦ (old.0, lookup-other es left cookie (cookie_in k) None (out (cookie_in k)) other ∙ old.1, old.2, old.3)
      ];
  some = λ q v is. elim (cases_Bool (nat_eq cookie q)) [
    | inl here ↦ absurd (none-some v (sym (lookup-here es left cookie q None (out q) here) ∙ is))
    | inr other ↦
        let before = sym (lookup-other es left cookie q None (out q) other) ∙ is in
        let apart : w.place ≢ v.place = λ e. false≢true (sym other ∙ eq-eqb cookie q (sym (own cookie w there) ∙ ap cookie_in e ∙ own q v before)) in
        taken v.place ∙ ap (λ b. not b && holds index v.place) (not_same w.place v.place apart) ∙ h.some q v before
  ];
}

-- no point of a cookie that no watch has is held
pub not_held : (es : Places) (index : List (List Standing)) (k : WaitingPoint) → IsIndexed es index → lookup (nat_eq (cookie_of k.registration)) es ≡ None → holds index k ≡ false
not_held es index k h new = elim (cases_Bool (holds index k)) [
  | inl there ↦ let old = h.owned k there in absurd (none-some old.0 (sym new ∙ old.1))
  | inr none ↦ none
]

-- such a point put in and taken out again
pub holds-undo : (index grown back : List (List Standing)) (p place : WaitingPoint) → place ≡ p → holds index p ≡ false → ((k : WaitingPoint) → holds grown k ≡ (is_same p k || holds index k)) → ((k : WaitingPoint) → holds back k ≡ (not (is_same place k) && holds grown k)) → (k : WaitingPoint) → holds back k ≡ holds index k
holds-undo index grown back p place is none put out k =
    out k ∙ ap (λ w. not (is_same w k) && holds grown k) is ∙ ap (λ b. not (is_same p k) && b) (put k)
    ∙ elim (cases_Bool (is_same p k)) [
      | inl same ↦ ap (λ b. not b && (b || holds index k)) same ∙ sym (ap (holds index) (sym (one_point p k same)) ∙ none)
      | inr other ↦ ap (λ b. not b && (b || holds index k)) other
    ]

-- one more watch, of a new cookie
pub IsIndexed-push : (es more : Places) (index kept : List (List Standing)) (cookie : ℕ) (w : PendingWatch) → IsIndexed es index → lookup (nat_eq cookie) es ≡ None → cookie_of w.place.registration ≡ cookie → is_of (members_of w.fence) w.place.registration w.place ≡ true → ((q : ℕ) → lookup (nat_eq q) more ≡ cond (nat_eq cookie q) (Some w) (lookup (nat_eq q) es))
    → ((k : WaitingPoint) → holds kept k ≡ (is_same w.place k || holds index k)) → IsIndexed more kept
IsIndexed-push es more index kept cookie w h new its member put held = record {
  owned = λ k there. elim (or_cases (is_same w.place k) (holds index k) (sym (held k) ∙ there)) [
    | inl here ↦
        subst (λ (x : WaitingPoint). (v : PendingWatch) × (lookup (nat_eq (cookie_of x.registration)) more ≡ Some v) × (v.place ≡ x) × (is_of (members_of v.fence) x.registration x ≡ true)) (one_point w.place k here)
        (w, lookup-here es more cookie (cookie_in w.place) (Some w) (put (cookie_in w.place)) (eq-eqb cookie (cookie_in w.place) (sym its)), refl, member)
    | inr old ↦
        let was = h.owned k old in
        elim (cases_Bool (nat_eq cookie (cookie_in k))) [
          | inl same ↦ absurd (none-some was.0 (sym new ∙ ap (λ c. lookup (nat_eq c) es) (eqb-true cookie (cookie_in k) same) ∙ was.1))
          | inr other ↦ (was.0, lookup-other es more cookie (cookie_in k) (Some w) (put (cookie_in k)) other ∙ was.1, was.2, was.3)
        ]
  ];
  some = λ q v is. elim (cases_Bool (nat_eq cookie q)) [
    | inl here ↦
        let same : w ≡ v = same_Some w v (sym (lookup-here es more cookie q (Some w) (put q) here) ∙ is) in
        subst (λ (x : PendingWatch). holds kept x.place ≡ true) same (held w.place ∙ ap (λ b. b || holds index w.place) (same_itself w.place))
    | inr other ↦ held v.place ∙ or-right (is_same w.place v.place) (h.some q v (sym (lookup-other es more cookie q (Some w) (put q) other) ∙ is))
  ];
}

-- a watch moved on to another of its points
pub IsIndexed-move : (es moved : Places) (index kept : List (List Standing)) (cookie : ℕ) (w v : PendingWatch) → IsIndexed es index → AreByCookie es → lookup (nat_eq cookie) es ≡ Some w → v.place.registration ≡ w.place.registration → is_of (members_of v.fence) v.place.registration v.place ≡ true → w.place ≢ v.place → ((q : ℕ) → lookup (nat_eq q) moved ≡ cond (nat_eq cookie q) (Some v) (lookup (nat_eq q) es))
    → ((k : WaitingPoint) → holds kept k ≡ (not (is_same w.place k) && (is_same v.place k || holds index k))) → IsIndexed moved kept
IsIndexed-move es moved index kept cookie w v h own there same member apart put held =
    let its : cookie_in v.place ≡ cookie = ap cookie_of same ∙ own cookie w there in
    record {
      owned = λ k is.
          let parts = and_parts (not (is_same w.place k)) (is_same v.place k || holds index k) (sym (held k) ∙ is) in
          elim (or_cases (is_same v.place k) (holds index k) parts.1) [
            | inl here ↦
                subst (λ (x : WaitingPoint). (u : PendingWatch) × (lookup (nat_eq (cookie_of x.registration)) moved ≡ Some u) × (u.place ≡ x) × (is_of (members_of u.fence) x.registration x ≡ true)) (one_point v.place k here)
                (v, lookup-here es moved cookie (cookie_in v.place) (Some v) (put (cookie_in v.place)) (eq-eqb cookie (cookie_in v.place) (sym its)), refl, member)
            | inr old ↦
                let was = h.owned k old in
                elim (cases_Bool (nat_eq cookie (cookie_in k))) [
                  | inl one ↦
                      let is_w : w ≡ was.0 = same_Some w was.0 (sym there ∙ ap (λ c. lookup (nat_eq c) es) (eqb-true cookie (cookie_in k) one) ∙ was.1) in
                      let here : w.place ≡ k = ap (λ (x : PendingWatch). x.place) is_w ∙ was.2 in
                      absurd (false≢true (sym (ap not (same-one w.place k here)) ∙ parts.0))
                  | inr other ↦ (was.0, lookup-other es moved cookie (cookie_in k) (Some v) (put (cookie_in k)) other ∙ was.1, was.2, was.3)
                ]
          ];
      some = λ q x is. elim (cases_Bool (nat_eq cookie q)) [
        | inl here ↦
            let is_v : v ≡ x = same_Some v x (sym (lookup-here es moved cookie q (Some v) (put q) here) ∙ is) in
            subst (λ (u : PendingWatch). holds kept u.place ≡ true) is_v
            (held v.place ∙ ap (λ b. not b && (is_same v.place v.place || holds index v.place)) (not_same w.place v.place apart) ∙ ap (λ b. b || holds index v.place) (same_itself v.place))
        | inr other ↦
            let before = sym (lookup-other es moved cookie q (Some v) (put q) other) ∙ is in
            let past : w.place ≢ x.place = λ e. false≢true (sym other ∙ eq-eqb cookie q (sym (own cookie w there) ∙ ap cookie_in e ∙ own q x before)) in
            held x.place ∙ ap (λ b. not b && (is_same v.place x.place || holds index x.place)) (not_same w.place x.place past) ∙ or-right (is_same v.place x.place) (h.some q x before)
      ];
    }

-- a watch that fires stands at a point that is due
pub fires-due : (es : Places) (index : List (List Standing)) (later : List ℕ) (r : ℕ) (v : Watch) → IsIndexed es index → found es r ≡ Some v → fires later v ≡ true → (k : WaitingPoint) × (k.registration ≡ r) × (holds index k ≡ true) × (is_due k.ctx (value_at later k.ctx) k ≡ true)
fires-due es index later r v h is fired =
    let it = found-is es r v is in
    let k = it.0.place in
    let there = h.some (cookie_of r) it.0 it.1 in
    let its = h.owned k there in
    let same : its.0 ≡ it.0 = same_Some its.0 it.0 (sym its.1 ∙ ap (λ n. lookup (nat_eq (cookie_of n)) es) it.2 ∙ it.1) in
    (k, it.2, there, reached-due later (members_of it.0.fence) k.registration k (ap (fires later) it.3 ∙ fired) (ap (λ (u : PendingWatch). is_of (members_of u.fence) k.registration k) (sym same) ∙ its.3))

-- what moving a watch on leaves of the points that are due
pub due-moved : (reach : List ℕ) (index kept : List (List Standing)) (due next k : WaitingPoint) → holds kept k ≡ (not (is_same due k) && (is_same next k || holds index k)) → is_due next.ctx (value_at reach next.ctx) next ≡ false → is_due k.ctx (value_at reach k.ctx) k ≡ true → holds kept k ≡ true → holds index k ≡ true
due-moved reach index kept due next k held past is there =
    elim (or_cases (is_same next k) (holds index k) (and_parts (not (is_same due k)) (is_same next k || holds index k) (sym held ∙ there)).1) [
      | inl here ↦ absurd (false≢true (sym past ∙ ap (λ (x : WaitingPoint). is_due x.ctx (value_at reach x.ctx) x) (one_point next k here) ∙ is))
      | inr old ↦ old
    ]
