-- Points that are waited for are above the reach.
use Rattle.std.proofs.Common.{◌≡◌, ◌≢◌, ℕ, ◌-◌, ◌<◌, ◌≤◌, ◌||◌, ◌&&◌, Bool, true, false, nat_eq, nat_le, max, refl, sym, ap, ◌∙◌, subst, List, [], length, Result, Ok, Err, OnOk, OnErr, is_ok, arith, inl, inr}
use Rattle.std.proofs.lemmas.Bool.{and_parts, and_from, cases_Bool, cases_lt, eqb-true, eq-eqb, false≢true, le-leb, leb-true, leb-false}
use Rattle.std.proofs.lemmas.List.{set-get_or}
use Rattle.point_core.specs.declared.context.TheConstants.{CONTEXTS}
use Rattle.point_core.specs.declared.entry.Point.{Point}
use Rattle.point_core.specs.Reach.{value_at, with_value, reaching, is_reached, IsAtLeast}
use Rattle.point_core.proofs.Values.{value_at-with_value_same, value_at-with_value_other, later_values-is, later_values-at_least, IsAtLeast-at}
use Rattle.fence_core.specs.declared.watches.point_index.WaitingPoint.{WaitingPoint}
use Rattle.fence_core.specs.declared.watches.point_index.point_queue.Standing.{Standing}
use Rattle.fence_core.specs.PointIndex.{waiting, is_same, holds, is_due, IsOneAbove, AreAbove}
use Rattle.fence_core.proofs.PointIndex.{holds-nothing, holds-within, one_point, due-at}
use Rattle.fence_core.proofs.Indexed.{or_cases}

pub past-not_due : (value : ℕ) (k : WaitingPoint) → is_due k.ctx value k ≡ false → value < k.value
past-not_due value k none = elim (cases_Bool (nat_le k.value value)) [
  | inl low ↦ absurd (false≢true (sym none ∙ ap (λ b. b && nat_le k.value value) (eq-eqb k.ctx k.ctx refl) ∙ low))
  | inr high ↦ leb-false k.value value high
]

-- what is not due at a value is not due at a lower one
pub not_due-lower : (low high : ℕ) (k : WaitingPoint) (ctx : ℕ) → low ≤ high → is_due ctx high k ≡ false → is_due ctx low k ≡ false
not_due-lower low high k ctx up none = elim (cases_Bool (is_due ctx low k)) [
  | inl due ↦
      let parts = and_parts (nat_eq k.ctx ctx) (nat_le k.value low) due in
      let at = leb-true k.value low parts.1 in
      absurd (false≢true (sym none ∙ ap (λ b. b && nat_le k.value high) parts.0 ∙ le-leb k.value high (omega arith)))
  | inr other ↦ other
]

pub AreAbove-less : (ks fewer : List (List Standing)) (reach : List ℕ) → AreAbove ks reach → ((k : WaitingPoint) → holds fewer k ≡ true → holds ks k ≡ true) → AreAbove fewer reach
AreAbove-less ks fewer reach h less = λ k there. h k (less k there)

-- two reaches of which each is at least the other are one
pub IsAtLeast-both : (reach other : List ℕ) → length reach ≡ length other → IsAtLeast reach other → IsAtLeast other reach → reach ≡ other
IsAtLeast-both reach other e h k =
    sym (later_values-at_least reach other e h)
    ∙ sym (later_values-is reach other other e (sym e) (λ n low. let up = IsAtLeast-at h n in let down = IsAtLeast-at k n in omega arith))

-- a point above a reach is not due there
pub above-not_due : (reach : List ℕ) (p : Point) (registration : ℕ) → is_reached reach p ≡ false → is_due p.ctx (value_at reach p.ctx) (waiting p registration) ≡ false
above-not_due reach p registration past = ap (λ b. nat_eq p.ctx p.ctx && b) past ∙ and-false (nat_eq p.ctx p.ctx)
  where
    and-false : (a : Bool) → (a && false) ≡ false
    and-false true = refl
    and-false false = refl

-- a point put in above a reach, beside those that were above an earlier one that is as high
pub AreAbove-put_above : (old new : List (List Standing)) (p : Point) (registration : ℕ) (before after : List ℕ) → AreAbove old before → IsAtLeast before after → is_reached after p ≡ false
    → ((k : WaitingPoint) → holds new k ≡ (is_same (waiting p registration) k || holds old k)) → AreAbove new after
AreAbove-put_above old new p registration before after h high past put = λ k there. elim (or_cases (is_same (waiting p registration) k) (holds old k) (sym (put k) ∙ there)) [
  | inl added ↦ subst (λ (x : WaitingPoint). is_due x.ctx (value_at after x.ctx) x ≡ false) (one_point (waiting p registration) k added) (above-not_due after p registration past)
  | inr kept ↦ not_due-lower (value_at after k.ctx) (value_at before k.ctx) k k.ctx (high.values k.ctx) (h k kept)
]

-- what is above a reach is above an earlier one that is as high
pub AreAbove-later : (ks : List (List Standing)) (before after : List ℕ) → AreAbove ks before → IsAtLeast before after → AreAbove ks after
AreAbove-later ks before after h high = λ k there. not_due-lower (value_at after k.ctx) (value_at before k.ctx) k k.ctx (high.values k.ctx) (h k there)

pub above-lower : (reach kept : List ℕ) (ps : List Point) (p : Point) → IsAtLeast reach kept → IsOneAbove reach ps p → IsOneAbove kept ps p
above-lower reach kept ps p high h = record {
  member = h.member;
  above = elim (cases_Bool (is_reached kept p)) [
    | inl low ↦
        let under = leb-true p.value (value_at kept p.ctx) low in
        let up = high.values p.ctx in
        absurd (false≢true (sym h.above ∙ le-leb p.value (value_at reach p.ctx) (omega arith)))
    | inr past ↦ past
  ];
}

-- what holds of a call that was not refused
pub on_ok : {X E : Type 0} {P : Type 0} (r : Result X E) → OnOk r P → is_ok r ≡ true → P
on_ok (Ok x) h is = h
on_ok (Err e) h is = absurd (cc)

-- what holds anyway holds if it failed
pub OnErr-always : {X E : Type 0} (r : Result X E) (P : Type 0) → P → OnErr r P
OnErr-always (Ok x) P h = tt
OnErr-always (Err e) P h = h

-- none is left that is due
pub AreAbove-none_due : (ks : List (List Standing)) (reach : List ℕ) → ((k : WaitingPoint) → is_due k.ctx (value_at reach k.ctx) k ≡ true → holds ks k ≡ false) → AreAbove ks reach
AreAbove-none_due ks reach none = λ k there. elim (cases_Bool (is_due k.ctx (value_at reach k.ctx) k)) [
  | inl due ↦ absurd (false≢true (sym (none k due) ∙ there))
  | inr other ↦ other
]

pub AreAbove-nothing : (ks : List (List Standing)) (reach : List ℕ) → ks ≡ [] → AreAbove ks reach
AreAbove-nothing ks reach is = λ k there. absurd (false≢true (sym (holds-nothing ks k is) ∙ there))

-- if one context alone has risen, no point of another is due
other-not_due : (ks : List (List Standing)) (kept reach : List ℕ) (p : Point) → reach ≡ reaching kept p → 1 ≤ p.ctx → AreAbove ks kept → (k : WaitingPoint) → holds ks k ≡ true → k.ctx ≢ p.ctx → is_due k.ctx (value_at reach k.ctx) k ≡ false
other-not_due ks kept reach p is low h k there apart =
    ap (λ v. is_due k.ctx v k) (ap (λ f. value_at f k.ctx) is ∙ value_at-with_value_other kept p.ctx k.ctx (max (value_at kept p.ctx) p.value) low (holds-within ks k there).0 apart)
    ∙ h k there

pub due-one_context : (ks : List (List Standing)) (kept reach : List ℕ) (p : Point) → reach ≡ reaching kept p → 1 ≤ p.ctx → AreAbove ks kept → (k : WaitingPoint) → is_due k.ctx (value_at reach k.ctx) k ≡ true → holds ks k ≡ true → is_due p.ctx (value_at reach p.ctx) k ≡ true
due-one_context ks kept reach p is low h k due there = elim (cases_Bool (nat_eq k.ctx p.ctx)) [
  | inl same ↦ ap (λ c. is_due c (value_at reach c) k) (sym (eqb-true k.ctx p.ctx same)) ∙ due
  | inr other ↦ absurd (false≢true (sym (other-not_due ks kept reach p is low h k there (λ e. false≢true (sym other ∙ eq-eqb k.ctx p.ctx e))) ∙ due))
]

-- what is not due at its own context is due at none
pub not_due-at : (reach : List ℕ) (ctx : ℕ) (k : WaitingPoint) → is_due k.ctx (value_at reach k.ctx) k ≡ false → is_due ctx (value_at reach ctx) k ≡ false
not_due-at reach ctx k none = elim (cases_Bool (nat_eq k.ctx ctx)) [
  | inl same ↦ ap (λ c. is_due c (value_at reach c) k) (sym (eqb-true k.ctx ctx same)) ∙ none
  | inr other ↦ ap (λ b. b && nat_le k.value (value_at reach ctx)) other
]

-- if none that is due is left in that context
pub AreAbove-one_context : (ks fewer : List (List Standing)) (kept reach : List ℕ) (p : Point) → reach ≡ reaching kept p → 1 ≤ p.ctx → AreAbove ks kept → ((k : WaitingPoint) → is_due k.ctx (value_at reach k.ctx) k ≡ true → holds fewer k ≡ true → holds ks k ≡ true)
    → ((k : WaitingPoint) → is_due p.ctx (value_at reach p.ctx) k ≡ true → holds fewer k ≡ false) → AreAbove fewer reach
AreAbove-one_context ks fewer kept reach p is low h less none = λ k there. elim (cases_Bool (is_due k.ctx (value_at reach k.ctx) k)) [
  | inl due ↦ absurd (false≢true (sym (none k (due-one_context ks kept reach p is low h k due (less k due there))) ∙ there))
  | inr other ↦ other
]

-- if none is due at the point, with the point reached
pub AreAbove-raised : (ks : List (List Standing)) (reach : List ℕ) (p : Point) → length reach ≡ CONTEXTS → 1 ≤ p.ctx → p.ctx ≤ CONTEXTS → AreAbove ks reach → ((k : WaitingPoint) → is_due p.ctx p.value k ≡ true → holds ks k ≡ false) → AreAbove ks (reaching reach p)
AreAbove-raised ks reach p full low high h none = AreAbove-one_context ks ks reach (reaching reach p) p refl low h (λ k due there. there) (λ k due.
    let at = due-at p.ctx (value_at (reaching reach p) p.ctx) k due in
    let is = value_at-with_value_same reach p.ctx (max (value_at reach p.ctx) p.value) low (omega arith) in
    elim (cases_lt p.value k.value) [
      | inr within ↦ none k (and_from (nat_eq k.ctx p.ctx) (nat_le k.value p.value) (eq-eqb k.ctx p.ctx at.0) (le-leb k.value p.value within))
      | inl past ↦ elim (cases_Bool (holds ks k)) [
        | inl there ↦
            let above = past-not_due (value_at reach k.ctx) k (h k there) in
            let its = ap (value_at reach) at.0 in
            absurd (omega (arith, at.1))
        | inr gone ↦ gone
      ]
    ])

-- a point that the reach has reached raises nothing
pub reaching-own : (reach : List ℕ) (p : Point) → p.value ≡ value_at reach p.ctx → reaching reach p ≡ reach
reaching-own reach p is =
    let same : max (value_at reach p.ctx) p.value ≡ value_at reach p.ctx = omega (arith, is) in
    ap (with_value reach p.ctx) same ∙ set-get_or reach (p.ctx - 1) 0
