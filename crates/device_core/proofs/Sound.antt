-- Invariants of the world of every history, request by request.
use Rattle.std.proofs.Common.{◌≡◌, ◌≢◌, ℕ, ◌+◌, ◌-◌, ◌<◌, ◌≤◌, nat_eq, nat_le, inl, inr, Bool, true, false, not, cond, ◌&&◌, refl, sym, ap, ◌∙◌, subst, List, [], ◌∷◌, map, Option, None, Some, All, arith}
use Rattle.std.specs.List.Sorted.{IsStrictlyIncreasing}
use Rattle.std.proofs.lemmas.Bool.{cases_Bool, cases_lt, and_parts, and_right, eqb-true, eqb-false, eq-eqb, ne_eqb, ltb-false, false≢true}
use Rattle.std.proofs.lemmas.List.{get_or_past}
use Rattle.std.proofs.lemmas.List.FromFn.{get_or-map-range_with_len, length-map-range_with_len}
use Rattle.std.proofs.lemmas.List.Elements.{All-weaker, All-map}
use Rattle.point_core.specs.Reach.{GREATEST, IsAtLeast, value_at}
use Rattle.point_core.proofs.Values.{IsAtLeast-below}
use Rattle.device_core.specs.declared.fence.Signal.{Signal}
use Rattle.device_core.specs.declared.fence.Fence.{Fence}
use Rattle.device_core.specs.declared.fence.Timeline.{Timeline}
use Rattle.device_core.specs.theorem.Fences.{is_pending, is_due, signalled_by, all_signalled_by, IsReachedUnlessPending}
use Rattle.device_core.specs.theorem.State.{Objects}
use Rattle.device_core.specs.theorem.Request.{with_at}
use Rattle.device_core.specs.theorem.History.{reach_of, reached_by}
use Rattle.device_core.specs.Sound.{is_above, IsFence, AreFences}

-- a table by number
pub with_at-same : {X : Type 0} (kept : ℕ → X) (n : ℕ) (x : X) → with_at kept n x n ≡ x
with_at-same kept n x = ap (λ b. cond b x (kept n)) (eq-eqb n n refl)

pub with_at-other : {X : Type 0} (kept : ℕ → X) (n : ℕ) (x : X) (q : ℕ) → n ≢ q → with_at kept n x q ≡ kept q
with_at-other kept n x q apart = ap (λ b. cond b x (kept q)) (ne_eqb n q apart)

-- the reach
pub value_at-reach_of : (d : Objects) (n : ℕ) → 1 ≤ n → n < d.next → value_at (reach_of d) n ≡ reached_by (d.timelines n)
value_at-reach_of d n low high = get_or-map-range_with_len (λ m. reached_by (d.timelines m)) 1 (d.next - 1) (n - 1) n 0 (omega arith) (omega arith)

pub reach-rises : (d e : Objects) → d.next ≤ e.next → ((n : ℕ) → 1 ≤ n → n < d.next → reached_by (d.timelines n) ≤ reached_by (e.timelines n)) → IsAtLeast (reach_of e) (reach_of d)
reach-rises d e more each =
    let long_d = length-map-range_with_len (λ m. reached_by (d.timelines m)) 1 (d.next - 1) in
    let long_e = length-map-range_with_len (λ m. reached_by (e.timelines m)) 1 (e.next - 1) in
    IsAtLeast-below (reach_of e) (reach_of d) (e.next - 1) (omega arith) (omega arith) (λ k low. elim (cases_lt k (d.next - 1)) [
      | inl inside ↦
          let left = get_or-map-range_with_len (λ m. reached_by (d.timelines m)) 1 (d.next - 1) k (k + 1) 0 inside (omega arith) in
          let right = get_or-map-range_with_len (λ m. reached_by (e.timelines m)) 1 (e.next - 1) k (k + 1) 0 low (omega arith) in
          let least = each (k + 1) (omega arith) (omega arith) in
          rw (left, right) least
      | inr past ↦ rw (get_or_past (reach_of d) k 0 (omega arith)) (omega arith)
    ])

-- a fence of a timeline that is unchanged
pub fence-kept : (d e : Objects) (f : Fence) → d.next ≤ e.next → (f.timeline < d.next → e.timelines f.timeline ≡ d.timelines f.timeline) → IsFence d f → IsFence e f
fence-kept d e f more same h =
    let given = h.given in
    record {
      numbered = h.numbered;
      given = omega arith;
      fits = h.fits;
      pending = h.pending ∙ ap (λ t. is_above t f.value) (sym (same h.given));
    }

pub fences-kept : (d e : Objects) (fs : List Fence) → d.next ≤ e.next → ((n : ℕ) → n < d.next → e.timelines n ≡ d.timelines n) → AreFences d fs → AreFences e fs
fences-kept d e fs more same h = record {
  rising = h.rising;
  each = All-weaker (IsFence d) (IsFence e) (λ f is. fence-kept d e f more (same f.timeline) is) fs h.each;
}

-- a timeline that is changed, with its due fences signalled
left_of : (p le : Bool) → ((p && true) && le) ≡ false → p ≡ (p && not le)
left_of true true h = absurd (false≢true (sym h))
left_of true false h = refl
left_of false le h = refl

abbrev Changes : Objects → Objects → ℕ → ℕ → Type 0
Changes d e t v =
    ((n : ℕ) → t ≢ n → e.timelines n ≡ d.timelines n)
    × ((x : ℕ) → x ≤ GREATEST → is_above (e.timelines t) x ≡ (is_above (d.timelines t) x && not (nat_le x v)))

fence-signalled : (d e : Objects) (t v : ℕ) (s : Signal) (f : Fence) → d.next ≤ e.next → Changes d e t v → IsFence d f → IsFence e (signalled_by t v s f)
fence-signalled d e t v s f more changes h =
    let given = h.given in
    elim (cases_Bool (is_due t v f)) [
      | inl due ↦
          let parts = and_parts (is_pending f && nat_eq f.timeline t) (nat_le f.value v) due in
          let same : f.timeline ≡ t = eqb-true f.timeline t (and_parts (is_pending f) (nat_eq f.timeline t) parts.0).1 in
          subst (IsFence e) (sym (ap (λ b. cond b (record f { signal = Some s }) f) due)) (record {
            numbered = h.numbered;
            given = omega arith;
            fits = h.fits;
            pending = sym (ap (λ n. is_above (e.timelines n) f.value) same ∙ changes.1 f.value h.fits
                ∙ ap (λ b. is_above (d.timelines t) f.value && not b) parts.1 ∙ and_right (is_above (d.timelines t) f.value) false refl);
          })
      | inr not_due ↦
          subst (IsFence e) (sym (ap (λ b. cond b (record f { signal = Some s }) f) not_due)) (record {
            numbered = h.numbered;
            given = omega arith;
            fits = h.fits;
            pending = elim (cases_Bool (nat_eq f.timeline t)) [
              | inl is ↦
                  let same : f.timeline ≡ t = eqb-true f.timeline t is in
                  let here : is_pending f ≡ is_above (d.timelines t) f.value = h.pending ∙ ap (λ n. is_above (d.timelines n) f.value) same in
                  let left = left_of (is_pending f) (nat_le f.value v) (sym (ap (λ b. (is_pending f && b) && nat_le f.value v) is) ∙ not_due) in
                  left ∙ ap (λ b. b && not (nat_le f.value v)) here ∙ sym (changes.1 f.value h.fits) ∙ ap (λ n. is_above (e.timelines n) f.value) (sym same)
              | inr other ↦
                  let apart : t ≢ f.timeline = λ is. eqb-false f.timeline t other (sym is) in
                  h.pending ∙ ap (λ k. is_above k f.value) (sym (changes.0 f.timeline apart))
            ];
          })
    ]

timeline-signalled : (t v : ℕ) (s : Signal) (f : Fence) → (signalled_by t v s f).timeline ≡ f.timeline
timeline-signalled t v s f = elim (cases_Bool (is_due t v f)) [
  | inl due ↦ ap (λ b. (cond b (record f { signal = Some s }) f).timeline) due
  | inr not_due ↦ ap (λ b. (cond b (record f { signal = Some s }) f).timeline) not_due
]

timelines-signalled : (t v : ℕ) (s : Signal) (fs : List Fence) → map (λ (f : Fence). f.timeline) (all_signalled_by t v s fs) ≡ map (λ (f : Fence). f.timeline) fs
timelines-signalled t v s [] = refl
timelines-signalled t v s (f ∷ fs) =
    ap (λ n. n ∷ map (λ (g : Fence). g.timeline) (all_signalled_by t v s fs)) (timeline-signalled t v s f)
    ∙ ap (λ ns. f.timeline ∷ ns) (timelines-signalled t v s fs)

pub fences-signalled : (d e : Objects) (t v : ℕ) (s : Signal) (fs : List Fence) → d.next ≤ e.next → Changes d e t v → AreFences d fs → AreFences e (all_signalled_by t v s fs)
fences-signalled d e t v s fs more changes h = record {
  rising = subst IsStrictlyIncreasing (sym (timelines-signalled t v s fs)) h.rising;
  each = All-map (IsFence e) (signalled_by t v s) fs
      (All-weaker (IsFence d) (λ f. IsFence e (signalled_by t v s f)) (λ f is. fence-signalled d e t v s f more changes is) fs h.each);
}

-- a signalled fence is reached
pub fence-reached : (d : Objects) (f : Fence) → IsFence d f → IsReachedUnlessPending (reach_of d) f
fence-reached d f h settled = rw (value_at-reach_of d f.timeline h.numbered h.given) (low (d.timelines f.timeline) (sym h.pending ∙ settled))
  where
    low : (o : Option Timeline) → is_above o f.value ≡ false → f.value ≤ reached_by o
    low None is = h.fits
    low (Some t) is = ltb-false t.value f.value is

pub fences-reached : (d : Objects) (fs : List Fence) → AreFences d fs → All (IsReachedUnlessPending (reach_of d)) fs
fences-reached d fs h = All-weaker (IsFence d) (IsReachedUnlessPending (reach_of d)) (λ f is. fence-reached d f is) fs h.each
