-- The index is sorted, so its elements determine it.
use Rattle.std.proofs.Common.{◌≡◌, ℕ, inl, inr, true, false, ◌||◌, refl, sym, ap, ◌∙◌, subst, List, [], ◌∷◌}
use Rattle.std.specs.List.{AllByRecursion}
use Rattle.std.specs.List.Sorted.{IsStrictlySortedBy}
use Rattle.std.specs.Ordering.{is_eq, ordering_reverse}
use Rattle.std.specs.declared.cmp.Ordering.{Ordering}
use Rattle.std.specs.declared.cmp.Ordering.TheVariants.{Less, Equal, Greater}
use Rattle.std.specs.Cmp.{IsTotalOrder}
use Rattle.std.proofs.lemmas.Bool.{cases_Bool, false≢true}
use Rattle.std.proofs.lemmas.Cmp.{nat_cmp_total, on_total, then_total, tied_itself}
use Rattle.device_core.specs.declared.waiting_files.Waiter.{Waiter}
use Rattle.device_core.specs.declared.fence.Timeline.{Timeline}
use Rattle.device_core.specs.theorem.Buffers.{BufferState}
use Rattle.device_core.specs.theorem.State.{AreInOrder, DeviceState, FileState, holds, is_same, order}
use Rattle.device_core.proofs.Held.{is_eq-order, is_same-is}

pub order_total : IsTotalOrder order
order_total = then_total (on_total (λ (k : Waiter). k.timeline) nat_cmp_total) (then_total (on_total (λ (k : Waiter). k.value) nat_cmp_total) (on_total (λ (k : Waiter). k.file) nat_cmp_total))

pub same_itself : (k : Waiter) → is_same k k ≡ true
same_itself k = sym (is_eq-order k k) ∙ ap is_eq (tied_itself order_total k)

apart : (j k : Waiter) → order j k ≡ Less → is_same j k ≡ false
apart j k less = sym (is_eq-order j k) ∙ ap is_eq less

held-first : (k : Waiter) (ks : List Waiter) → holds (k ∷ ks) k ≡ true
held-first k ks = ap (λ b. b || holds ks k) (same_itself k)

-- it is below all of them
held-below : (k : Waiter) (ks : List Waiter) → AllByRecursion (λ y. order k y ≡ Less) ks → holds ks k ≡ false
held-below k [] low = refl
held-below k (y ∷ ys) low = ap (λ b. b || holds ys k) (apart k y low.0) ∙ held-below k ys low.1

All-less : (j k : Waiter) (ks : List Waiter) → order j k ≡ Less → AllByRecursion (λ y. order k y ≡ Less) ks → AllByRecursion (λ y. order j y ≡ Less) ks
All-less j k [] less all = all
All-less j k (y ∷ ys) less all = (order_total.trans j k y less all.0, All-less j k ys less all.1)

same_points : (j k : Waiter) → is_same j k ≡ true → j ≡ k
same_points j k h = let is = is_same-is j k h in λ i. record { timeline = is.0 i; value = is.1 i; file = is.2 i }

pub same_keys : (js ks : List Waiter) → AreInOrder js → AreInOrder ks → ((k : Waiter) → holds js k ≡ holds ks k) → js ≡ ks
unfolding IsStrictlySortedBy
same_keys [] [] g h same = refl
same_keys [] (k ∷ ks) g h same = absurd (false≢true (same k ∙ held-first k ks))
same_keys (j ∷ js) [] g h same = absurd (false≢true (sym (same j) ∙ held-first j js))
same_keys (j ∷ js) (k ∷ ks) g h same = by (order j k) refl (same_keys js ks g.1 h.1)
  where
    later : j ≡ k → (x : Waiter) → holds js x ≡ holds ks x
    later is x = elim (cases_Bool (is_same x j)) [
      | inl here ↦
          let at_j = same_points x j here in
          held-below x js (subst (λ y. AllByRecursion (λ z. order y z ≡ Less) js) (sym at_j) g.0)
          ∙ sym (held-below x ks (subst (λ y. AllByRecursion (λ z. order y z ≡ Less) ks) (sym (at_j ∙ is)) h.0))
      | inr past ↦
          sym (ap (λ b. b || holds js x) past) ∙ same x
          ∙ ap (λ b. b || holds ks x) (ap (is_same x) (sym is) ∙ past)
    ]

    by : (o : Ordering) → order j k ≡ o → (((x : Waiter) → holds js x ≡ holds ks x) → js ≡ ks) → j ∷ js ≡ k ∷ ks
    by Less less rest = absurd (false≢true (sym (held-below j (k ∷ ks) (less, All-less j k ks less h.0)) ∙ sym (same j) ∙ held-first j js))
    by Equal equal rest =
        let is = same_points j k (sym (is_eq-order j k) ∙ ap is_eq equal) in
        ap (λ x. x ∷ js) is ∙ ap (λ xs. k ∷ xs) (rest (later is))
    by Greater greater rest =
        let less : order k j ≡ Less = order_total.antisymm k j ∙ ap ordering_reverse greater in
        absurd (false≢true (sym (held-below k (j ∷ js) (less, All-less k j js less g.0)) ∙ same k ∙ held-first k ks))

-- the state of a device, field by field
abbrev pub state : ℕ → List (ℕ × Timeline) → List (ℕ × FileState) → List (ℕ × BufferState) → List Waiter → DeviceState
state next timelines files buffers index =
    record { next = next; timelines = timelines; files = files; buffers = buffers; index = index }

pub same_state : (next : ℕ) (ts us : List (ℕ × Timeline)) (fs gs : List (ℕ × FileState)) (bs : List (ℕ × BufferState)) (js ks : List Waiter) → ts ≡ us → fs ≡ gs → js ≡ ks → state next ts fs bs js ≡ state next us gs bs ks
same_state next ts us fs gs bs js ks timelines files index = λ i. state next (timelines i) (files i) bs (index i)
