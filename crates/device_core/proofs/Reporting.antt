-- A device's reports of all that was put into its files and buffers, and of its timelines.
use Rattle.std.proofs.Common.{◌≡◌, ◌≢◌, ◌↔◌, ℕ, ◌+◌, ◌<◌, ◌≤◌, ◌⊎◌, inl, inr, true, false, not, cond, refl, sym, ap, ◌∙◌, subst, List, [], ◌∷◌, ◌++◌, append_assoc, append-nil, Option, None, Some, is_some, option_map, All, arith}
use Rattle.std.proofs.lemmas.Bool.{cases_eq, and_parts, and_from, not-true, le-ltb, eq-eqb, ne_eqb}
use Rattle.std.proofs.lemmas.List.Elements.{All-nil, All-cons, All-head, All-tail, All-contains, Contains-append_right}
use Rattle.point_core.specs.declared.entry.Entry.{Entry}
use Rattle.point_core.specs.Agreement.{IsReached}
use Rattle.point_core.specs.Reach.{value_at}
use Rattle.point_core.proofs.Agreement.{AgreesAbove-sym}
use Rattle.point_core.proofs.Reached.{IsReached-AgreesAbove}
use Rattle.device_core.specs.declared.fence.Fence.{Fence}
use Rattle.device_core.specs.declared.fence.Timeline.{Timeline}
use Rattle.device_core.specs.declared.request.Request.{Request}
use Rattle.device_core.specs.declared.request.Request.TheVariants as request
use Rattle.device_core.specs.theorem.Fences.{is_pending, are_signalled, entries_in}
use Rattle.device_core.specs.theorem.State.{FileState, DeviceState, Objects, new_timeline, raised, missing_timeline}
use Rattle.device_core.specs.theorem.Request.{with_at, value_in, overflow, closed_timeline, dropped, cause_of}
use Rattle.device_core.specs.theorem.History.{World, world_after, world_from, world_of, empty_world, AreAccepted, HasHistory, reach_of, reached_by, added_by, sum_of}
use Rattle.device_core.specs.Sound.{is_above, IsFence, IsSound}
use Rattle.device_core.specs.theorem.Headline.{ReportsSums}
use Rattle.device_core.proofs.Placed.{entry_in}
use Rattle.device_core.proofs.Sound.{with_at-same, with_at-other, value_at-reach_of, fence-reached}
use Rattle.device_core.proofs.Stepping.{same_Some, None≢Some, no_cause, timeline_given, IsSound-empty, IsSound-after}

abbrev IsBelow : List ℕ → Entry → Type 0
IsBelow reach e = e.point.value ≤ value_at reach e.point.ctx

-- signalled fences are reached
signalled-below : (d : Objects) (fs : List Fence) → All (IsFence d) fs → are_signalled fs ≡ true → All (IsBelow (reach_of d)) (entries_in fs)
signalled-below d [] each all = All-nil (IsBelow (reach_of d))
signalled-below d (f ∷ fs) each all =
    let parts = and_parts (not (is_pending f)) (are_signalled fs) all in
    All-cons (IsBelow (reach_of d)) (entry_in f) (entries_in fs)
    (fence-reached d f (All-head (IsFence d) f fs each) (not-true (is_pending f) parts.0))
    (signalled-below d fs (All-tail (IsFence d) f fs each) parts.1)

-- reached fences are signalled
not_above : (o : Option Timeline) (value : ℕ) → value ≤ reached_by o → is_above o value ≡ false
not_above None value low = refl
not_above (Some t) value low = le-ltb t.value value low

below-signalled : (d : Objects) (fs : List Fence) → All (IsFence d) fs → IsReached (entries_in fs) 0 (reach_of d) → are_signalled fs ≡ true
below-signalled d [] each reached = refl
below-signalled d (f ∷ fs) each reached =
    let h = All-head (IsFence d) f fs each in
    let low : f.value ≤ value_at (reach_of d) f.timeline = reached (entry_in f) (0, omega arith, refl) (omega arith) in
    let settled : is_pending f ≡ false = h.pending ∙ not_above (d.timelines f.timeline) f.value (subst (λ v. f.value ≤ v) (value_at-reach_of d f.timeline h.numbered h.given) low) in
    and_from (not (is_pending f)) (are_signalled fs) (ap not settled)
    (below-signalled d fs (All-tail (IsFence d) f fs each) (λ e among strong. reached e (Contains-append_right (entry_in f ∷ []) (entries_in fs) e among) strong))

-- for the world of a history
pub signalled-world : (w : World) → IsSound w → (n : ℕ) (f : FileState) → w.objects.files n ≡ Some f → (are_signalled f.fences ≡ true) ↔ IsReached (w.put n) 0 (reach_of w.objects)
signalled-world w sound n f is =
    let reach = reach_of w.objects in
    let each = (sound.fences n f is).each in
    let agrees = sound.agrees n f is in (
      λ all.
          let low = signalled-below w.objects f.fences each all in
          IsReached-AgreesAbove 0 agrees (λ e among strong. All-contains (IsBelow reach) (entries_in f.fences) e low among),
      λ reached. below-signalled w.objects f.fences each (IsReached-AgreesAbove 0 (AgreesAbove-sym agrees) reached),
    )

-- sums of increments
pub sum-push : (n : ℕ) (history : List Request) (r : Request) → sum_of n (history ++ r ∷ []) ≡ sum_of n history + added_by n r
sum-push n [] r = omega arith
sum-push n (x ∷ rest) r = let again = sum-push n rest r in omega arith

pub record HasSums (w : World) (history : List Request) : Type 0 where
  pub values : (n : ℕ) (t : Timeline) → w.objects.timelines n ≡ Some t → t.value ≡ sum_of n history
  pub none : (n : ℕ) → w.objects.next ≤ n → sum_of n history ≡ 0

adds_none : (w v : World) (history : List Request) (r : Request) → HasSums w history → ((n : ℕ) → added_by n r ≡ 0) → w.objects.next ≤ v.objects.next
    → ((n : ℕ) (t : Timeline) → v.objects.timelines n ≡ Some t → (w.objects.timelines n ≡ Some t) ⊎ ((w.objects.next ≤ n) × (t.value ≡ 0)))
    → HasSums v (history ++ r ∷ [])
adds_none w v history r h idle more was = record {
  values = λ n t is.
      let push = sum-push n history r in
      let nothing = idle n in
      elim (was n t is) [
        | inl before ↦ let sum = h.values n t before in omega arith
        | inr new ↦
            let sum = h.none n new.0 in
            let value = new.1 in
            omega arith
      ];
  none = λ n low.
      let push = sum-push n history r in
      let nothing = idle n in
      let sum = h.none n (omega arith) in
      omega arith;
}

pub HasSums-after : (w : World) (history : List Request) (r : Request) → IsSound w → cause_of w.objects r ≡ None → HasSums w history → HasSums (world_after w r) (history ++ r ∷ [])
HasSums-after w history (request.Open name) sound none h =
    adds_none w (world_after w (request.Open name)) history (request.Open name) h (λ n. refl) (omega arith) (λ n t is. elim (cases_eq w.objects.next n) [
      | inl same ↦
          let told : new_timeline name ≡ t = same_Some (sym (with_at-same w.objects.timelines w.objects.next (Some (new_timeline name))) ∙ ap (with_at w.objects.timelines w.objects.next (Some (new_timeline name))) same ∙ is) in
          let value : 0 ≡ t.value = ap (λ (k : Timeline). k.value) told in
          inr (omega arith, sym value)
      | inr apart ↦ inl (sym (with_at-other w.objects.timelines w.objects.next (Some (new_timeline name)) n apart) ∙ is)
    ])
HasSums-after w history (request.Fence timeline point now) sound none h =
    adds_none w (world_after w (request.Fence timeline point now)) history (request.Fence timeline point now) h (λ n. refl) (omega arith) (λ n t is. inl is)
HasSums-after w history (request.Merge a b name) sound none h =
    adds_none w (world_after w (request.Merge a b name)) history (request.Merge a b name) h (λ n. refl) (omega arith) (λ n t is. inl is)
HasSums-after w history (request.Status file) sound none h =
    adds_none w w history (request.Status file) h (λ n. refl) (omega arith) (λ n t is. inl is)
HasSums-after w history (request.IsSignalled file) sound none h =
    adds_none w w history (request.IsSignalled file) h (λ n. refl) (omega arith) (λ n t is. inl is)
HasSums-after w history (request.Info file) sound none h =
    adds_none w w history (request.Info file) h (λ n. refl) (omega arith) (λ n t is. inl is)
HasSums-after w history (request.Inc timeline m now) sound none h =
    let there = no_cause (w.objects.timelines timeline) (overflow (value_in (w.objects.timelines timeline) + m)) (missing_timeline w.objects timeline) none in
    let k = there.0 in
    let given = timeline_given w sound timeline k there.1 in
    let low : timeline < w.objects.next = given.1 in
    let new = option_map (λ j. raised j m) (w.objects.timelines timeline) in
    record {
      values = λ n t is.
          let push = sum-push n history (request.Inc timeline m now) in
          elim (cases_eq timeline n) [
            | inl same ↦
                let told : Some (raised k m) ≡ Some t = sym (ap (option_map (λ j. raised j m)) there.1) ∙ sym (with_at-same w.objects.timelines timeline new) ∙ ap (with_at w.objects.timelines timeline new) same ∙ is in
                let value : k.value + m ≡ t.value = ap (λ (j : Timeline). j.value) (same_Some told) in
                let sum : k.value ≡ sum_of n history = h.values n k (sym (ap w.objects.timelines same) ∙ there.1) in
                let adds : added_by n (request.Inc timeline m now) ≡ m = ap (λ b. cond b m 0) (eq-eqb timeline n same) in
                omega arith
            | inr apart ↦
                let sum : t.value ≡ sum_of n history = h.values n t (sym (with_at-other w.objects.timelines timeline new n apart) ∙ is) in
                let adds : added_by n (request.Inc timeline m now) ≡ 0 = ap (λ b. cond b m 0) (ne_eqb timeline n apart) in
                omega arith
          ];
      none = λ n past.
          let push = sum-push n history (request.Inc timeline m now) in
          let apart : timeline ≢ n = λ is. omega arith in
          let adds : added_by n (request.Inc timeline m now) ≡ 0 = ap (λ b. cond b m 0) (ne_eqb timeline n apart) in
          let sum = h.none n past in
          omega arith;
    }
HasSums-after w history (request.Close number now) sound none h = go (w.objects.timelines number) refl
  where
    go : (o : Option Timeline) → w.objects.timelines number ≡ o → HasSums (world_after w (request.Close number now)) (history ++ request.Close number now ∷ [])
    go None is =
        let left : world_after w (request.Close number now) ≡ record { objects = dropped w.objects number; put = w.put } =
        ap (λ o. record { objects = cond (is_some o) (closed_timeline w.objects number now) (dropped w.objects number); put = w.put }) is in
        subst (λ v. HasSums v (history ++ request.Close number now ∷ [])) (sym left)
        (adds_none w (record { objects = dropped w.objects number; put = w.put }) history (request.Close number now) h (λ n. refl) (omega arith) (λ n t its. inl its))
    go (Some k) is =
        let left : world_after w (request.Close number now) ≡ record { objects = closed_timeline w.objects number now; put = w.put } =
        ap (λ o. record { objects = cond (is_some o) (closed_timeline w.objects number now) (dropped w.objects number); put = w.put }) is in
        subst (λ v. HasSums v (history ++ request.Close number now ∷ [])) (sym left)
        (adds_none w (record { objects = closed_timeline w.objects number now; put = w.put }) history (request.Close number now) h (λ n. refl) (omega arith) (λ n t its. elim (cases_eq number n) [
          | inl same ↦ None≢Some t (sym (with_at-same w.objects.timelines number None) ∙ ap (with_at w.objects.timelines number None) same ∙ its)
          | inr apart ↦ inl (sym (with_at-other w.objects.timelines number None n apart) ∙ its)
        ]))
HasSums-after w history (request.Buffer now) sound none h =
    adds_none w (world_after w (request.Buffer now)) history (request.Buffer now) h (λ n. refl) (omega arith) (λ n t is. inl is)
HasSums-after w history (request.Export buffer flags) sound none h =
    adds_none w (world_after w (request.Export buffer flags)) history (request.Export buffer flags) h (λ n. refl) (omega arith) (λ n t is. inl is)
HasSums-after w history (request.Import buffer file flags) sound none h =
    adds_none w (world_after w (request.Import buffer file flags)) history (request.Import buffer file flags) h (λ n. refl) (omega arith) (λ n t is. inl is)
HasSums-after w history (request.Test buffer usage) sound none h =
    adds_none w w history (request.Test buffer usage) h (λ n. refl) (omega arith) (λ n t is. inl is)

HasSums-from : (history : List Request) (w : World) (before : List Request) → IsSound w → AreAccepted w history → HasSums w before → HasSums (world_from w history) (before ++ history)
HasSums-from [] w before sound accepted h = subst (HasSums w) (sym (append-nil before)) h
HasSums-from (r ∷ rs) w before sound accepted h =
    subst (HasSums (world_from (world_after w r) rs)) (append_assoc before (r ∷ []) rs)
    (HasSums-from rs (world_after w r) (before ++ r ∷ []) (IsSound-after w r sound accepted.0) accepted.1 (HasSums-after w before r sound accepted.0 h))

pub HasSums-empty : HasSums empty_world []
HasSums-empty = record { values = λ n t is. None≢Some t is; none = λ n low. refl }

pub HasSums-history : (history : List Request) → AreAccepted empty_world history → HasSums (world_of history) history
HasSums-history history accepted = HasSums-from history empty_world [] IsSound-empty accepted HasSums-empty

pub ReportsSums-stands : (d : DeviceState) (history : List Request) → HasHistory d history → ReportsSums d history
ReportsSums-stands d history had =
    let sums = HasSums-history history had.accepted in
    record { values = λ n t is. sums.values n t (sym (ap (λ (o : Objects). o.timelines n) had.is) ∙ is) }
