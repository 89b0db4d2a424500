-- The files that are woken, and the device after a timeline's closing.
use Rattle.std.proofs.Common.{◌≡◌, ℕ, ◌+◌, nat_eq, ◌↔◌, inl, inr, Bool, true, false, not, cond, ◌&&◌, ◌||◌, refl, sym, ap, subst, ◌∙◌, List, [], ◌∷◌, Option, None, Some, is_some, option_map, Contains, IsSome, IfSome, IfOk, OnOk, Result, Vec, Global, Ok, Err}
use Rattle.std.specs.List.{list_all}
use Rattle.std.specs.List.Sorted.{IsStrictlyIncreasing}
use Rattle.std.proofs.lemmas.Bool.{cases_Bool, and_parts, and_from, or_right, false≢true}
use Rattle.point_core.specs.Reach.{GREATEST}
use Rattle.device_core.specs.declared.fence.Signal.{Signal}
use Rattle.device_core.specs.declared.fence.Fence.{Fence}
use Rattle.device_core.specs.declared.fence.Timeline.{Timeline}
use Rattle.device_core.specs.declared.errno.Errno.{Errno}
use Rattle.device_core.specs.theorem.Fences.{is_pending, is_due, signal_at, are_signalled, signalled_by, all_signalled_by}
use Rattle.device_core.specs.theorem.State.{FileState, DeviceState, at, timeline_at, file_at, objects_of, raised, file_signalled, AreSignalled}
use Rattle.device_core.specs.Woken.{is_settled_by, file_wakes}
use Rattle.device_core.specs.theorem.Request.{value_in, with_signals, closed_timeline, dropped, closed, risen, is_waiting, has_signalled, AreWoken}

-- the objects of a device after a timeline is closed
objects-with_signals : (d e : DeviceState) (t : ℕ) (new : Option Timeline) (v : ℕ) (s : Signal) → e.next ≡ d.next → e.buffers ≡ d.buffers → ((q : ℕ) → timeline_at e q ≡ cond (nat_eq t q) new (timeline_at d q)) → AreSignalled t v s d.files e.files → objects_of e ≡ with_signals (objects_of d) t new v s
objects-with_signals d e t new v s next buffers timelines signalled = λ i. record {
  next = next i;
  timelines = λ q. timelines q i;
  files = λ q. signalled q i;
  buffers = λ q. at (buffers i) q;
}

closed-timeline : (d : DeviceState) (n now : ℕ) → is_some (timeline_at d n) ≡ true → closed_timeline (objects_of d) n now ≡ closed (objects_of d) n now
closed-timeline d n now there = sym (ap (λ b. cond b (closed_timeline (objects_of d) n now) (dropped (objects_of d) n)) there)

-- a single fence
one_settled : (t v : ℕ) (s : Signal) (f : Fence) → not (is_pending (signalled_by t v s f)) ≡ is_settled_by t v f
one_settled t v s f = elim (cases_Bool (is_due t v f)) [
  | inl due ↦ ap (λ b. not (is_pending (cond b (record f { signal = Some s }) f))) due ∙ sym (or_right (not (is_pending f)) (is_due t v f) due)
  | inr not_due ↦ ap (λ b. not (is_pending (cond b (record f { signal = Some s }) f))) not_due ∙ sym (ap (λ b. not (is_pending f) || b) not_due ∙ or_false (not (is_pending f)))
]
  where
    or_false : (b : Bool) → (b || false) ≡ b
    or_false true = refl
    or_false false = refl

pub all_settled : (t v : ℕ) (s : Signal) (fs : List Fence) → are_signalled (all_signalled_by t v s fs) ≡ list_all (is_settled_by t v) fs
all_settled t v s [] = refl
all_settled t v s (f ∷ fs) = ap (λ b. b && are_signalled (all_signalled_by t v s fs)) (one_settled t v s f) ∙ ap (λ b. is_settled_by t v f && b) (all_settled t v s fs)

pub wakes-is : (t v : ℕ) (s : Signal) (o : Option FileState) → (file_wakes t v o ≡ true) ↔ ((is_waiting o ≡ true) × (has_signalled (option_map (file_signalled t v s) o) ≡ true))
wakes-is t v s None = (λ is. absurd (false≢true is), λ both. absurd (false≢true both.0))
wakes-is t v s (Some f) = (
  λ is. let parts = and_parts (not (are_signalled f.fences)) (list_all (is_settled_by t v) f.fences) is in (parts.0, all_settled t v s f.fences ∙ parts.1),
  λ both. and_from (not (are_signalled f.fences)) (list_all (is_settled_by t v) f.fences) both.0 (sym (all_settled t v s f.fences) ∙ both.1),
)

pub woken-signalled : (d e : DeviceState) (t v : ℕ) (s : Signal) (found : List ℕ) → AreSignalled t v s d.files e.files → ((n : ℕ) → Contains found n ↔ (file_wakes t v (file_at d n) ≡ true)) → IsStrictlyIncreasing found → AreWoken (objects_of d) (objects_of e) found
woken-signalled d e t v s found signalled told rising = record {
  all = λ n. (
    λ among.
        let both = (wakes-is t v s (file_at d n)).0 ((told n).0 among) in
        (both.0, ap has_signalled (signalled n) ∙ both.1),
    λ both. (told n).1 ((wakes-is t v s (file_at d n)).1 (both.0, sym (ap has_signalled (signalled n)) ∙ both.1)),
  );
  rising = rising;
}

-- a timeline that is closed
pub closing-woken : (d e : DeviceState) (t now : ℕ) (r : Result (Vec ℕ Global) Errno) → OnOk r (AreSignalled t GREATEST (signal_at now true) d.files e.files) → IfOk r (λ found. (f : ℕ) → Contains found.items f ↔ (file_wakes t GREATEST (file_at d f) ≡ true)) → IfOk r (λ found. IsStrictlyIncreasing found.items) → IfOk r (λ found. AreWoken (objects_of d) (objects_of e) found.items)
closing-woken d e t now (Ok found) signalled told rising = woken-signalled d e t GREATEST (signal_at now true) found.items signalled told rising
closing-woken d e t now (Err x) signalled told rising = tt

pub closing-closed : (d e : DeviceState) (t now : ℕ) (r : Result (Vec ℕ Global) Errno) → OnOk r (IsSome (timeline_at d t)) → e.next ≡ d.next → e.buffers ≡ d.buffers → OnOk r ((q : ℕ) → timeline_at e q ≡ cond (nat_eq t q) None (timeline_at d q)) → OnOk r (AreSignalled t GREATEST (signal_at now true) d.files e.files) → OnOk r (objects_of e ≡ closed (objects_of d) t now)
closing-closed d e t now (Ok found) there next buffers timelines signalled = objects-with_signals d e t None GREATEST (signal_at now true) next buffers timelines signalled ∙ closed-timeline d t now there
closing-closed d e t now (Err x) there next buffers timelines signalled = tt

-- a timeline that is there rises
pub objects-risen : (d e : DeviceState) (t n now : ℕ) (o : Option Timeline) → timeline_at d t ≡ o → IsSome o → e.next ≡ d.next → e.buffers ≡ d.buffers
    → IfSome o (λ k. (q : ℕ) → timeline_at e q ≡ cond (nat_eq t q) (Some (raised k n)) (timeline_at d q))
    → IfSome o (λ k. AreSignalled t (k.value + n) (signal_at now false) d.files e.files)
    → objects_of e ≡ risen (objects_of d) t n now
objects-risen d e t n now None is there next buffers timelines signalled = absurd (false≢true there)
objects-risen d e t n now (Some k) is there next buffers timelines signalled =
    objects-with_signals d e t (Some (raised k n)) (k.value + n) (signal_at now false) next buffers timelines signalled
    ∙ ap (λ p. with_signals (objects_of d) t (option_map (λ j. raised j n) p) (value_in p + n) (signal_at now false)) (sym is)

-- an open timeline rises to a value, which wakes these files
pub raised-to : (d e : DeviceState) (t n now v : ℕ) (found : List ℕ) (k : Timeline) → timeline_at d t ≡ Some k → v ≡ k.value + n → e.next ≡ d.next → e.buffers ≡ d.buffers
    → IfSome (timeline_at d t) (λ (j : Timeline). (q : ℕ) → timeline_at e q ≡ cond (nat_eq t q) (Some (record j { value = v })) (timeline_at d q))
    → AreSignalled t v (signal_at now false) d.files e.files → ((f : ℕ) → Contains found f ↔ (file_wakes t v (file_at d f) ≡ true)) → IsStrictlyIncreasing found
    → (objects_of e ≡ risen (objects_of d) t n now) × AreWoken (objects_of d) (objects_of e) found
raised-to d e t n now v found k is sum next buffers timelines signalled told rising =
    let there = subst (λ (o : Option Timeline). IfSome o (λ (j : Timeline). (q : ℕ) → timeline_at e q ≡ cond (nat_eq t q) (Some (record j { value = v })) (timeline_at d q))) is timelines in (
      objects-risen d e t n now (Some k) is refl next buffers
          (subst (λ w. (q : ℕ) → timeline_at e q ≡ cond (nat_eq t q) (Some (record k { value = w })) (timeline_at d q)) sum there)
          (subst (λ w. AreSignalled t w (signal_at now false) d.files e.files) sum signalled),
      woken-signalled d e t v (signal_at now false) found signalled told rising,
    )
