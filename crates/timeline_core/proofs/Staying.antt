-- A closed timeline stays as it is.
use Rattle.std.proofs.Common.{◌≡◌, ℕ, ◌-◌, ◌<◌, ◌≤◌, Bool, true, false, true≢false, cond, is_some, refl, sym, ap, subst, ◌∙◌, List, [], ◌∷◌, ◌++◌, length, map, Option, None, Some, if◌then◌else◌, arith, inl, inr}
use Rattle.std.specs.Option.{option_or}
use Rattle.std.specs.List.{IsDistinct}
use Rattle.std.specs.Cmp.Lexicographic.{nat_list_eq_equiv, same_text}
use Rattle.std.proofs.lemmas.Bool.{cases_Bool}
use Rattle.std.proofs.lemmas.List.{length-append, map-append}
use Rattle.std.proofs.lemmas.List.Folds.{find-append}
use Rattle.std.proofs.lemmas.Map.Keys.{IsDistinct-push}
use Rattle.std.proofs.lemmas.Option.{same_Some}
use Rattle.point_core.specs.declared.context.TheConstants.{CONTEXTS}
use Rattle.point_core.specs.Clocks.{clock_at}
use Rattle.point_core.specs.Named.{same_name}
use Rattle.point_core.proofs.Named.{is_some-find}
use Rattle.timeline_core.specs.Timeline.{Timeline, timeline_of, new_timeline, is_named, names_of, has_timeline, timeline_at, name_at, context_of, clocks_of, clock_named, value_of, is_closed, raised_by, closed_timeline, raised, shut, AreTimelines}
use Rattle.timeline_core.specs.Run.{Call, Create, Inc, Shut, RaiseTo, Close, Leaves, Step, missing_to, raised_if, shut_if, IsRun, last_timelines}
use Rattle.timeline_core.proofs.Lookups.{has_timeline-names_of}
use Rattle.timeline_core.proofs.Places.{place-of, name-place, context_of-place, has_timeline-place, timeline_at-clock_named}
use Rattle.timeline_core.proofs.Raising.{AreTimelines-raised, AreTimelines-shut, is_closed-open, has_timeline-closed}

-- a change of the timelines of one name, which keeps names, leaves the timelines of another name
module _ (change : Timeline → Timeline) (keeps : (t : Timeline) → (change t).name ≡ t.name) (name other : List ℕ) (apart : same_name other name ≡ false) where
  passed : (b : Bool) (t : Timeline) (rest before : Option Timeline) → is_named name t ≡ b → rest ≡ before
      → cond (is_named other (if b then change t else t)) (Some (if b then change t else t)) rest ≡ cond (is_named other t) (Some t) before
  passed false t rest before isnt same = ap (λ o. cond (is_named other t) (Some t) o) same
  passed true t rest before is same =
      let its : t.name ≡ name = same_text t.name name (sym is) in
      let isnt : is_named other t ≡ false = ap (λ n. same_name n other) its ∙ nat_list_eq_equiv.symm name other ∙ apart in
      ap (λ n. cond (same_name n other) (Some (change t)) rest) (keeps t)
      ∙ ap (λ b. cond b (Some (change t)) rest) isnt
      ∙ same
      ∙ ap (λ b. cond b (Some t) before) (sym isnt)

  timeline_at-changed : (ts : List Timeline) → timeline_at (map (λ t. if is_named name t then change t else t) ts) other ≡ timeline_at ts other
  timeline_at-changed [] = refl
  timeline_at-changed (t ∷ ts) =
      passed (is_named name t) t (timeline_at (map (λ u. if is_named name u then change u else u) ts) other) (timeline_at ts other) refl (timeline_at-changed ts)

timeline_at-raised : (ts : List Timeline) (name other : List ℕ) (n : ℕ) → same_name other name ≡ false → timeline_at (raised ts name n) other ≡ timeline_at ts other
timeline_at-raised ts name other n apart = timeline_at-changed (raised_by n) (λ t. refl) name other apart ts

timeline_at-shut : (ts : List Timeline) (name other : List ℕ) → same_name other name ≡ false → timeline_at (shut ts name) other ≡ timeline_at ts other
timeline_at-shut ts name other apart = timeline_at-changed closed_timeline (λ t. refl) name other apart ts

-- what was found before is found before a new one
timeline_at-new : (ts us : List Timeline) (name : List ℕ) → has_timeline ts name ≡ true → timeline_at (ts ++ us) name ≡ timeline_at ts name
timeline_at-new ts us name has =
    let found = timeline_at-clock_named ts name has in
    find-append (is_named name) ts us ∙ ap (λ o. option_or o (timeline_at us name)) found ∙ sym found

-- a closed timeline has another name than an open one
closed_apart : (ts : List Timeline) (name other : List ℕ) → is_closed ts other ≡ true → is_closed ts name ≡ false → same_name other name ≡ false
closed_apart ts name other closed still = elim (cases_Bool (same_name other name)) [
  | inl is ↦ absurd (true≢false (sym closed ∙ ap (is_closed ts) (same_text other name (sym is)) ∙ still))
  | inr isnt ↦ isnt
]

-- the timeline of an open context is open
open_at : (ts : List Timeline) (ctx : ℕ) (name : List ℕ) → AreTimelines ts → 1 ≤ ctx → ctx ≤ length ts → name_at ts ctx ≡ Some name → (clock_at (clocks_of ts) ctx).closed ≡ false → is_closed ts name ≡ false
open_at ts ctx name kept low high at still =
    let found = place-of ts (ctx - 1) (omega (arith, low, high)) kept.distinct in
    let its : found.0 ≡ name = same_Some found.0 name (sym (name-place ts found.0 (ctx - 1) found.1) ∙ at) in
    let number : context_of ts found.0 ≡ ctx = omega (arith, low, context_of-place ts found.0 (ctx - 1) found.1) in
    ap (is_closed ts) (sym its)
    ∙ is_closed-open ts found.0 (has_timeline-place ts found.0 (ctx - 1) found.1)
    ∙ ap (λ x. (clock_at (clocks_of ts) x).closed) number
    ∙ still

-- a timeline of a context rises, if there is one, and the name that is closed is another
timeline_at-raised_if : (ts : List Timeline) (ctx n : ℕ) (name : Option (List ℕ)) (other : List ℕ) → ((one : List ℕ) → name ≡ Some one → same_name other one ≡ false) → timeline_at (raised_if ts name n) other ≡ timeline_at ts other
timeline_at-raised_if ts ctx n None other apart = refl
timeline_at-raised_if ts ctx n (Some name) other apart = timeline_at-raised ts name other n (apart name refl)

timeline_at-shut_if : (ts : List Timeline) (name : Option (List ℕ)) (other : List ℕ) → ((one : List ℕ) → name ≡ Some one → same_name other one ≡ false) → timeline_at (shut_if ts name) other ≡ timeline_at ts other
timeline_at-shut_if ts None other apart = refl
timeline_at-shut_if ts (Some name) other apart = timeline_at-shut ts name other (apart name refl)

timeline_at-after : (call : Call) (accepted : Bool) (old new : List Timeline) (name : List ℕ) → AreTimelines old → Leaves call accepted old new → is_closed old name ≡ true → timeline_at new name ≡ timeline_at old name
timeline_at-after call false old new name kept left closed = ap (λ ts. timeline_at ts name) left
timeline_at-after (Create other) true old new name kept left closed =
    ap (λ ts. timeline_at ts name) left.1 ∙ timeline_at-new old (new_timeline other ∷ []) name (has_timeline-closed old name closed)
timeline_at-after (Inc other n) true old new name kept left closed =
    ap (λ ts. timeline_at ts name) left.1 ∙ timeline_at-raised old other name n (closed_apart old other name closed left.0.1)
timeline_at-after (Shut other) true old new name kept left closed =
    ap (λ ts. timeline_at ts name) left.1 ∙ timeline_at-shut old other name (closed_apart old other name closed left.0.1)
timeline_at-after (RaiseTo ctx value) true old new name kept left closed =
    ap (λ ts. timeline_at ts name) left.1
    ∙ timeline_at-raised_if old ctx (missing_to old ctx value) (name_at old ctx) name
    (λ other at. closed_apart old other name closed (open_at old ctx other kept left.0.0 left.0.1 at left.0.2))
timeline_at-after (Close ctx) true old new name kept left closed =
    ap (λ ts. timeline_at ts name) left.1
    ∙ timeline_at-shut_if old (name_at old ctx) name
    (λ other at. closed_apart old other name closed (open_at old ctx other kept left.0.0 left.0.1 at left.0.2))

AreTimelines-raised_if : (ts : List Timeline) (name : Option (List ℕ)) (n : ℕ) → AreTimelines ts → AreTimelines (raised_if ts name n)
AreTimelines-raised_if ts None n kept = kept
AreTimelines-raised_if ts (Some name) n kept = AreTimelines-raised ts name n kept

AreTimelines-shut_if : (ts : List Timeline) (name : Option (List ℕ)) → AreTimelines ts → AreTimelines (shut_if ts name)
AreTimelines-shut_if ts None kept = kept
AreTimelines-shut_if ts (Some name) kept = AreTimelines-shut ts name kept

AreTimelines-pushed : (ts : List Timeline) (name : List ℕ) → has_timeline ts name ≡ false → length ts < CONTEXTS → AreTimelines ts → AreTimelines (ts ++ new_timeline name ∷ [])
AreTimelines-pushed ts name absent low kept = record {
  distinct = subst (IsDistinct same_name) (sym (map-append (λ (t : Timeline). t.name) ts (new_timeline name ∷ [])))
      (IsDistinct-push nat_list_eq_equiv (names_of ts) name kept.distinct (has_timeline-names_of ts name ∙ absent));
  room = rw (length-append ts (new_timeline name ∷ [])) (omega (arith, low));
}

AreTimelines-after : (call : Call) (accepted : Bool) (old new : List Timeline) → AreTimelines old → Leaves call accepted old new → AreTimelines new
AreTimelines-after call false old new kept left = subst AreTimelines (sym left) kept
AreTimelines-after (Create name) true old new kept left = subst AreTimelines (sym left.1) (AreTimelines-pushed old name left.0.0 left.0.1 kept)
AreTimelines-after (Inc name n) true old new kept left = subst AreTimelines (sym left.1) (AreTimelines-raised old name n kept)
AreTimelines-after (Shut name) true old new kept left = subst AreTimelines (sym left.1) (AreTimelines-shut old name kept)
AreTimelines-after (RaiseTo ctx value) true old new kept left =
    subst AreTimelines (sym left.1) (AreTimelines-raised_if old (name_at old ctx) (missing_to old ctx value) kept)
AreTimelines-after (Close ctx) true old new kept left = subst AreTimelines (sym left.1) (AreTimelines-shut_if old (name_at old ctx) kept)

-- if the same timeline is found by a name, its clock is the same
module _ (old new : List Timeline) (name : List ℕ) (same : timeline_at new name ≡ timeline_at old name) (closed : is_closed old name ≡ true) where
  has_timeline-same : has_timeline new name ≡ true
  has_timeline-same =
      sym (is_some-find (is_named name) new) ∙ ap is_some same ∙ is_some-find (is_named name) old ∙ has_timeline-closed old name closed

  timeline-same : timeline_of name (clock_named new name) ≡ timeline_of name (clock_named old name)
  timeline-same =
      same_Some (timeline_of name (clock_named new name)) (timeline_of name (clock_named old name))
      (sym (timeline_at-clock_named new name has_timeline-same) ∙ same ∙ timeline_at-clock_named old name (has_timeline-closed old name closed))

  value_of-same : value_of new name ≡ value_of old name
  value_of-same = ap (λ (t : Timeline). t.value) timeline-same

  is_closed-same : is_closed new name ≡ true
  is_closed-same =
      is_closed-open new name has_timeline-same ∙ ap (λ (t : Timeline). t.closed) timeline-same
      ∙ sym (is_closed-open old name (has_timeline-closed old name closed)) ∙ closed

pub timeline_at-run : (old : List Timeline) (steps : List Step) (name : List ℕ) → AreTimelines old → IsRun old steps → is_closed old name ≡ true → timeline_at (last_timelines old steps) name ≡ timeline_at old name
timeline_at-run old [] name kept run closed = refl
timeline_at-run old (step ∷ steps) name kept run closed =
    let same = timeline_at-after step.call step.accepted old step.left name kept run.0 closed in
    timeline_at-run step.left steps name (AreTimelines-after step.call step.accepted old step.left kept run.0) run.1 (is_closed-same old step.left name same closed)
    ∙ same

pub is_closed-run : (old : List Timeline) (steps : List Step) (name : List ℕ) → AreTimelines old → IsRun old steps → is_closed old name ≡ true → is_closed (last_timelines old steps) name ≡ true
is_closed-run old steps name kept run closed = is_closed-same old (last_timelines old steps) name (timeline_at-run old steps name kept run closed) closed

pub value_of-closed_run : (old : List Timeline) (steps : List Step) (name : List ℕ) → AreTimelines old → IsRun old steps → is_closed old name ≡ true → value_of (last_timelines old steps) name ≡ value_of old name
value_of-closed_run old steps name kept run closed = value_of-same old (last_timelines old steps) name (timeline_at-run old steps name kept run closed) closed
