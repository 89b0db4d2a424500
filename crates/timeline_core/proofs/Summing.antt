-- Values are sums of increments.
use Rattle.std.proofs.Common.{◌≡◌, ℕ, ◌+◌, ◌-◌, Option, None, Some, Bool, true, false, true≢false, ◌||◌, refl, sym, ap, subst, ◌∙◌, List, [], ◌∷◌, ◌++◌, append_assoc, append-nil, if◌then◌else◌, arith, inl, inr}
use Rattle.std.specs.Cmp.Lexicographic.{same_text}
use Rattle.std.proofs.lemmas.Bool.{cases_Bool}
use Rattle.std.proofs.lemmas.List.Sums.{sum_by-append}
use Rattle.std.proofs.lemmas.List.Elements.{All-nil, All-cons, All-head, All-tail, All-push}
use Rattle.point_core.specs.Named.{same_name}
use Rattle.point_core.proofs.Named.{has_named-same_names, named-All}
use Rattle.timeline_core.specs.Timeline.{Timeline, timeline_of, new_timeline, is_named, has_timeline, name_at, clock_named, value_of, raised_by, closed_timeline, raised, shut}
use Rattle.timeline_core.specs.Run.{Call, Create, Inc, Shut, RaiseTo, Close, Leaves, Step, missing_to, increments_if, raised_if, shut_if, IsRun, last_timelines, increments_of, accepted_increments, all_increments}
use Rattle.timeline_core.specs.Sums.{Increment, increment, incremented, AreSums}
use Rattle.timeline_core.proofs.Places.{timeline_at-clock_named, has_timeline-name}
use Rattle.timeline_core.proofs.Raising.{names_of-raised, names_of-shut}

-- values are sums, and if there is no timeline nothing was added
record IsSummed (ts : List Timeline) (is : List Increment) : Type 0 where
  kept : AreSums ts is
  none : (name : List ℕ) → has_timeline ts name ≡ false → incremented is name ≡ 0

abbrev IsSum : List Increment → Timeline → Type 0
IsSum is t = t.value ≡ incremented is t.name

part_of : List ℕ → Increment → ℕ
part_of name i = if same_name name i.name then i.by else 0

incremented-push : (is : List Increment) (name : List ℕ) (n : ℕ) (other : List ℕ) → incremented (is ++ increment name n ∷ []) other ≡ incremented is other + (if same_name other name then n else 0)
unfolding part_of
incremented-push is name n other = sum_by-append (part_of other) is (increment name n ∷ []) ∙ omega arith

value-raised_if : (b : Bool) (n sum : ℕ) (t : Timeline) → t.value ≡ sum → (if b then raised_by n t else t).value ≡ sum + (if b then n else 0)
value-raised_if true n sum t is = ap (λ v. v + n) is
value-raised_if false n sum t is = is ∙ omega arith

name-raised_if : (b : Bool) (n : ℕ) (t : Timeline) → t.name ≡ (if b then raised_by n t else t).name
name-raised_if true n t = refl
name-raised_if false n t = refl

AreSums-raised : (ts : List Timeline) (name : List ℕ) (n : ℕ) (is : List Increment) → AreSums ts is → AreSums (raised ts name n) (is ++ increment name n ∷ [])
AreSums-raised [] name n is sums = All-nil (IsSum (is ++ increment name n ∷ []))
AreSums-raised (t ∷ ts) name n is sums =
    All-cons (IsSum (is ++ increment name n ∷ [])) (if is_named name t then raised_by n t else t) (raised ts name n)
    (value-raised_if (is_named name t) n (incremented is t.name) t (All-head (IsSum is) t ts sums)
    ∙ sym (incremented-push is name n t.name)
    ∙ ap (incremented (is ++ increment name n ∷ [])) (name-raised_if (is_named name t) n t))
    (AreSums-raised ts name n is (All-tail (IsSum is) t ts sums))

has_timeline-before : (ts : List Timeline) (t : Timeline) (name : List ℕ) → has_timeline (ts ++ t ∷ []) name ≡ false → has_timeline ts name ≡ false
has_timeline-before [] t name absent = refl
has_timeline-before (u ∷ ts) t name absent = by (is_named name u) (has_timeline (ts ++ t ∷ []) name) (has_timeline ts name) absent (has_timeline-before ts t name)
  where
    by : (b with without : Bool) → (b || with) ≡ false → (with ≡ false → without ≡ false) → (b || without) ≡ false
    by true with without is rest = absurd (true≢false is)
    by false with without is rest = rest is

other_name : (ts : List Timeline) (name other : List ℕ) → has_timeline ts name ≡ true → has_timeline ts other ≡ false → same_name other name ≡ false
other_name ts name other has absent = elim (cases_Bool (same_name other name)) [
  | inl is ↦ absurd (true≢false (sym has ∙ ap (has_timeline ts) (sym (same_text other name (sym is))) ∙ absent))
  | inr isnt ↦ isnt
]

-- one timeline rises
IsSummed-raised : (ts : List Timeline) (name : List ℕ) (n : ℕ) (is : List Increment) → has_timeline ts name ≡ true → IsSummed ts is → IsSummed (raised ts name n) (is ++ increment name n ∷ [])
IsSummed-raised ts name n is has before = record {
  kept = AreSums-raised ts name n is before.kept;
  none = λ other absent.
      let before_absent = sym (has_named-same_names (λ (t : Timeline). t.name) (λ (t : Timeline). t.name) (raised ts name n) ts other (names_of-raised ts name n)) ∙ absent in
      incremented-push is name n other
      ∙ ap (λ b. incremented is other + (if b then n else 0)) (other_name ts name other has before_absent)
      ∙ (let none = before.none other before_absent in omega arith);
}

sums-closed_if : (b : Bool) (is : List Increment) (t : Timeline) → IsSum is t → IsSum is (if b then closed_timeline t else t)
sums-closed_if true is t sum = sum
sums-closed_if false is t sum = sum

AreSums-shut : (ts : List Timeline) (name : List ℕ) (is : List Increment) → AreSums ts is → AreSums (shut ts name) is
AreSums-shut [] name is sums = sums
AreSums-shut (t ∷ ts) name is sums =
    All-cons (IsSum is) (if is_named name t then closed_timeline t else t) (shut ts name)
    (sums-closed_if (is_named name t) is t (All-head (IsSum is) t ts sums)) (AreSums-shut ts name is (All-tail (IsSum is) t ts sums))

-- one timeline closes, and keeps its value
IsSummed-shut : (ts : List Timeline) (name : List ℕ) (is : List Increment) → IsSummed ts is → IsSummed (shut ts name) is
IsSummed-shut ts name is before = record {
  kept = AreSums-shut ts name is before.kept;
  none = λ other absent. before.none other (sym (has_named-same_names (λ (t : Timeline). t.name) (λ (t : Timeline). t.name) (shut ts name) ts other (names_of-shut ts name)) ∙ absent);
}

IsSummed-raised_if : (ts : List Timeline) (ctx n : ℕ) (is : List Increment) (name : Option (List ℕ)) → name_at ts ctx ≡ name → IsSummed ts is → IsSummed (raised_if ts name n) (is ++ increments_if name n)
IsSummed-raised_if ts ctx n is None at before = subst (IsSummed ts) (sym (append-nil is)) before
IsSummed-raised_if ts ctx n is (Some name) at before = IsSummed-raised ts name n is (has_timeline-name ts (ctx - 1) name at) before

IsSummed-shut_if : (ts : List Timeline) (is : List Increment) (name : Option (List ℕ)) → IsSummed ts is → IsSummed (shut_if ts name) is
IsSummed-shut_if ts is None before = before
IsSummed-shut_if ts is (Some name) before = IsSummed-shut ts name is before

IsSummed-Leaves : (call : Call) (accepted : Bool) (old new : List Timeline) (is : List Increment) → Leaves call accepted old new → IsSummed old is → IsSummed new (is ++ (if accepted then increments_of call old else []))
IsSummed-Leaves call false old new is left before = subst (IsSummed new) (sym (append-nil is)) (subst (λ ts. IsSummed ts is) (sym left) before)
IsSummed-Leaves (Create name) true old new is left before = subst (IsSummed new) (sym (append-nil is)) (subst (λ ts. IsSummed ts is) (sym left.1) (record {
  kept = All-push (IsSum is) old (new_timeline name) before.kept (sym (before.none name left.0.0));
  none = λ other absent. before.none other (has_timeline-before old (new_timeline name) other absent);
}))
IsSummed-Leaves (Inc name n) true old new is left before = subst (λ ts. IsSummed ts (is ++ increment name n ∷ [])) (sym left.1) (IsSummed-raised old name n is left.0.0 before)
IsSummed-Leaves (Shut name) true old new is left before =
    subst (λ ts. IsSummed ts (is ++ [])) (sym left.1) (subst (IsSummed (shut old name)) (sym (append-nil is)) (IsSummed-shut old name is before))
IsSummed-Leaves (RaiseTo ctx value) true old new is left before =
    let n = missing_to old ctx value in
    subst (λ ts. IsSummed ts (is ++ increments_if (name_at old ctx) n)) (sym left.1) (IsSummed-raised_if old ctx n is (name_at old ctx) refl before)
IsSummed-Leaves (Close ctx) true old new is left before =
    subst (λ ts. IsSummed ts (is ++ [])) (sym left.1) (subst (IsSummed (shut_if old (name_at old ctx))) (sym (append-nil is)) (IsSummed-shut_if old is (name_at old ctx) before))

IsSummed-run : (old : List Timeline) (is : List Increment) (steps : List Step) → IsSummed old is → IsRun old steps → IsSummed (last_timelines old steps) (is ++ all_increments old steps)
IsSummed-run old is [] before run = subst (IsSummed old) (sym (append-nil is)) before
IsSummed-run old is (step ∷ steps) before run =
    subst (IsSummed (last_timelines step.left steps)) (append_assoc is (accepted_increments old step) (all_increments step.left steps))
    (IsSummed-run step.left (is ++ accepted_increments old step) steps (IsSummed-Leaves step.call step.accepted old step.left is run.0 before) run.1)

IsSummed-all : (steps : List Step) → IsRun [] steps → IsSummed (last_timelines [] steps) (all_increments [] steps)
IsSummed-all steps run = IsSummed-run [] [] steps (record { kept = All-nil (IsSum []); none = λ name absent. refl }) run

pub AreSums-run : (steps : List Step) → IsRun [] steps → AreSums (last_timelines [] steps) (all_increments [] steps)
AreSums-run steps run = (IsSummed-all steps run).kept

pub value_of-run : (steps : List Step) (name : List ℕ) → IsRun [] steps → has_timeline (last_timelines [] steps) name ≡ true → value_of (last_timelines [] steps) name ≡ incremented (all_increments [] steps) name
value_of-run steps name run has =
    let ts = last_timelines [] steps in
    named-All (λ (t : Timeline). t.name) (IsSum (all_increments [] steps)) ts name (timeline_of name (clock_named ts name)) (AreSums-run steps run) (timeline_at-clock_named ts name has)
