-- A watch moved on to another of its points: in the index, and among the pending watches.
use Rattle.std.proofs.Common.{◌≡◌, ◌≢◌, ℕ, nat_eq, true, false, not, ◌&&◌, ◌||◌, refl, sym, ap, ◌∙◌, subst, List, is_some, Option, None, Some}
use Rattle.std.specs.Prelude.{IfNone}
use Rattle.std.proofs.lemmas.Bool.{false≢true}
use Rattle.std.specs.List.{list_any}
use Rattle.std.specs.Map.{lookup, set_value}
use Rattle.std.proofs.lemmas.Option.{same_Some}
use Rattle.point_core.specs.declared.entry.Point.{Point}
use Rattle.point_core.specs.Reach.{is_reached}
use Rattle.fence_core.specs.Fence.{members_of, are_reached}
use Rattle.fence_core.specs.Registration.{cookie_of}
use Rattle.fence_core.specs.Watches.{fires}
use Rattle.fence_core.specs.Pending.{Places, watch_in, watch_if_any, pending_at, by_registration, in_order, watches_of}
use Rattle.fence_core.specs.PointIndex.{waiting, is_same, holds, is_of}
use Rattle.fence_core.specs.Registered.{AreKept, AreBefore, IsIndexed, ArePlaced, AreMoved, NoneFires}
use Rattle.fence_core.specs.declared.watches.pending.PendingWatch.{PendingWatch}
use Rattle.fence_core.specs.declared.watches.point_index.WaitingPoint.{WaitingPoint}
use Rattle.fence_core.specs.declared.watches.point_index.point_queue.Standing.{Standing}
use Rattle.fence_core.proofs.InOrder.{at-none}
use Rattle.fence_core.proofs.ByCookie.{at-by_registration, pending_at-there, lookup-moved, AreKept-moved}
use Rattle.fence_core.proofs.Registered.{watches_of-moved, AreBefore-moved}
use Rattle.fence_core.proofs.Above.{above-not_due}
use Rattle.fence_core.proofs.Indexed.{IsIndexed-same, IsIndexed-move, due-moved}

-- none moved, or all that is held is held still
pub AreMoved-same : (reach : List ℕ) (es : Places) (index kept : List (List Standing)) → ArePlaced es index → ((k : WaitingPoint) → holds kept k ≡ holds index k) → AreMoved reach es index es kept
AreMoved-same reach es index kept h same = record {
  placed = record { indexed = IsIndexed-same es index kept h.indexed same; kept = h.kept };
  same = refl;
  numbers = λ made low. low;
  less = λ k due there. sym (same k) ∙ there;
}

pub AreMoved-none : (reach : List ℕ) (es : Places) (index : List (List Standing)) → ArePlaced es index → AreMoved reach es index es index
AreMoved-none reach es index h = AreMoved-same reach es index index h (λ k. refl)

-- some moved, and then some more
pub AreMoved-more : (reach : List ℕ) (es mid after : Places) (index between kept : List (List Standing)) → AreMoved reach es index mid between → AreMoved reach mid between after kept → AreMoved reach es index after kept
AreMoved-more reach es mid after index between kept h more = record {
  placed = more.placed;
  same = more.same ∙ h.same;
  numbers = λ made low. more.numbers made (h.numbers made low);
  less = λ k due there. h.less k due (more.less k due there);
}

pub NoneFires-moved : (reach : List ℕ) (es after : Places) (index kept : List (List Standing)) → AreMoved reach es index after kept → NoneFires es reach → NoneFires after reach
NoneFires-moved reach es after index kept h none = ap (list_any (fires reach)) h.same ∙ none

pub moved-on : (reach : List ℕ) (es moved : Places) (index kept : List (List Standing)) (due : WaitingPoint) (p : Point) (x : PendingWatch) → ArePlaced es index → is_reached reach p ≡ false → holds index due ≡ true → pending_at es due.registration ≡ Some x → is_of (members_of x.fence) due.registration (waiting p due.registration) ≡ true → due ≢ waiting p due.registration
    → ((w : PendingWatch) → lookup (nat_eq (cookie_of due.registration)) es ≡ Some w → moved ≡ set_value (nat_eq (cookie_of due.registration)) es (record { place = waiting p due.registration; fence = w.fence }))
    → ((k : WaitingPoint) → holds kept k ≡ (not (is_same due k) && (is_same (waiting p due.registration) k || holds index k))) → AreMoved reach es index moved kept
moved-on reach es moved index kept due p x h past there found member apart put held =
    let cookie = cookie_of due.registration in
    let its = h.indexed.owned due there in
    let w = its.0 in
    let is_w : w ≡ x = same_Some w x (sym (pending_at-there es due.registration w its.1 (ap (λ (k : WaitingPoint). k.registration) its.2)) ∙ found) in
    let v : PendingWatch = record { place = waiting p due.registration; fence = w.fence } in
    let same : v.place.registration ≡ w.place.registration = ap (λ (k : WaitingPoint). k.registration) (sym its.2) in
    let is = put w its.1 in
    let taken : (k : WaitingPoint) → holds kept k ≡ (not (is_same w.place k) && (is_same v.place k || holds index k)) = λ k. held k ∙ ap (λ q. not (is_same q k) && (is_same v.place k || holds index k)) (sym its.2) in
    let its_member : is_of (members_of w.fence) due.registration (waiting p due.registration) ≡ true = ap (λ (u : PendingWatch). is_of (members_of u.fence) due.registration (waiting p due.registration)) is_w ∙ member in
    record {
      placed = record {
        indexed = subst (λ xs. IsIndexed xs kept) (sym is) (IsIndexed-move es (set_value (nat_eq cookie) es v) index kept cookie w v h.indexed h.kept.own its.1 same its_member (λ e. apart (sym its.2 ∙ e)) (λ q. lookup-moved cookie es w v q its.1) taken);
        kept = subst AreKept (sym is) (AreKept-moved cookie es w v its.1 same h.kept);
      };
      same = ap watches_of is ∙ watches_of-moved cookie es w v its.1 same refl;
      numbers = λ made low. subst (AreBefore made) (sym is) (AreBefore-moved made cookie es w v its.1 same low);
      less = λ k is_due_k there_k. due-moved reach index kept due (waiting p due.registration) k (held k) (above-not_due reach p due.registration past) is_due_k there_k;
    }

-- a watch that does not fire has a point above the reach
pub some-above : (es : Places) (reach : List ℕ) (r : ℕ) (x : PendingWatch) (o : Option Point) → AreKept es → NoneFires es reach → pending_at es r ≡ Some x → IfNone o (are_reached reach (members_of x.fence) ≡ true) → is_some o ≡ true
some-above es reach r x None kept none found signalled = absurd (false≢true (sym (at-none (fires reach) (in_order (by_registration es)) r (watch_in x) none (at-by_registration es r kept ∙ ap watch_if_any found)) ∙ signalled))
some-above es reach r x (Some p) kept none found signalled = refl
