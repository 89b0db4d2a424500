-- The loads of a call that signals a shared fence.
use Rattle.std.proofs.Common.{◌≡◌, ℕ, ◌+◌, ◌<◌, ◌≤◌, zero, suc, true, refl, sym, ap, ◌∙◌, subst, List, [], ◌∷◌, ◌++◌, length, get_or, take, drop, nat_le, drop-cons, arith}
use Rattle.std.proofs.lemmas.Bool.{and_parts, leb-true}
use Rattle.std.proofs.lemmas.List.{take_more, take-append-drop}
use Rattle.point_core.specs.declared.entry.Point.{Point}
use Rattle.point_core.specs.Clocks.{open_clock, reached_by}
use Rattle.words_core.specs.theorem.Loads.{clock_seen, loads_at}
use Rattle.words_core.specs.theorem.Seat.{SeatModel, with_steps}
use Rattle.fence_core.specs.SharedFence.{are_within, AreWithin}
use Rattle.fence_core.specs.Signal.{HasFound, HaveFound, IsPendingAt}

HaveFound-push : (points : List Point) (p : Point) (before now after : SeatModel) → HaveFound points before now → HasFound p now after → HaveFound (points ++ p ∷ []) before after
HaveFound-push [] p before now after same found = (after, subst (λ (s : SeatModel). HasFound p s after) same found, refl)
HaveFound-push (q ∷ qs) p before now after h found = (h.0, h.1, HaveFound-push qs p h.0 now after h.2 found)

-- one more
pub HaveFound-more : (before now after : SeatModel) (points : List Point) (i : ℕ) (p : Point) → i < length points → p ≡ get_or points i p → HaveFound (take i points) before now → HasFound p now after → HaveFound (take (i + 1) points) before after
HaveFound-more before now after points i p low at h found =
    let more : take (i + 1) points ≡ take i points ++ p ∷ [] = take_more points i p low ∙ ap (λ q. take i points ++ q ∷ []) (sym at) in
    subst (λ ps. HaveFound ps before after) (sym more) (HaveFound-push (take i points) p before now after h found)

-- the seat is still of its words, with its parts
pub kept-HaveFound : (points : List Point) (before after : SeatModel) → HaveFound points before after → (after.words ≡ before.words) × (after.parts ≡ before.parts)
kept-HaveFound [] before after same = (ap (λ (s : SeatModel). s.words) same, ap (λ (s : SeatModel). s.parts) same)
kept-HaveFound (p ∷ ps) before after h =
    let rest = kept-HaveFound ps h.0 after h.2 in
    let entered = h.1.entered in
    (rest.0 ∙ ap (λ (s : SeatModel). s.words) entered, rest.1 ∙ ap (λ (s : SeatModel). s.parts) entered)

-- the next was not
pub IsPendingAt-next : (before now after : SeatModel) (points : List Point) (i : ℕ) (p : Point) (value : ℕ) → i < length points → p ≡ get_or points i p → value < p.value → HaveFound (take i points) before now → reached_by (clock_seen now p.ctx) ≤ value → after ≡ with_steps now (loads_at p.ctx (open_clock value))
    → IsPendingAt points before after p.ctx value
IsPendingAt-next before now after points i p value low at pending h later entered = record {
  reached = take i points;
  point = p;
  rest = drop (suc i) points;
  points_are = sym (take-append-drop i points) ∙ ap (λ ps. take i points ++ ps) (drop-cons points i p low ∙ ap (λ q. q ∷ drop (suc i) points) (sym at));
  seat = now;
  found = h;
  is_of = refl;
  is_pending = pending;
  later = later;
  entered = entered;
}

within-at : (contexts : ℕ) (points : List Point) (i : ℕ) (p : Point) → are_within contexts points ≡ true → i < length points → p ≡ get_or points i p → p.ctx ≤ contexts
within-at contexts [] i p all low at = absurd (omega arith)
within-at contexts (q ∷ qs) zero p all low at =
    let here = leb-true q.ctx contexts (and_parts (nat_le q.ctx contexts) (are_within contexts qs) all).0 in
    subst (λ (r : Point). r.ctx ≤ contexts) (sym at) here
within-at contexts (q ∷ qs) (suc i) p all low at = within-at contexts qs i p (and_parts (nat_le q.ctx contexts) (are_within contexts qs) all).1 (omega arith) at

-- its words have the context of each point
pub AreWithin-at : {contexts : ℕ} {points : List Point} (i : ℕ) (p : Point) → AreWithin contexts points → i < length points → p ≡ get_or points i p → p.ctx ≤ contexts
AreWithin-at {contexts} {points} i p h low at = within-at contexts points i p h.each low at
