-- Why a watch may not be registered.
use Rattle.std.proofs.Common.{◌≡◌, ℕ, ◌<◌, ◌≤◌, nat_lt, Bool, true, false, ◌&&◌, if◌then◌else◌, refl, sym, ap, ◌∙◌, subst, length, Option, None, Some, Result, Ok, Err, inl, inr}
use Rattle.std.specs.Prelude.{MatchOption}
use Rattle.std.proofs.Math.Bool.{and-false}
use Rattle.std.proofs.lemmas.Bool.{cases_Bool, cases_lt, lt-ltb, le-ltb}
use Rattle.point_core.specs.declared.refusal.Refusal.{Refusal}
use Rattle.point_core.specs.declared.refusal.Refusal.TheVariants.{Exists, Limit}
use Rattle.point_core.specs.declared.refusal.LimitKind.TheVariants.{Watches as WatchesKind}
use Rattle.fence_core.specs.declared.watches.TheConstants.{WATCHES, WATCHES_EVER}
use Rattle.fence_core.specs.Watch.{Registry}
use Rattle.fence_core.specs.Watches.{has_watch, has_room, cause_to_refuse}

cause_of : Bool → Bool → Option Refusal
cause_of there room = if there then Some Exists else if room then None else Some (Limit WatchesKind)

pub MatchOption-Some : {T : Type 0} (P : Type 0) (Q : T → Type 0) (o : Option T) (x : T) → o ≡ Some x → Q x → MatchOption o P Q
MatchOption-Some P Q o x is h = subst (λ p. MatchOption p P Q) (sym is) h

pub MatchOption-None : {T : Type 0} (P : Type 0) (Q : T → Type 0) (o : Option T) → o ≡ None → P → MatchOption o P Q
MatchOption-None P Q o is h = subst (λ p. MatchOption p P Q) (sym is) h

-- what was not refused had no cause
pub cause-by_Ok : {T : Type 0} (P : Type 0) (o : Option Refusal) (x : T) → MatchOption o P (λ cause. ◌≡◌ {A = Result T Refusal} (Ok x) (Err cause)) → o ≡ None
cause-by_Ok P None x h = refl
cause-by_Ok P (Some cause) x h = absurd (cc)

module _ (ws : Registry) (cookie : ℕ) where
  pub cause_to_refuse-there : has_watch ws cookie ≡ true → cause_to_refuse ws cookie ≡ Some Exists
  unfolding cause_of
  cause_to_refuse-there there = ap (λ b. cause_of b (has_room ws)) there

  pub cause_to_refuse-full : has_watch ws cookie ≡ false → WATCHES ≤ length ws.pending → cause_to_refuse ws cookie ≡ Some (Limit WatchesKind)
  unfolding cause_of
  cause_to_refuse-full new full =
      ap (λ b. cause_of b (has_room ws)) new ∙ ap (λ b. cause_of false (b && nat_lt ws.made WATCHES_EVER)) (le-ltb (length ws.pending) WATCHES full)

  pub cause_to_refuse-used_up : has_watch ws cookie ≡ false → WATCHES_EVER ≤ ws.made → cause_to_refuse ws cookie ≡ Some (Limit WatchesKind)
  unfolding cause_of
  cause_to_refuse-used_up new full =
      ap (λ b. cause_of b (has_room ws)) new
      ∙ ap (λ b. cause_of false (nat_lt (length ws.pending) WATCHES && b)) (le-ltb ws.made WATCHES_EVER full)
      ∙ ap (cause_of false) (and-false (nat_lt (length ws.pending) WATCHES))

  pub cause_to_refuse-none : has_watch ws cookie ≡ false → length ws.pending < WATCHES → ws.made < WATCHES_EVER → cause_to_refuse ws cookie ≡ None
  unfolding cause_of
  cause_to_refuse-none new room left =
      ap (λ b. cause_of b (has_room ws)) new
      ∙ ap (λ b. cause_of false (b && nat_lt ws.made WATCHES_EVER)) (lt-ltb (length ws.pending) WATCHES room)
      ∙ ap (cause_of false) (lt-ltb ws.made WATCHES_EVER left)

  -- with no cause, there is no watch of that cookie, and there is a place for one more
  pub new-by_cause : cause_to_refuse ws cookie ≡ None → has_watch ws cookie ≡ false
  unfolding cause_of
  new-by_cause none = elim (cases_Bool (has_watch ws cookie)) [
    | inl there ↦ let is : cause_to_refuse ws cookie ≡ Some Exists = ap (λ b. cause_of b (has_room ws)) there in cc
    | inr new ↦ new
  ]

  pub room-by_cause : cause_to_refuse ws cookie ≡ None → length ws.pending < WATCHES
  room-by_cause none = elim (cases_lt (length ws.pending) WATCHES) [
    | inl room ↦ room
    | inr full ↦ let is = cause_to_refuse-full (new-by_cause none) full in cc
  ]

  pub left-by_cause : cause_to_refuse ws cookie ≡ None → ws.made < WATCHES_EVER
  left-by_cause none = elim (cases_lt ws.made WATCHES_EVER) [
    | inl left ↦ left
    | inr full ↦ let is = cause_to_refuse-used_up (new-by_cause none) full in cc
  ]
