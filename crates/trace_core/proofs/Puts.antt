-- What a map says of each key after a write, with a value for the keys that it hasn't.
use Rattle.std.proofs.Common.{◌≡◌, Bool, true, false, cond, Option, None, Some, refl, ap, ◌∙◌}
use Rattle.std.specs.Prelude.{unwrap_or}

module _ {X : Type 0} (d : X) where
  apart : (b : Bool) (x y : Option X) → unwrap_or (cond b x y) d ≡ cond b (unwrap_or x d) (unwrap_or y d)
  apart true x y = refl
  apart false x y = refl

  pub kept : (b : Bool) (x : X) (new old : Option X) → new ≡ cond b (Some x) old → unwrap_or new d ≡ cond b x (unwrap_or old d)
  kept b x new old is = ap (λ o. unwrap_or o d) is ∙ apart b (Some x) old

  pub gone : (b : Bool) (new old : Option X) → new ≡ cond b None old → unwrap_or new d ≡ cond b d (unwrap_or old d)
  gone b new old is = ap (λ o. unwrap_or o d) is ∙ apart b None old

  pub put-kept : (b over : Bool) (x : X) (new old : Option X) → false ≡ over → new ≡ cond b (Some x) old → unwrap_or new d ≡ cond b (cond over d x) (unwrap_or old d)
  put-kept b over x new old alive is =
      kept b x new old is ∙ ap (λ o. cond b (cond o d x) (unwrap_or old d)) alive

  pub put-gone : (b over : Bool) (x : X) (new old : Option X) → true ≡ over → new ≡ cond b None old → unwrap_or new d ≡ cond b (cond over d x) (unwrap_or old d)
  put-gone b over x new old dead is =
      gone b new old is ∙ ap (λ o. cond b (cond o d x) (unwrap_or old d)) dead

  pub written : (b : Bool) (f : X → X) (x w : X) (new old own : Option X) → w ≡ f x → Some x ≡ own → new ≡ cond b (Some w) old → unwrap_or new d ≡ cond b (f (unwrap_or own d)) (unwrap_or old d)
  written b f x w new old own is found at =
      kept b w new old at ∙ ap (λ y. cond b y (unwrap_or old d)) (is ∙ ap (λ o. f (unwrap_or o d)) found)

  pub inserted : (b : Bool) (f : X → X) (w : X) (new old own : Option X) → w ≡ f d → None ≡ own → new ≡ cond b (Some w) old → unwrap_or new d ≡ cond b (f (unwrap_or own d)) (unwrap_or old d)
  inserted b f w new old own is none at =
      kept b w new old at ∙ ap (λ y. cond b y (unwrap_or old d)) (is ∙ ap (λ o. f (unwrap_or o d)) none)
