-- A fence that is given a number is taken from those without one.
use Rattle.std.proofs.Common.{◌≡◌, Bool, true, ◌&&◌, cond, ap, ◌∙◌}
use Rattle.trace_core.specs.declared.life.Life.{Life}
use Rattle.trace_core.specs.declared.fence_event.FenceKey.{FenceKey}
use Rattle.trace_core.specs.Keys.{same_key}
use Rattle.trace_core.specs.Life.{settled, without_one}
use Rattle.trace_core.proofs.Same.{swap, same_key-is}

module _ (at : FenceKey → Life) (key : FenceKey) where
  pub numbered : (gives : Bool) (k u : FenceKey) (life less new : Life) → true ≡ gives → k ≡ u → life ≡ at k → less ≡ without_one life → new ≡ cond (same_key k key) (settled less) (at key) → new ≡ cond (gives && same_key u key) (settled (without_one (at key))) (at key)
  numbered gives k u life less new given k-is life-is less-is new-is =
      new-is
      ∙ ap (λ l. cond (same_key k key) (settled l) (at key)) (less-is ∙ ap without_one life-is)
      ∙ swap (λ l. settled (without_one l)) (same_key k key) (at k) (at key) (at key) (λ e. ap at (same_key-is k key e))
      ∙ ap (λ q. cond (same_key q key) (settled (without_one (at key))) (at key)) k-is
      ∙ ap (λ g. cond (g && same_key u key) (settled (without_one (at key))) (at key)) given
