-- A refusal that is no limit.
use Rattle.std.proofs.Common.{◌≡◌, ◌⊎◌, inl, inr}
use Rattle.point_core.specs.declared.refusal.Refusal.{Refusal}
use Rattle.point_core.specs.declared.refusal.Refusal.TheVariants.{Limit, Torn, Memory}
use Rattle.point_core.specs.declared.refusal.LimitKind.TheVariants.{Script}

pub not-limit : {P : Type 0} (e : Refusal) → (e ≡ Torn) ⊎ (e ≡ Memory) → e ≡ Limit Script → P
not-limit e (inl torn) limit = absurd (cc)
not-limit e (inr memory) limit = absurd (cc)
