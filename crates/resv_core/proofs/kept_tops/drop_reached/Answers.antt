use Rattle.std.proofs.Common.{ℕ, ◌∙◌, ap, length, arith}
use Rattle.std.proofs.lemmas.List.{length-replicate}
use Rattle.point_core.specs.declared.context.TheConstants.{CONTEXTS}
use Rattle.point_core.specs.Reach.{value_at}
use Rattle.point_core.proofs.Values.{value_at-replicate}
use Rattle.resv_core.proofs.kept_tops.drop_reached.Goals as goal

pub loop-index-init : goal.loop-index-init
loop-index-init c =
    let is = c.restart.ensures.value ∙ c.requires.none in
    record {
      full = ap length is ∙ length-replicate {A = ℕ} CONTEXTS 0;
      values = λ ctx low high. absurd (omega arith);
      rest = λ ctx low. ap (λ values. value_at values ctx) is ∙ value_at-replicate CONTEXTS ctx;
    }
