use Rattle.std.proofs.Common.{◌∙◌, sym}
use Rattle.std.specs.Cmp.{booleans_Decides}
use Rattle.std.specs.Cmp.Lexicographic.{pointwise_decides}
use Rattle.check_core.proofs.asked.compare_asked.Goals as goal

pub returns-then-eq-clause-same : goal.returns-then-eq-clause-same
returns-then-eq-clause-same c =
    let same = (pointwise_decides booleans_Decides c.as_slice.result.now c.as_slice-2.result.now).0 (sym c.eq.ensures ∙ c.if-eq.true) in
    sym c.in_ok-found.ensures.asked ∙ sym c.as_slice.ensures.value ∙ same ∙ c.as_slice-2.ensures.value ∙ c.in_ok-wanted.ensures.asked
