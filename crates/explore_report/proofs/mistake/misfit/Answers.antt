use Rattle.std.proofs.Common.{ap, refl, sym, take, ◌∙◌}
use Rattle.explore_report.specs.Mistake.{cause_among}
use Rattle.explore_report.proofs.Mistakes.{fit-all, fit-next, misfit-at}
use Rattle.explore_report.proofs.mistake.misfit.Goals as goal

pub returns-in-Some : goal.returns-in-Some
returns-in-Some c = record {
  found = misfit-at c.args.rows.now c.loop-index.index c.index-rows-index.result _ c.loop-index-test.true c.index-rows-index.is
      refl (ap (cause_among (take c.loop-index.index c.args.rows.now) c.index-rows-index.result) (sym c.below.ensures.below) ∙ sym c.in-Some.ensures.cause)
      c.loop-index.invariant;
}

pub loop-index-preserved : goal.loop-index-preserved
loop-index-preserved c =
    fit-next c.args.rows.now c.loop-index.index c.index-rows-index.result c.loop-index-test.true c.index-rows-index.is c.loop-index.invariant
    (ap (cause_among (take c.loop-index.index c.args.rows.now) c.index-rows-index.result) (sym c.below.ensures.below) ∙ sym c.in_default.ensures.cause)

pub returns : goal.returns
returns c = record { found = fit-all c.args.rows.now c.loop-index.index c.loop-index-test.false c.loop-index.invariant }
