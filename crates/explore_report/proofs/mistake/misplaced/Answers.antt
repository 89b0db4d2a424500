use Rattle.std.proofs.Common.{subst, All, sym, refl}
use Rattle.std.proofs.lemmas.List.{take_all}
use Rattle.explore_report.specs.Mistake.{IsPlaced}
use Rattle.explore_report.proofs.Mistakes.{misplaced-at, placed-next}
use Rattle.explore_report.proofs.mistake.misplaced.Goals as goal

pub returns-in-Some : goal.returns-in-Some
returns-in-Some c = record {
  found = misplaced-at c.args.rows.now c.loop-row.row-index _ _ c.loop-row-test.true c.row-item.is refl (sym c.in-Some.ensures.cause) c.loop-row.invariant;
}

pub loop-row-preserved : goal.loop-row-preserved
loop-row-preserved c = placed-next c.args.rows.now c.loop-row.row-index _ c.loop-row-test.true c.row-item.is c.loop-row.invariant (sym c.in_default.ensures.cause)

pub returns : goal.returns
returns c = record { found = subst (All IsPlaced) (take_all c.loop-row.row-index c.args.rows.now c.loop-row-test.false) c.loop-row.invariant }
