use Rattle.explore_report.proofs.Mistakes.{or_missing}
use Rattle.explore_report.proofs.mistake.mistake_of.Goals as goal

pub returns : goal.returns
returns c = record {
  found = or_missing c.args.rows.now c.args.last c.missing.result c.in_default.ensures.found c.in_default-misfit.ensures.found c.in_default-too_many.ensures.found
      c.missing.ensures.found;
}
