use Rattle.std.proofs.Common.{ap, take, ◌++◌, ◌∙◌}
use Rattle.explore_report.specs.Accesses.{access_at, accesses_by}
use Rattle.explore_report.proofs.Places.{by_place-end, by_place-step}
use Rattle.explore_report.proofs.accesses.accesses_of.Goals as goal

pub loop-index-preserved : goal.loop-index-preserved
loop-index-preserved c =
    let row = c.index-rows-index.result in
    by_place-step (access_at c.args.rows.now) c.args.rows.now c.loop-index.index c.index-rows-index.result c.loop-index.accesses.items c.push_access.new.accesses.items _
    c.loop-index-test.true c.index-rows-index.is
    (c.in_ok-push_access.ensures.pushed
    ∙ ap (λ below. c.loop-index.accesses.items ++ accesses_by row.context.section row.context.depth (take c.loop-index.index c.args.rows.now) below row.mark)
    c.below.ensures.below)
    c.loop-index.invariant

pub returns : goal.returns
returns c = record {
  accesses = by_place-end (access_at c.args.rows.now) c.args.rows.now c.loop-index.index c.loop-index.accesses.items _ c.loop-index-test.false c.loop-index.invariant;
}
