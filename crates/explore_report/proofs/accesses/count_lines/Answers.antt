use Rattle.std.proofs.Common.{rules, tests, ◌∙◌}
use Rattle.std.proofs.lemmas.Iterator.{YieldsList-from_slice}
use Rattle.std.proofs.lemmas.Iterator.Consumers.{YieldsList-from_filter, count_from_yields_List}
use Rattle.std.proofs.lemmas.List.Sums.{length-filter}
use Rattle.explore_report.specs.Rows.{is_line}
use Rattle.explore_report.proofs.accesses.count_lines.Goals as goal

pub returns : goal.returns
returns c = record {
  count =
      count_from_yields_List _ c.count.result c.count.ensures.ran
      (YieldsList-from_filter _ is_line (YieldsList-from_slice c.args.rows.now cc) c.filter.ensures.closure (λ x b q k. search (rules, tests)))
      ∙ length-filter is_line c.args.rows.now;
}
