-- What is known of the slice is known of the list.
use Rattle.std.proofs.Common.{◌≡◌, List, length, subst}
use Rattle.std.specs.Prelude.{IsTrue}
use Rattle.check_core.specs.declared.outcome.CheckOutcome.{CheckOutcome}
use Rattle.check_core.specs.Outcome.{EndsInCounts, has_counts, totals_of, verdict_of}
use Rattle.check_core.proofs.scripts.check_scripts.Goals as goal

pub returns-clause-verdict : goal.returns-clause-verdict
returns-clause-verdict g c =
    let checked = c.in_ok-check_each.ensures in
    let options = c.args.options.now in
    let reported = g.W.Write.contents c.report_summary.new.writer in
    let same = c.as_slice-outcomes.ensures.value in
    let counts : IsTrue (has_counts options.form) → EndsInCounts (length c.check_each.new.outcomes.items) (totals_of c.check_each.new.outcomes.items) reported =
    subst (λ (os : List CheckOutcome). IsTrue (has_counts options.form) → EndsInCounts (length os) (totals_of os) reported) same c.in_ok-report_summary.ensures.counts in
    record {
      outcomes = c.check_each.new.outcomes.items;
      count = checked.count;
      each = checked.each;
      is = subst (λ (os : List CheckOutcome). c.verdict_of.result ≡ verdict_of os options.allows_empty) same c.verdict_of.ensures;
      counts = λ has. subst (λ files. EndsInCounts files (totals_of c.check_each.new.outcomes.items) reported) checked.count (counts has);
    }
