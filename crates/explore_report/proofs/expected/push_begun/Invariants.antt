use Rattle.std.proofs.Common.{◌≡◌, ◌++◌, drop}
use Rattle.explore_report.specs.Expected.{begun_answers}
use Rattle.explore_report.specs.Lines.{texts_of}
use Rattle.explore_report.proofs.expected.push_begun.Given as goal

abbrev pub invariant-loop-index : goal.invariant-loop-index
invariant-loop-index l =
    l.answers.items ++ begun_answers (texts_of l.lines) (drop l.index l.notes) ≡ l.fn.answers.items ++ begun_answers (texts_of l.lines) l.notes
