use Rattle.std.proofs.Common.{◌≡◌, ◌++◌, drop}
use Rattle.explore_report.specs.Expected.{more_lines}
use Rattle.explore_report.specs.Lines.{texts_of}
use Rattle.explore_report.proofs.expected.push_more.Given as goal

abbrev pub invariant-loop-note : goal.invariant-loop-note
invariant-loop-note l =
    l.text.items ++ more_lines (texts_of l.lines) (drop l.note-index l.notes) ≡ l.fn.text.items ++ more_lines (texts_of l.lines) l.notes
