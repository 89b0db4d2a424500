use Rattle.std.proofs.Common.{◌≡◌, map, take}
use Rattle.explore_report.specs.Lines.{line_text, texts_of}
use Rattle.explore_report.proofs.line.texts_of.Given as goal

abbrev pub invariant-loop-line : goal.invariant-loop-line
invariant-loop-line l = texts_of l.texts.items ≡ map line_text (take l.line-index l.lines)
