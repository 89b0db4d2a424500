use Rattle.std.proofs.Common.{◌≡◌, map, take}
use Rattle.explore_report.specs.Lines.{line_text, texts_of}
use Rattle.explore_report.specs.Turns.{turn_text}
use Rattle.explore_report.proofs.line.plan_lines.Given as goal

abbrev pub invariant-loop-turn : goal.invariant-loop-turn
invariant-loop-turn l = map line_text l.made.items ≡ map (turn_text (texts_of l.lines)) (take l.turn-index l.turns)
