use Rattle.std.proofs.Common.{take}
use Rattle.std.specs.List.{list_any}
use Rattle.explore_core.specs.declared.plan.Step.{Step}
use Rattle.explore_core.specs.Search.{asks_for, Adds}
use Rattle.explore_core.proofs.plan.add_of_lines.Given as goal

abbrev pub invariant-loop-line : goal.invariant-loop-line
invariant-loop-line l = Adds (λ name. list_any (λ (line : Step). asks_for name line.command) (take l.line-index l.lines)) l.initial.asked.items l.asked.items
