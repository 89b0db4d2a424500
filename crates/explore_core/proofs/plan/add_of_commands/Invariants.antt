use Rattle.std.proofs.Common.{take}
use Rattle.std.specs.List.{list_any}
use Rattle.explore_core.specs.Search.{asks_for, Adds}
use Rattle.explore_core.proofs.plan.add_of_commands.Given as goal

abbrev pub invariant-loop-command : goal.invariant-loop-command
invariant-loop-command l = Adds (λ name. list_any (asks_for name) (take l.command-index l.commands)) l.initial.asked.items l.asked.items
