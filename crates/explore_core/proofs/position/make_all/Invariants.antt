use Rattle.std.proofs.Common.{List, take}
use Rattle.command_core.specs.declared.command.Command.{Command}
use Rattle.desk_core.specs.theorem.Desk.{HasHistory}
use Rattle.explore_core.specs.Schedule.{history_along}
use Rattle.explore_core.proofs.position.make_all.Given as goal

abbrev pub invariant-loop-command : goal.invariant-loop-command
invariant-loop-command l = (history : List Command) → HasHistory l.initial.desk history → HasHistory l.desk (history_along history (take l.command-index l.commands))
