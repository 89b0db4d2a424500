use Rattle.std.proofs.Common.{List, ◌++◌, take}
use Rattle.command_core.specs.declared.command.Command.{Command}
use Rattle.explore_core.specs.Schedule.{Standing}
use Rattle.explore_report.specs.Making.{HasMade, commands_along, standing_along}
use Rattle.explore_report.proofs.schedule.Making.push_lines.Given as goal

abbrev pub invariant-loop-client : goal.invariant-loop-client
invariant-loop-client l = (commands : List Command) (now : Standing) → HasMade commands now l.initial.self
    → HasMade (commands ++ commands_along l.plan.plan now (take l.client-index l.schedule)) (standing_along l.plan.plan now (take l.client-index l.schedule)) l.self
