use Rattle.std.proofs.Common.{List, ◌++◌, take}
use Rattle.command_core.specs.declared.command.Command.{Command}
use Rattle.explore_core.specs.Schedule.{Standing}
use Rattle.explore_report.specs.Making.{HasMade, standing_past}
use Rattle.explore_report.proofs.schedule.Making.make_all.Given as goal

abbrev pub invariant-loop-command : goal.invariant-loop-command
invariant-loop-command l = (commands : List Command) (now : Standing) → HasMade commands now l.initial.self
    → HasMade (commands ++ take l.command-index l.own) (standing_past now (take l.command-index l.own)) l.self
