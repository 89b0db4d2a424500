use Rattle.std.proofs.Common.{List, take}
use Rattle.command_core.specs.declared.command.Command.{Command}
use Rattle.desk_core.specs.theorem.Desk.{HasHistory}
use Rattle.explore_core.specs.Schedule.{history_along}
use Rattle.explore_core.specs.Search.{EndsAre, AreEndsListed}
use Rattle.explore_core.proofs.tour.answer_last.Given as goal

abbrev pub invariant-loop-place : goal.invariant-loop-place
invariant-loop-place l = record {
  along : (history : List Command) → HasHistory l.initial.position.desk history → HasHistory l.position.desk (history_along history (take l.place l.plan.last));
  records : (history : List Command) → HasHistory l.initial.position.desk history → EndsAre l.plan history l.schedule l.initial.ended.items l.ended.items;
  lists : (history : List Command) → HasHistory l.initial.position.desk history → AreEndsListed l.plan history l.ended.items l.place;
}
