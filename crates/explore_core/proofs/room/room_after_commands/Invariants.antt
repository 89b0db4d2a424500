use Rattle.std.proofs.Common.{◌≡◌, ◌+◌, take}
use Rattle.std.specs.List.{sum_by}
use Rattle.explore_core.specs.Room.{files_by}
use Rattle.explore_core.proofs.room.room_after_commands.Given as goal

abbrev pub invariant-loop-command : goal.invariant-loop-command
invariant-loop-command l = l.left + sum_by files_by (take l.command-index l.commands) ≡ l.fn.room
