use Rattle.std.proofs.Common.{◌≡◌, ◌+◌, take}
use Rattle.explore_core.specs.Room.{files_by_lines}
use Rattle.explore_core.proofs.room.room_after_lines.Given as goal

abbrev pub invariant-loop-line : goal.invariant-loop-line
invariant-loop-line l = l.left + files_by_lines (take l.line-index l.lines) ≡ l.fn.room
