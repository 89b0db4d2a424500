use Rattle.std.proofs.Common.{◌≡◌, ◌+◌, take}
use Rattle.std.specs.Prelude.{Vec}
use Rattle.std.specs.Global.{Global}
use Rattle.std.specs.List.{sum_by}
use Rattle.explore_core.specs.declared.plan.Step.{Step}
use Rattle.explore_core.specs.Room.{files_by_lines}
use Rattle.explore_core.proofs.room.room_after_clients.Given as goal

abbrev pub invariant-loop-lines : goal.invariant-loop-lines
invariant-loop-lines l = l.left + sum_by (λ (lines : Vec Step Global). files_by_lines lines.items) (take l.lines-index l.clients) ≡ l.fn.room
