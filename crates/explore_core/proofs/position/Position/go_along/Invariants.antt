use Rattle.std.proofs.Common.{take}
use Rattle.explore_core.specs.Schedule.{Standing, Leads}
use Rattle.explore_core.specs.Search.{IsAt}
use Rattle.explore_core.proofs.position.Position.go_along.Given as goal

abbrev pub invariant-loop-client : goal.invariant-loop-client
invariant-loop-client l = (from to : Standing) → IsAt l.initial.self from → Leads l.plan from (take l.client-index l.schedule) to → IsAt l.self to
