use Rattle.std.proofs.Common.{◌≡◌, true, take}
use Rattle.std.specs.Prelude.{All}
use Rattle.explore_core.specs.Flow.{allows_buffer, bounds_of}
use Rattle.explore_core.proofs.flow.Flow.allows_buffers.Given as goal

abbrev pub invariant-loop-name : goal.invariant-loop-name
invariant-loop-name l = All (λ name. allows_buffer (bounds_of l.self) l.desk name ≡ true) (take l.name-index l.names)
