use Rattle.std.proofs.Common.{refl}
use Rattle.trace_core.proofs.Passing.{passed-none}
use Rattle.trace_core.proofs.pieces.Pieces.new.Goals as goal

pub returns-clause-none : goal.returns-clause-none
returns-clause-none c known = passed-none known _ refl refl refl
