use Rattle.std.proofs.Common.{ap, not}
use Rattle.explore_core.proofs.visit.Visit.note.Goals as goal

pub returns-clause-left : goal.returns-clause-left
returns-clause-left c = ap not c.stays.ensures
