use Rattle.trace_core.proofs.Passing.{ReadsAs-one}
use Rattle.trace_core.proofs.laws.one_reading.Goals as goal

pub returns : goal.returns
returns c = ReadsAs-one
