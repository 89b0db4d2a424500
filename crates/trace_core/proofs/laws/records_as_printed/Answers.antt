use Rattle.trace_core.proofs.Records.{record-is, record-printed}
use Rattle.trace_core.proofs.laws.records_as_printed.Goals as goal

pub returns-clause-read : goal.returns-clause-read
returns-clause-read c = record-is

pub returns-clause-printed : goal.returns-clause-printed
returns-clause-printed c = record-printed
