use Rattle.dmabuf_core.proofs.Putting.{listing-exported, AgreesAbove-exported, IsReached-exported}
use Rattle.dmabuf_core.proofs.laws.an_export_lists_what_was_put_in.Goals as goal

pub returns-clause-listed : goal.returns-clause-listed
returns-clause-listed c = λ reach es put flags kept. listing-exported flags kept

pub returns-clause-stands : goal.returns-clause-stands
returns-clause-stands c = λ reach es put flags within kept. AgreesAbove-exported flags within kept

pub returns-clause-reached : goal.returns-clause-reached
returns-clause-reached c = IsReached-exported
