use Rattle.dmabuf_core.proofs.Putting.{AgreesAbove-imported, AgreesAbove-imported_later}
use Rattle.dmabuf_core.proofs.laws.an_import_puts_in_what_a_file_stands_for.Goals as goal

pub returns-clause-stands : goal.returns-clause-stands
returns-clause-stands c = λ floor reach points put flags stands high. AgreesAbove-imported_later flags stands high

pub returns-clause-same : goal.returns-clause-same
returns-clause-same c = λ reach es fs flags same. AgreesAbove-imported flags same
