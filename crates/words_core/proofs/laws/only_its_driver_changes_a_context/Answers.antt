use Rattle.words_core.proofs.Ruling.{driven_by, not_driven}
use Rattle.words_core.proofs.laws.only_its_driver_changes_a_context.Goals as goal

pub returns-clause-driver : goal.returns-clause-driver
returns-clause-driver c = driven_by

pub returns-clause-others : goal.returns-clause-others
returns-clause-others c = not_driven
