use Rattle.device_core.specs.theorem.History.{world_of}
use Rattle.device_core.proofs.Stepping.{IsSound-history}
use Rattle.device_core.proofs.Reporting.{signalled-world}
use Rattle.device_core.proofs.laws.a_file_has_signalled_once_all_is_reached.Goals as goal

pub returns : goal.returns
returns c = λ history accepted. signalled-world (world_of history) (IsSound-history history accepted)
