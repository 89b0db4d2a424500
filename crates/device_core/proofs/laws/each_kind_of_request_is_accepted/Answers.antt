use Rattle.device_core.proofs.Accepted.{accepted-with, has-kind}
use Rattle.device_core.proofs.laws.each_kind_of_request_is_accepted.Goals as goal

pub returns : goal.returns
returns c = record { accepted = accepted-with; has = has-kind }
