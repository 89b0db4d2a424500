use Rattle.trace_script.proofs.Lanes.{lanes-apart}
use Rattle.trace_script.proofs.laws.timelines_have_names_of_their_own.Goals as goal

pub returns : goal.returns
returns c = record { apart = lanes-apart }
