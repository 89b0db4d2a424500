use Rattle.json_core.proofs.Counting.{answered-none}
use Rattle.json_core.proofs.objects.Objects.new.Goals as goal

pub returns-clause-none : goal.returns-clause-none
returns-clause-none c contents = answered-none c.in_ok-new.field-0 c.new-3.result contents c.in_ok-new.ensures.empty c.new-3.ensures.counts
