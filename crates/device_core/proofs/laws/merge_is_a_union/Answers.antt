use Rattle.device_core.proofs.Placed.{merged-agrees, merged-Rising, Rising-is, Rising-from}
use Rattle.device_core.proofs.laws.merge_is_a_union.Goals as goal

pub returns : goal.returns
returns c = record {
  agrees = λ reach fs gs all more. merged-agrees reach fs gs all more;
  rising = λ fs gs h. Rising-is _ (merged-Rising fs gs (Rising-from fs h));
}
