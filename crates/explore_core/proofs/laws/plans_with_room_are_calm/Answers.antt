use Rattle.explore_core.proofs.Calming.{is-calm}
use Rattle.explore_core.proofs.laws.plans_with_room_are_calm.Goals as goal

pub returns : goal.returns
returns c = λ plan can has. is-calm plan has can
