use Rattle.desk_core.proofs.Doing.{IsDone-merge}
use Rattle.desk_core.proofs.Inside.{inside-merge}
use Rattle.desk_core.proofs.desk.Desk.merge.Goals as goal

pub merge_reached-requires : goal.merge_reached-requires
merge_reached-requires c = record {
  floors = rw c.as_reach-reach.ensures.value c.self.invariant.floors;
}

pub invariant_of-self-2 : goal.invariant_of-self-2
invariant_of-self-2 c = inside-merge c.merge_reached.new.self c.args.name.now c.args.first.now c.args.second.now c.as_reach-reach.result.now c.in_ok-merge_reached.ensures.last c.in_ok-merge_reached.ensures.floor c.as_reach-reach.ensures.value c.self.invariant

pub returns-clause-done : goal.returns-clause-done
returns-clause-done c =
    rw (← c.self.view_is)
    (IsDone-merge _ c.args.name.now c.args.first.now c.args.second.now c.as_reach-reach.result.now c.merge_reached.new.self c.in_ok-merge_reached.ensures.last c.as_reach-reach.ensures.value)
