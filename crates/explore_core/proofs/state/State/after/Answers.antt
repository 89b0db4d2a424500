use Rattle.explore_core.proofs.state.State.after.Goals as goal

pub returns-clause-schedule : goal.returns-clause-schedule
returns-clause-schedule c = c.in_ok-schedule.ensures.more

pub returns-clause-made : goal.returns-clause-made
returns-clause-made c = c.in_ok-made.ensures.items
