use Rattle.explore_core.proofs.rerun.Rerun.follow.Goals as goal

pub loop-client-init : goal.loop-client-init
loop-client-init c = λ run. run
