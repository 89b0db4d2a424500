use Rattle.explore_core.proofs.progress.clear_made.Goals as goal

pub loop-init : goal.loop-init
loop-init c = c.clear.ensures.items
