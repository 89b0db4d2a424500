use Rattle.std.proofs.Common.{refl, ◌∙◌}
use Rattle.explore_core.proofs.search.Search.finish.Goals as goal

pub loop-init : goal.loop-init
loop-init c = record { plan = refl; bound = refl }

pub loop-preserved : goal.loop-preserved
loop-preserved c = record {
  plan = c.next_level.ensures.plan ∙ c.loop.invariant.plan;
  bound = c.next_level.ensures.bound ∙ c.loop.invariant.bound;
}

pub returns-then-not-next_level : goal.returns-then-not-next_level
returns-then-not-next_level c = record {
  plan = c.next_level.ensures.plan ∙ c.loop.invariant.plan;
  bound = c.next_level.ensures.bound ∙ c.loop.invariant.bound;
}

pub returns : goal.returns
returns c = record { plan = c.loop.invariant.plan; bound = c.loop.invariant.bound }
