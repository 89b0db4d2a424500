use Rattle.std.proofs.Common.{◌++◌, ◌∷◌, [], ap, ◌∙◌}
use Rattle.explore_core.proofs.search.first_level.Goals as goal

pub returns : goal.returns
returns c = record {
  first = (c.in_ok-state.state, c.in_ok-push.ensures.items ∙ ap (λ states. states ++ c.in_ok-state.state ∷ []) c.new-level.ensures.items, c.in_ok-state.ensures.first);
}
