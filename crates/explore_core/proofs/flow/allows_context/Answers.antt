use Rattle.std.proofs.Common.{ap, ◌∙◌}
use Rattle.explore_core.specs.Flow.{allows_name, has_put}
use Rattle.explore_core.proofs.flow.allows_context.Goals as goal

pub returns-in_default : goal.returns-in_default
returns-in_default c = ap (allows_name (has_put c.args.puts.now c.args.into.now)) c.in_default.ensures

pub returns : goal.returns
returns c = c.has_put.ensures ∙ ap (allows_name (has_put c.args.puts.now c.args.into.now)) c.in-Some.ensures
