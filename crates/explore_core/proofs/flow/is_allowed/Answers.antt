use Rattle.std.proofs.Common.{sym, ◌∙◌}
use Rattle.explore_core.specs.Flow.{has_put}
use Rattle.explore_core.proofs.Bounding.{put-allowed, put-elsewhere}
use Rattle.explore_core.proofs.flow.is_allowed.Goals as goal

pub returns-then-eq : goal.returns-then-eq
returns-then-eq c = λ is. put-allowed c.args.put.now c.args.from.now c.args.into.now c.args.others.now (sym c.has_put.ensures ∙ is)

pub returns : goal.returns
returns c = λ _. put-elsewhere c.args.put.now c.args.from.now (has_put c.args.others.now c.args.into.now) (sym c.eq.ensures ∙ c.if-eq.false)
