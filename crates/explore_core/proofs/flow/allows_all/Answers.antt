use Rattle.std.proofs.Common.{List, subst}
use Rattle.std.proofs.lemmas.Bool.{false≢true}
use Rattle.std.proofs.lemmas.List.{take_all}
use Rattle.explore_core.specs.declared.flow.Put.{Put}
use Rattle.explore_core.specs.Flow.{AllowsAll, has_put, is_put}
use Rattle.explore_core.proofs.Bounding.{allows-next}
use Rattle.explore_core.proofs.flow.allows_all.Goals as goal

pub loop-put-init : goal.loop-put-init
loop-put-init c = λ timeline is. absurd (false≢true is)

pub loop-put-preserved : goal.loop-put-preserved
loop-put-preserved c =
    allows-next (is_put c.args.from.now) (has_put c.args.others.now c.args.into.now) c.args.puts.now c.loop-put.put-index c.put-item.result c.loop-put-test.true c.put-item.is c.loop-put.invariant (c.is_allowed.ensures c.if-not-is_allowed.false)

pub returns : goal.returns
returns c = λ _.
    subst (λ (puts : List Put). AllowsAll (has_put puts c.args.from.now) (has_put c.args.others.now c.args.into.now)) (take_all c.loop-put.put-index c.args.puts.now c.loop-put-test.false) c.loop-put.invariant
