use Rattle.std.proofs.Common.{refl, sym, ap, ◌∙◌}
use Rattle.std.proofs.lemmas.List.{take_all}
use Rattle.explore_core.specs.Flow.{has_put, is_put}
use Rattle.explore_core.proofs.Bounding.{any-at, none-next}
use Rattle.explore_core.proofs.flow.has_put.Goals as goal

pub loop-put-init : goal.loop-put-init
loop-put-init c = refl

pub loop-put-preserved : goal.loop-put-preserved
loop-put-preserved c =
    none-next (is_put c.args.into.now c.args.timeline.now) c.args.puts.now c.loop-put.put-index c.put-item.result c.loop-put-test.true c.put-item.is c.loop-put.invariant (sym c.is_put.ensures ∙ c.if-is_put.false)

pub returns-then-is_put : goal.returns-then-is_put
returns-then-is_put c =
    sym (any-at (is_put c.args.into.now c.args.timeline.now) c.args.puts.now c.loop-put.put-index c.put-item.result c.loop-put-test.true c.put-item.is (sym c.is_put.ensures ∙ c.if-is_put.true))

pub returns : goal.returns
returns c = sym c.loop-put.invariant ∙ ap (λ puts. has_put puts c.args.into.now c.args.timeline.now) (take_all c.loop-put.put-index c.args.puts.now c.loop-put-test.false)
