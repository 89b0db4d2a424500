use Rattle.std.proofs.Common.{◌≡◌, true, subst}
use Rattle.std.specs.Prelude.{All}
use Rattle.std.proofs.lemmas.List.{take_all}
use Rattle.explore_core.specs.Flow.{allows_buffer, bounds_of}
use Rattle.explore_core.proofs.Bounding.{all-next}
use Rattle.explore_core.proofs.flow.Flow.allows_buffers.Goals as goal

pub loop-name-preserved : goal.loop-name-preserved
loop-name-preserved c =
    all-next (λ name. allows_buffer (bounds_of c.args.self.now) c.args.desk.now name ≡ true) c.args.names.now c.loop-name.name-index c.name-item.result c.loop-name-test.true c.name-item.is c.loop-name.invariant (c.allows_buffer.ensures c.if-not-allows_buffer.false)

pub returns : goal.returns
returns c = λ _.
    subst (All (λ name. allows_buffer (bounds_of c.args.self.now) c.args.desk.now name ≡ true)) (take_all c.loop-name.name-index c.args.names.now c.loop-name-test.false) c.loop-name.invariant
