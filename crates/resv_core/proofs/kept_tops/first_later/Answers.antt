use Rattle.std.proofs.Common.{◌+◌, ◌-◌, ◌≡◌, length, take, drop, subst, arith}
use Rattle.std.proofs.lemmas.List.{length-drop, take_all}
use Rattle.resv_core.specs.TopTable.{AreNotLater}
use Rattle.resv_core.proofs.Raising.{AreNotLater-more, IsFirstLater-at}
use Rattle.resv_core.proofs.kept_tops.first_later.Goals as goal

pub returns-then-get-point : goal.returns-then-get-point
returns-then-get-point c =
    let points = c.args.points.now in
    let i = c.loop-index.index in
    let rest = drop (i + 1) points in
    let all : take (length points - (i + 1)) rest ≡ rest = take_all (length points - (i + 1)) rest (omega (arith, length-drop (i + 1) points)) in
    record {
      first = rw all (IsFirstLater-at c.args.latest.now points i c.index-points-index.result c.loop-index-test.true c.index-points-index.is c.loop-index.invariant (omega (arith, c.get.ensures.value, c.if-get-point.true)));
    }

pub loop-index-preserved : goal.loop-index-preserved
loop-index-preserved c = AreNotLater-more c.args.latest.now c.args.points.now c.loop-index.index c.index-points-index.result c.loop-index-test.true c.index-points-index.is c.loop-index.invariant c.get.ensures.context (omega (arith, c.get.ensures.value, c.if-get-point.false))

pub returns : goal.returns
returns c = record {
  first = subst (AreNotLater c.args.latest.now) (take_all c.loop-index.index c.args.points.now (omega (arith, c.loop-index-test.false))) c.loop-index.invariant;
}
