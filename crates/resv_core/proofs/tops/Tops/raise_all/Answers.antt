use Rattle.std.proofs.Common.{◌++◌, [], ap, subst}
use Rattle.point_core.specs.Agreement.{HasContexts}
use Rattle.resv_core.specs.Resv.{entries_as}
use Rattle.resv_core.specs.Tops.{AreTops}
use Rattle.resv_core.proofs.Raising.{HasRaised, HasRaised-none, HasRaised-more, HasRaised-all, HasRaised-points, length-IsFirstLater}
use Rattle.resv_core.proofs.tops.Tops.raise_all.Goals as goal

pub loop-point-init : goal.loop-point-init
loop-point-init c = HasRaised-none c.args.usage c.args.self.now c.args.points.now

pub loop-point-preserved : goal.loop-point-preserved
loop-point-preserved c = HasRaised-more c.in-Some.point c.in-Some.others.now c.loop-point.invariant c.at.ensures.latest c.in-Some.ensures.first c.raise_later.ensures.tops c.raise_later.ensures.context

pub loop-point-smaller : goal.loop-point-smaller
loop-point-smaller c = length-IsFirstLater c.in-Some.ensures.first

all : (c : goal.In_default) → HasRaised c.args.usage c.args.self.now c.loop-point.self c.args.points.now []
all c = HasRaised-all c.loop-point.invariant c.at.ensures.latest c.in_default.ensures.first

pub returns-clause-tops : goal.returns-clause-tops
returns-clause-tops c = λ reach es tell. subst (λ points. AreTops c.loop-point.self reach (es ++ entries_as c.args.usage points)) (HasRaised-points (all c)) ((all c).tops reach es tell)

pub returns-clause-contexts : goal.returns-clause-contexts
returns-clause-contexts c = subst HasContexts (ap (entries_as c.args.usage) (HasRaised-points (all c))) (all c).contexts
