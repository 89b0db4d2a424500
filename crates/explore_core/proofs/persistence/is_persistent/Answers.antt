use Rattle.std.proofs.Common.{subst}
use Rattle.explore_core.specs.Choice.{choice_of}
use Rattle.explore_core.specs.Flow.{bounds_of}
use Rattle.explore_core.specs.Persistent.{IsPersistent}
use Rattle.explore_core.proofs.Settling.{same-asked, IsPersistent-settled}
use Rattle.explore_core.proofs.persistence.is_persistent.Goals as goal

pub returns-then-are_settled : goal.returns-then-are_settled
returns-then-are_settled c = λ is now at.
    subst (λ asks. IsPersistent asks (bounds_of c.args.choice.now.flow) c.args.plan.now now (choice_of c.args.choice.now)) (same-asked c.args.plan.now c.args.asked.now c.requires.asked)
    (IsPersistent-settled (c.has_pending.ensures c.if-not-has_pending.false now.history at.desk) (c.are_settled.ensures c.if-are_settled.true now at) (c.one_goes.ensures is now at))
