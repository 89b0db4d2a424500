use Rattle.std.proofs.Common.{sym, subst, ◌∙◌}
use Rattle.point_core.specs.Usage.{usage_number}
use Rattle.point_core.specs.Agreement.{AllAbove, HasRisingContexts}
use Rattle.point_core.proofs.Agreement.{listing-contexts}
use Rattle.clients_core.proofs.locked_buffer.LockedBuffer.export.Goals as goal

pub returns-clause-rising : goal.returns-clause-rising
returns-clause-rising c = subst HasRisingContexts (sym (c.of.ensures ∙ c.in_ok-points.ensures.points)) (listing-contexts c.self.inside.resv.entries (usage_number c.args.usage) c.args.reach.now).0

pub returns-clause-above : goal.returns-clause-above
returns-clause-above c = subst (AllAbove c.args.reach.now) (sym (c.of.ensures ∙ c.in_ok-points.ensures.points)) (listing-contexts c.self.inside.resv.entries (usage_number c.args.usage) c.args.reach.now).2
