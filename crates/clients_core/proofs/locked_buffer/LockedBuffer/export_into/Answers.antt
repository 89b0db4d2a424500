use Rattle.std.proofs.Common.{sym, subst}
use Rattle.point_core.specs.Usage.{usage_number}
use Rattle.point_core.specs.Agreement.{AllAbove, HasRisingContexts}
use Rattle.point_core.proofs.Agreement.{listing-contexts}
use Rattle.clients_core.proofs.Acting.{OnOk-weaker}
use Rattle.clients_core.proofs.locked_buffer.LockedBuffer.export_into.Goals as goal

pub returns-clause-rising : goal.returns-clause-rising
returns-clause-rising c = OnOk-weaker c.collect_into.result (λ is. subst HasRisingContexts (sym is) (listing-contexts c.self.inside.resv.entries (usage_number c.args.usage) c.args.reach.now).0) c.collect_into.ensures.points

pub returns-clause-above : goal.returns-clause-above
returns-clause-above c = OnOk-weaker c.collect_into.result (λ is. subst (AllAbove c.args.reach.now) (sym is) (listing-contexts c.self.inside.resv.entries (usage_number c.args.usage) c.args.reach.now).2) c.collect_into.ensures.points
