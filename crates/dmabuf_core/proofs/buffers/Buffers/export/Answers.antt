use Rattle.std.proofs.Common.{sym, subst, ◌∙◌}
use Rattle.point_core.specs.Usage.{usage_number}
use Rattle.point_core.specs.Agreement.{HasRisingContexts}
use Rattle.point_core.proofs.Agreement.{listing-rising}
use Rattle.dmabuf_core.proofs.buffers.Buffers.export.Goals as goal

pub returns-clause-rising : goal.returns-clause-rising
returns-clause-rising c =
    let listed = c.of-2.ensures ∙ c.in_ok-collect.ensures.points in
    subst HasRisingContexts (sym listed) (listing-rising c.in_ok-table.table.now.entries (usage_number c.export_usage-usage.result) c.args.reach.now)
