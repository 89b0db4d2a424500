use Rattle.std.proofs.Common.{◌∙◌, cond, Some}
use Rattle.std.specs.Map.{lookup}
use Rattle.trace_core.specs.Keys.{same_timeline}
use Rattle.trace_core.specs.Tally.{none, tally_after}
use Rattle.trace_core.proofs.Puts.{inserted}
use Rattle.trace_core.proofs.timelines.TimelineTallies.count.Goals as goal

pub returns-clause-counted : goal.returns-clause-counted
returns-clause-counted c =
    let map = c.args.self.now.by_key.entries in
    λ k. inserted none (same_timeline c.args.key k) (tally_after c.args.found.now) c.count-2.new.self (lookup (same_timeline k) c.insert.new.self.entries) (lookup (same_timeline k) map) (lookup (same_timeline c.args.key) map) c.count-2.ensures c.in_default.ensures.value (c.in-Ok.ensures.updates.0 k ∙ (λ i. cond (same_timeline c.args.key k) (Some c.count-2.new.self) (lookup (same_timeline k) (c.get_mut.follows.holds-at-none i).entries)))
