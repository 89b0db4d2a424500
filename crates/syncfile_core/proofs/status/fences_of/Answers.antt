use Rattle.std.proofs.Common.{sym, ◌∙◌, rules}
use Rattle.std.proofs.lemmas.Iterator.{YieldsList-from_slice, YieldsList-from_map, items_from_collect}
use Rattle.syncfile_core.specs.Status.{fence_of}
use Rattle.syncfile_core.proofs.Statuses.{fences_of-some}
use Rattle.syncfile_core.proofs.status.fences_of.Goals as goal

pub returns : goal.returns
returns c =
    let some = fences_of-some c.args.points.now c.args.clocks.now (sym c.is_empty.ensures ∙ c.if-is_empty.false) in
    record { fences = rw some (items_from_collect c.collect.result c.collect.ensures.ran (YieldsList-from_map _ (fence_of c.args.clocks.now) (YieldsList-from_slice c.args.points.now cc) c.map.ensures.closure (λ x r q k. search rules))) }
