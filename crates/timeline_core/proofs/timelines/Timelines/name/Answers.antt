use Rattle.std.proofs.Common.{◌≡◌, ◌-◌, ap, ◌∙◌, arith, slice_get}
use Rattle.timeline_core.proofs.Lookups.{name_at-stored}
use Rattle.timeline_core.proofs.Storing.{names-seen}
use Rattle.timeline_core.proofs.timelines.Timelines.name.Goals as goal

pub returns : goal.returns
returns c =
    let place : c.index.result ≡ c.args.ctx - 1 = omega arith in
    c.copied.ensures ∙ c.get_index.ensures.key ∙ ap (slice_get c.self.inside.names.keys) place ∙ name_at-stored c.args.self.now c.args.ctx (names-seen c.self.invariant c.self.view_is)
