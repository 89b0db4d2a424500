use Rattle.std.proofs.Common.{◌≡◌, ◌+◌, ap, ◌∙◌}
use Rattle.point_core.specs.declared.entry.Point.{Point}
use Rattle.timeline_core.specs.Timeline.{context_of, value_of}
use Rattle.timeline_core.proofs.Raising.{reaching-raised}
use Rattle.timeline_core.proofs.timelines.Timelines.next.Goals as goal

pub returns-clause-reach : goal.returns-clause-reach
returns-clause-reach c =
    let ts = c.args.self.now in
    let name = c.args.name.now in
    let at : c.in_ok-ctx.field-0.ctx ≡ context_of ts name = ap (λ (p : Point). p.ctx) c.in_ok-ctx.ensures.point in
    let own : c.in_ok-ctx.field-0.value ≡ value_of ts name = ap (λ (p : Point). p.value) c.in_ok-ctx.ensures.point in
    let sum = (rw c.in_ok-value.ensures.ok_part at c.checked_add.ensures).1 ∙ ap (λ v. v + c.args.n) own in
    reaching-raised ts name c.args.n c.in_ok-ctx.field-0.ctx c.in_ok-value.value at c.in_ok-ctx.ensures.timelines c.in_ok-ctx.ensures.known.0 c.in_ok-ctx.ensures.not_closed sum
