use Rattle.std.proofs.Common.{max, sym, ap, subst, ◌∙◌, arith}
use Rattle.point_core.specs.declared.entry.Point.{Point}
use Rattle.point_core.specs.Agreement.{point_of}
use Rattle.point_core.specs.Reach.{GREATEST, value_at, reaching, IsAtLeast}
use Rattle.timeline_core.specs.Timeline.{reach_of}
use Rattle.timeline_core.proofs.Raising.{IsAtLeast-reaching}
use Rattle.desk_core.proofs.Doing.{IsDone-shut}
use Rattle.desk_core.proofs.Inside.{inside-shut}
use Rattle.desk_core.proofs.Watching.{sure-fired}
use Rattle.desk_core.proofs.desk.Desk.shut.Goals as goal

pub returns-in_err-fired-clause-sure : goal.returns-in_err-fired-clause-sure
returns-in_err-fired-clause-sure c =
    let last = point_of c.in_ok-ctx.field-0.ctx GREATEST in
    let at = ap (λ r. reaching r last) c.self.invariant.watches ∙ c.in_ok-ctx.ensures.last in
    rw (← c.self.view_is) (λ none. absurd (sure-fired (record { timelines = c.self.inside.timelines; files = c.self.inside.files; buffers = c.self.inside.buffers; watches = c.self.inside.watches }) (reaching c.self.inside.watches.reach last) _ c.after_inc.result _ at none c.after_inc.ensures.none_fires c.in_err-fired.was))

pub invariant_of-self-2 : goal.invariant_of-self-2
invariant_of-self-2 c =
    let last = point_of c.in_ok-ctx.field-0.ctx GREATEST in
    let ctx = ap (λ (p : Point). p.ctx) c.in_ok-ctx.ensures.point in
    let at = ap (λ r. reaching r last) c.self.invariant.watches ∙ c.in_ok-ctx.ensures.last in
    let closed = c.close.ensures.shut c.args.name.now c.in_ok-ctx.ensures.known.0 (sym ctx) in
    let reach = reach_of c.self.inside.timelines in
    let never_falls = subst (λ r. IsAtLeast r reach) (c.in_ok-ctx.ensures.last ∙ ap reach_of (sym closed)) (IsAtLeast-reaching reach c.in_ok-ctx.field-0.ctx (max (value_at reach c.in_ok-ctx.field-0.ctx) GREATEST) (omega arith)) in
    inside-shut c.close.new.self c.args.name.now c.after_inc.new.self (reaching c.self.inside.watches.reach last) closed never_falls at c.in_ok-fired.ensures.left c.self.invariant

pub returns-clause-done : goal.returns-clause-done
returns-clause-done c =
    let last = point_of c.in_ok-ctx.field-0.ctx GREATEST in
    let ctx = ap (λ (p : Point). p.ctx) c.in_ok-ctx.ensures.point in
    let own = ap (λ (p : Point). p.value) c.in_ok-ctx.ensures.point in
    let at = ap (λ r. reaching r last) c.self.invariant.watches ∙ c.in_ok-ctx.ensures.last in
    let closed = c.close.ensures.shut c.args.name.now c.in_ok-ctx.ensures.known.0 (sym ctx) in
    rw (← c.self.view_is)
    (IsDone-shut _ c.args.name.now c.close.new.self c.in_ok-ctx.field-0.value (reaching c.self.inside.watches.reach last) c.of.result c.after_inc.new.self closed own at (c.of.ensures ∙ c.in_ok-fired.ensures.fired) c.in_ok-fired.ensures.left)
