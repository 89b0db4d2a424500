use Rattle.std.proofs.Common.{sym, ap, ◌∙◌}
use Rattle.point_core.specs.declared.entry.Point.{Point}
use Rattle.point_core.specs.Agreement.{point_of}
use Rattle.point_core.specs.Reach.{reaching}
use Rattle.desk_core.proofs.Doing.{IsDone-inc}
use Rattle.desk_core.proofs.Inside.{inside-raised}
use Rattle.desk_core.proofs.Watching.{sure-fired}
use Rattle.desk_core.proofs.desk.Desk.inc.Goals as goal

pub returns-in_err-fired-clause-sure : goal.returns-in_err-fired-clause-sure
returns-in_err-fired-clause-sure c =
    let point = point_of c.in_ok-ctx.field-0.ctx c.in_ok-ctx.field-0.value in
    let at = ap (λ r. reaching r point) c.self.invariant.watches ∙ c.in_ok-ctx.ensures.reach in
    rw (← c.self.view_is) (λ none. absurd (sure-fired (record { timelines = c.self.inside.timelines; files = c.self.inside.files; buffers = c.self.inside.buffers; watches = c.self.inside.watches }) (reaching c.self.inside.watches.reach point) _ c.after_inc.result _ at none c.after_inc.ensures.none_fires c.in_err-fired.was))

pub invariant_of-self-2 : goal.invariant_of-self-2
invariant_of-self-2 c =
    let point = point_of c.in_ok-ctx.field-0.ctx c.in_ok-ctx.field-0.value in
    let ctx = ap (λ (p : Point). p.ctx) c.in_ok-ctx.ensures.point in
    let sum = ap (λ (p : Point). p.value) c.in_ok-ctx.ensures.point in
    let at = ap (λ r. reaching r point) c.self.invariant.watches ∙ c.in_ok-ctx.ensures.reach in
    let risen = c.raise_to.ensures.raised c.args.name.now c.args.n c.in_ok-ctx.ensures.known.0 (sym ctx) (sym sum) in
    inside-raised c.raise_to.new.self c.args.name.now c.args.n c.after_inc.new.self (reaching c.self.inside.watches.reach point) risen at c.in_ok-fired.ensures.left c.self.invariant

pub returns-clause-done : goal.returns-clause-done
returns-clause-done c =
    let point = point_of c.in_ok-ctx.field-0.ctx c.in_ok-ctx.field-0.value in
    let ctx = ap (λ (p : Point). p.ctx) c.in_ok-ctx.ensures.point in
    let sum = ap (λ (p : Point). p.value) c.in_ok-ctx.ensures.point in
    let at = ap (λ r. reaching r point) c.self.invariant.watches ∙ c.in_ok-ctx.ensures.reach in
    let risen = c.raise_to.ensures.raised c.args.name.now c.args.n c.in_ok-ctx.ensures.known.0 (sym ctx) (sym sum) in
    rw (← c.self.view_is)
    (IsDone-inc _ c.args.name.now c.args.n c.raise_to.new.self c.in_ok-ctx.field-0.value (reaching c.self.inside.watches.reach point) c.of.result c.after_inc.new.self risen sum at (c.of.ensures ∙ c.in_ok-fired.ensures.fired) c.in_ok-fired.ensures.left)
