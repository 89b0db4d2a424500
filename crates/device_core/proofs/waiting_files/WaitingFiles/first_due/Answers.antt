use Rattle.std.proofs.Common.{◌≡◌, ◌≤◌, ◌∙◌, sym, ap, subst, true}
use Rattle.device_core.specs.declared.waiting_files.Waiter.{Waiter}
use Rattle.device_core.specs.theorem.State.{holds, is_due_at}
use Rattle.device_core.proofs.Held.{if_some-then, if_none-then, first-there, first-least, first-past, first-none}
use Rattle.device_core.proofs.waiting_files.WaitingFiles.first_due.Goals as goal

pub returns-in-Some-clause-some : goal.returns-in-Some-clause-some
returns-in-Some-clause-some c =
    let there = first-there c.first.result c.range.result c.next.new.self c.in-Some.first.now c.self.inside.points.keys c.in-Some.ensures.steps (c.range.ensures.in_range tt).0 in
    if_some-then c.if_due.result c.if_due.ensures.due (λ k h. (
      subst (λ w. is_due_at c.args.timeline c.args.value w ≡ true) (sym h.0) h.1,
      ap (holds c.args.self.now) h.0 ∙ ap (λ ks. holds ks c.in-Some.first.now) (sym c.self.view_is) ∙ there.1,
    ))

pub returns-in-Some-clause-least : goal.returns-in-Some-clause-least
returns-in-Some-clause-least c =
    if_some-then c.if_due.result c.if_due.ensures.due (λ k h j due there.
    subst (λ (w : Waiter). w.value ≤ j.value) (sym h.0)
    (first-least c.args.timeline c.args.value c.first.result c.range.result c.next.new.self c.in-Some.first.now c.self.inside.points.keys c.first.ensures c.in-Some.ensures.steps h.1 (c.range.ensures.in_range tt).2 j due (ap (λ ks. holds ks j) c.self.view_is ∙ there)))

pub returns-in-Some-clause-none : goal.returns-in-Some-clause-none
returns-in-Some-clause-none c =
    let range = c.range.ensures.in_range tt in
    let there = first-there c.first.result c.range.result c.next.new.self c.in-Some.first.now c.self.inside.points.keys c.in-Some.ensures.steps range.0 in
    if_none-then c.if_due.result c.if_due.ensures.past (λ past k due.
    ap (λ ks. holds ks k) (sym c.self.view_is)
    ∙ first-past c.args.timeline c.args.value c.first.result c.range.result c.next.new.self c.in-Some.first.now c.self.inside.points.keys c.first.ensures c.in-Some.ensures.steps past there.0 range.2 k due)

pub returns-in-None-clause-none : goal.returns-in-None-clause-none
returns-in-None-clause-none c = λ k due.
    ap (λ ks. holds ks k) (sym c.self.view_is)
    ∙ first-none c.args.timeline c.args.value c.first.result c.self.inside.points.keys c.first.ensures ((c.range.ensures.in_range tt).5 c.in-None.ensures.steps.0) k due
