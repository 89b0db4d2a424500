use Rattle.std.proofs.Common.{sym, ap, ◌∙◌, subst, refl, is_some, get_or, set}
use Rattle.explore_core.specs.Schedule.{is_due, place_after}
use Rattle.explore_core.specs.Search.{IsMade}
use Rattle.explore_core.proofs.Positions.{none-due, none-held, answers-free, IsAt-held, IsAt-made}
use Rattle.explore_core.proofs.Visiting.{IsAt-stayed}
use Rattle.explore_core.proofs.position.Position.go.Goals as goal

pub returns-then-not-is_due : goal.returns-then-not-is_due
returns-then-not-is_due c = record {
  made = λ plan now at here next.
      let step = c.args.step.now in
      let due = ap (λ ps. is_due ps step.after) (sym (c.as_slice.ensures.value ∙ at.made)) ∙ sym c.is_due.ensures ∙ c.if-not-is_due.true in
      (none-due plan now c.args.client step next due, ap is_some next, at);
}

pub returns-then-is_held : goal.returns-then-is_held
returns-then-is_held c = record {
  made = λ plan now at here next.
      let step = c.args.step.now in
      let made = c.in_ok-answer.ensures.made in
      let due = ap (λ ps. is_due ps step.after) (sym (c.as_slice.ensures.value ∙ at.made)) ∙ sym c.is_due.ensures ∙ c.if-not-is_due.false in
      let held = sym c.is_held.ensures ∙ c.if-is_held.true in
      let new = record c.args.self.now { desk = c.make.new.desk } in
      let none = none-held plan now c.args.client step c.in_ok-answer.answer c.args.self.now new at next due made held in
      (none, ap is_some next, IsAt-stayed plan now c.args.client none (IsAt-held plan now c.args.client step c.in_ok-answer.answer c.args.self.now new at next due made held refl));
}

pub returns : goal.returns
returns c = record {
  made = λ plan now at here next.
      let step = c.args.step.now in
      let old = c.args.self.now in
      let made = subst (λ desk. IsMade old.desk step.command c.in_ok-answer.answer desk) (sym c.count_to.ensures.desk) c.in_ok-answer.ensures.made in
      let due = ap (λ ps. is_due ps step.after) (sym (c.as_slice.ensures.value ∙ at.made)) ∙ sym c.is_due.ensures ∙ c.if-not-is_due.false in
      let free = sym c.is_held.ensures ∙ c.if-is_held.false in
      let place = sym here ∙ ap (λ ps. get_or ps c.args.client 0) (sym at.made) in
      let is = c.count_to.ensures.made ∙ ap (set old.made.items c.args.client) (c.in-Ok.ensures.next ∙ ap (λ n. place_after step n c.in_ok-answer.answer) place) in (
        answers-free plan now c.args.client step c.in_ok-answer.answer old c.count_to.new.self at next due made c.args.place here free,
        IsAt-made plan now c.args.client step c.in_ok-answer.answer old c.count_to.new.self at next due made free is,
      );
}
