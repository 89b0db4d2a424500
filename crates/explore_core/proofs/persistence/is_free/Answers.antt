use Rattle.std.proofs.Common.{◌≡◌, get_or, ap, ◌∙◌, subst}
use Rattle.explore_core.specs.Room.{LeadsForward}
use Rattle.explore_core.specs.Schedule.{made_by}
use Rattle.explore_core.proofs.persistence.is_free.Goals as goal

pub returns-then-leads_forward : goal.returns-then-leads_forward
returns-then-leads_forward c = λ is now at.
    let made = c.as_slice-made.ensures.value ∙ at.made in
    let place : c.place_of.result ≡ made_by now c.args.client = c.place_of.ensures ∙ ap (λ ps. get_or ps c.args.client 0) made in
    record {
      can = c.can_go.ensures.can c.if-not-can_go.false now at;
      patient = c.can_go.ensures.patient c.if-not-can_go.false;
      forward = subst (λ k. LeadsForward k c.args.line.now) place (c.leads_forward.ensures c.if-leads_forward.true);
      independent = λ client place ahead there. c.all_leave.ensures is now made client place ahead there;
    }
