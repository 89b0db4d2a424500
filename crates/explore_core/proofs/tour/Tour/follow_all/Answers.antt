use Rattle.std.proofs.Common.{length, subst}
use Rattle.explore_core.specs.Search.{AreTried, states_of}
use Rattle.explore_core.proofs.Levels.{Advances-trans}
use Rattle.explore_core.proofs.Finding.{IsLeft-alone, IsLeft-goes, IsLeft-waits, IsLeft-done, stuck-waits, done-all}
use Rattle.explore_core.proofs.tour.Tour.follow_all.Goals as goal

pub returns-in-Goes-clause-left : goal.returns-in-Goes-clause-left
returns-in-Goes-clause-left c =
    let plan = c.args.setup.now.plan.now in
    let tour = c.try_each.new.self in
    let next = states_of tour.next.seen in
    let state = c.args.state.now in
    IsLeft-goes plan tour.found next state (subst (AreTried plan tour.found next state (length plan.clients)) c.in-Goes.is c.in_ok-try_each.ensures.tried)

pub returns-in-Alone-clause-left : goal.returns-in-Alone-clause-left
returns-in-Alone-clause-left c =
    let plan = c.args.setup.now.plan.now in
    let tour = c.try_each.new.self in
    let next = states_of tour.next.seen in
    let state = c.args.state.now in
    IsLeft-alone plan tour.found next state (subst (AreTried plan tour.found next state (length plan.clients)) c.in-Alone.is c.in_ok-try_each.ensures.tried)

pub show_stuck-requires-clause-stuck : goal.show_stuck-requires-clause-stuck
show_stuck-requires-clause-stuck c =
    let plan = c.args.setup.now.plan.now in
    let tour = c.try_each.new.self in
    let next = states_of tour.next.seen in
    let state = c.args.state.now in
    stuck-waits plan tour.found next state (subst (AreTried plan tour.found next state (length plan.clients)) c.in-Waits.is c.in_ok-try_each.ensures.tried)

pub returns-in_err-show_stuck-in-Waits-clause-advances : goal.returns-in_err-show_stuck-in-Waits-clause-advances
returns-in_err-show_stuck-in-Waits-clause-advances c = Advances-trans c.try_each.ensures.advances c.show_stuck.ensures.advances

pub returns-in_ok-show_stuck-in-Waits-clause-advances : goal.returns-in_ok-show_stuck-in-Waits-clause-advances
returns-in_ok-show_stuck-in-Waits-clause-advances c = Advances-trans c.try_each.ensures.advances c.show_stuck.ensures.advances

pub returns-in_ok-show_stuck-in-Waits-clause-left : goal.returns-in_ok-show_stuck-in-Waits-clause-left
returns-in_ok-show_stuck-in-Waits-clause-left c =
    let plan = c.args.setup.now.plan.now in
    let tour = c.try_each.new.self in
    let state = c.args.state.now in
    let shown = c.in_ok-show_stuck-in-Waits.ensures.shown in
    IsLeft-waits state c.show_stuck.ensures.advances
    (subst (AreTried plan tour.found (states_of tour.next.seen) state (length plan.clients)) c.in-Waits.is c.in_ok-try_each.ensures.tried) shown.0 shown.1

pub make_last-requires-clause-done : goal.make_last-requires-clause-done
make_last-requires-clause-done c =
    let plan = c.args.setup.now.plan.now in
    let tour = c.try_each.new.self in
    let next = states_of tour.next.seen in
    let state = c.args.state.now in
    done-all plan tour.found next state (subst (AreTried plan tour.found next state (length plan.clients)) c.in-Done.is c.in_ok-try_each.ensures.tried)

pub returns-in_err-make_last-in-Done-clause-advances : goal.returns-in_err-make_last-in-Done-clause-advances
returns-in_err-make_last-in-Done-clause-advances c = Advances-trans c.try_each.ensures.advances c.make_last.ensures.advances

pub returns-in_ok-make_last-in-Done-clause-advances : goal.returns-in_ok-make_last-in-Done-clause-advances
returns-in_ok-make_last-in-Done-clause-advances c = Advances-trans c.try_each.ensures.advances c.make_last.ensures.advances

pub returns-in_ok-make_last-in-Done-clause-left : goal.returns-in_ok-make_last-in-Done-clause-left
returns-in_ok-make_last-in-Done-clause-left c =
    let plan = c.args.setup.now.plan.now in
    let tour = c.try_each.new.self in
    let state = c.args.state.now in
    IsLeft-done state c.make_last.ensures.advances
    (subst (AreTried plan tour.found (states_of tour.next.seen) state (length plan.clients)) c.in-Done.is c.in_ok-try_each.ensures.tried) c.in_ok-make_last-in-Done.ensures.ended
