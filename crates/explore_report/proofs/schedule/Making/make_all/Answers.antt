use Rattle.std.proofs.Common.{◌++◌, subst, take}
use Rattle.std.proofs.lemmas.List.{take_all}
use Rattle.explore_report.specs.Making.{HasMade, standing_past}
use Rattle.explore_report.proofs.Scheduled.{past-next, past-none}
use Rattle.explore_report.proofs.schedule.Making.make_all.Goals as goal

pub loop-command-init : goal.loop-command-init
loop-command-init c = λ commands now has. past-none commands now c.args.self.now has

pub loop-command-preserved : goal.loop-command-preserved
loop-command-preserved c = λ commands now has.
    let own = c.args.own.now in
    let i = c.loop-command.command-index in
    past-next commands own i c.command-item.result now c.make.new.self c.loop-command-test.true c.command-item.is
    (c.in_ok-make.ensures.made (commands ++ take i own) (standing_past now (take i own)) (c.loop-command.invariant commands now has))

pub returns : goal.returns
returns c = record {
  made = λ commands now has.
      let all = take_all c.loop-command.command-index c.args.own.now c.loop-command-test.false in
      subst (λ cs. HasMade (commands ++ cs) (standing_past now cs) c.loop-command.self) all (c.loop-command.invariant commands now has);
}
