use Rattle.std.proofs.Common.{◌++◌, subst, take}
use Rattle.std.proofs.lemmas.List.{take_all}
use Rattle.explore_core.specs.Schedule.{Schedule}
use Rattle.explore_report.specs.Making.{HasMade, commands_along, standing_along}
use Rattle.explore_report.proofs.Scheduled.{lines-next, lines-none}
use Rattle.explore_report.proofs.schedule.Making.push_lines.Goals as goal

pub loop-client-init : goal.loop-client-init
loop-client-init c = λ commands now has. lines-none c.args.plan.now.plan commands now c.args.self.now has

pub loop-client-preserved : goal.loop-client-preserved
loop-client-preserved c = λ commands now has.
    let plan = c.args.plan.now.plan in
    let schedule = c.args.schedule.now in
    let i = c.loop-client.client-index in
    let before = take i schedule in
    lines-next plan commands now schedule i _ c.push_line.new.self c.loop-client-test.true
    (c.in_ok-push_line.ensures.line (commands ++ commands_along plan now before) (standing_along plan now before) (c.loop-client.invariant commands now has))

pub returns : goal.returns
returns c = record {
  lines = λ commands now has.
      let plan = c.args.plan.now.plan in
      let all = take_all c.loop-client.client-index c.args.schedule.now c.loop-client-test.false in
      subst (λ (s : Schedule). HasMade (commands ++ commands_along plan now s) (standing_along plan now s) c.loop-client.self) all
      (c.loop-client.invariant commands now has);
}
