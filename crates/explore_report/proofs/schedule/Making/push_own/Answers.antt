use Rattle.std.proofs.Common.{sym, subst, ◌++◌}
use Rattle.std.proofs.lemmas.Result.{on_ok_weaker}
use Rattle.explore_report.specs.Making.{HasMade, own_command, own_standing}
use Rattle.explore_report.proofs.Scheduled.{own-none}
use Rattle.explore_report.proofs.schedule.Making.push_own.Goals as goal

pub returns-in-First : goal.returns-in-First
returns-in-First c = record {
  own = λ commands now has.
      subst (λ s. HasMade (commands ++ own_command c.args.plan.now.plan now s) (own_standing c.args.plan.now.plan now s) c.args.self.now) (sym c.in-First.is)
      (own-none commands now c.args.self.now has);
}

pub returns-in-Client : goal.returns-in-Client
returns-in-Client c = record {
  own = on_ok_weaker c.push_line.result
      (λ line commands now has.
      subst (λ s. HasMade (commands ++ own_command c.args.plan.now.plan now s) (own_standing c.args.plan.now.plan now s) c.push_line.new.self) (sym c.in-Client.is)
      (line commands now has))
      c.push_line.ensures.line;
}

pub returns-in-Last : goal.returns-in-Last
returns-in-Last c = record {
  own = λ commands now has.
      subst (λ s. HasMade (commands ++ own_command c.args.plan.now.plan now s) (own_standing c.args.plan.now.plan now s) c.args.self.now) (sym c.in-Last.is)
      (own-none commands now c.args.self.now has);
}
