use Rattle.std.proofs.Common.{sym, ◌∙◌}
use Rattle.explore_core.proofs.Omitting.{IsTrue-shortened, ListsOnce-shortened, IsShortest-shortened, HasVisited-shortened, IsAll-shortened, covered-same}
use Rattle.explore_report.proofs.plan_script.PlanScript.explore.Goals as goal

pub returns-clause-shown : goal.returns-clause-shown
returns-clause-shown c = IsTrue-shortened c.args.self.now.plan _ _ c.shorten.ensures.shortened c.in_ok-found.ensures.shown

pub returns-clause-once : goal.returns-clause-once
returns-clause-once c = ListsOnce-shortened c.args.self.now.plan _ _ c.shorten.ensures.shortened c.in_ok-found.ensures.once

pub returns-clause-all : goal.returns-clause-all
returns-clause-all c = λ covered.
    let plan = c.args.self.now.plan in
    let same = c.shorten.ensures.shortened in
    IsAll-shortened plan _ _ same (c.in_ok-found.ensures.all (sym (covered-same plan _ _ same) ∙ covered))

pub returns-clause-shortest : goal.returns-clause-shortest
returns-clause-shortest c = IsShortest-shortened c.args.self.now.plan _ _ c.shorten.ensures.shortened c.in_ok-found.ensures.shortest

pub returns-clause-visited : goal.returns-clause-visited
returns-clause-visited c = HasVisited-shortened c.args.self.now.plan _ _ c.shorten.ensures.shortened c.args.bound c.in_ok-found.ensures.visited
