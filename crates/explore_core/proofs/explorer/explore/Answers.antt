use Rattle.std.proofs.Common.{◌∙◌, subst}
use Rattle.explore_core.specs.Found.{HasVisited, IsAll, IsShortest, IsTrue}
use Rattle.explore_core.specs.Schedule.{Lines}
use Rattle.explore_core.proofs.explorer.explore.Goals as goal

pub returns-clause-shown : goal.returns-clause-shown
returns-clause-shown c = subst (λ (p : Lines). IsTrue p c.into_found.result) (c.finish.ensures.plan ∙ c.in_ok-search.ensures.plan) c.into_found.ensures.shown

pub returns-clause-all : goal.returns-clause-all
returns-clause-all c = λ covered. subst (λ (p : Lines). IsAll p c.into_found.result) (c.finish.ensures.plan ∙ c.in_ok-search.ensures.plan) (c.into_found.ensures.all covered)

pub returns-clause-shortest : goal.returns-clause-shortest
returns-clause-shortest c = subst (λ (p : Lines). IsShortest p c.into_found.result) (c.finish.ensures.plan ∙ c.in_ok-search.ensures.plan) c.into_found.ensures.shortest

pub returns-clause-visited : goal.returns-clause-visited
returns-clause-visited c =
    subst (λ (p : Lines). HasVisited p c.args.bound c.into_found.result) (c.finish.ensures.plan ∙ c.in_ok-search.ensures.plan)
    (subst (λ bound. HasVisited c.finish.new.self.plan bound c.into_found.result) (c.finish.ensures.bound ∙ c.in_ok-search.ensures.bound) c.into_found.ensures.visited)
