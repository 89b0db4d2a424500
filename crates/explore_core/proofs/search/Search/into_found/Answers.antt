use Rattle.std.proofs.Common.{◌≡◌, true, sym, subst}
use Rattle.explore_core.specs.declared.found.Found.{Found}
use Rattle.explore_core.specs.Found.{HasVisited, IsAll, IsShortest, IsTrue, ListsOnce}
use Rattle.explore_core.specs.Searching.{SearchState}
use Rattle.explore_core.proofs.search.Search.into_found.Goals as goal

pub returns-clause-shown : goal.returns-clause-shown
returns-clause-shown c =
    subst (λ (f : Found). IsTrue c.args.self.plan f) (sym c.into_found.ensures.found)
    (subst (λ (s : SearchState). IsTrue s.plan c.self.inside.tour.found) c.self.view_is c.self.invariant.1.shown)

pub returns-clause-once : goal.returns-clause-once
returns-clause-once c = subst ListsOnce (sym c.into_found.ensures.found) c.self.invariant.1.once

pub returns-clause-all : goal.returns-clause-all
returns-clause-all c =
    subst (λ (f : Found). f.covered ≡ true → IsAll c.args.self.plan f) (sym c.into_found.ensures.found)
    (λ covered. subst (λ (s : SearchState). IsAll s.plan c.self.inside.tour.found) c.self.view_is (c.self.invariant.2 covered).all)

pub returns-clause-shortest : goal.returns-clause-shortest
returns-clause-shortest c =
    subst (λ (f : Found). IsShortest c.args.self.plan f) (sym c.into_found.ensures.found)
    (subst (λ (s : SearchState). IsShortest s.plan c.self.inside.tour.found) c.self.view_is c.self.invariant.1.shortest)

pub returns-clause-visited : goal.returns-clause-visited
returns-clause-visited c =
    subst (λ (f : Found). HasVisited c.args.self.plan c.args.self.bound f) (sym c.into_found.ensures.found)
    (subst (λ (s : SearchState). HasVisited s.plan s.bound c.self.inside.tour.found) c.self.view_is
    (record { within = c.self.invariant.1.within; enough = λ covered. (c.self.invariant.2 covered).enough }))
