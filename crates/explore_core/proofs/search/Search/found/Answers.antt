use Rattle.std.proofs.Common.{ap, subst}
use Rattle.explore_core.specs.Found.{HasVisited, IsAll, IsShortest, IsTrue}
use Rattle.explore_core.specs.Searching.{SearchState}
use Rattle.explore_core.proofs.search.Search.found.Goals as goal

pub returns : goal.returns
returns c =
    let right = c.self.invariant.1 in
    let found = c.self.inside.tour.found in
    record {
      found = ap (λ (s : SearchState). s.found) c.self.view_is;
      shown = subst (λ (s : SearchState). IsTrue s.plan found) c.self.view_is right.shown;
      once = right.once;
      all = λ covered. subst (λ (s : SearchState). IsAll s.plan found) c.self.view_is (c.self.invariant.2 covered).all;
      shortest = subst (λ (s : SearchState). IsShortest s.plan found) c.self.view_is right.shortest;
      visited = subst (λ (s : SearchState). HasVisited s.plan s.bound found) c.self.view_is (record { within = right.within; enough = λ covered. (c.self.invariant.2 covered).enough });
    }
