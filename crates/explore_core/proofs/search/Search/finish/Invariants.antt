use Rattle.std.proofs.Common.{◌≡◌}
use Rattle.explore_core.proofs.search.Search.finish.Given as goal

abbrev pub invariant-loop : goal.invariant-loop
invariant-loop l = record {
  plan : l.self.plan ≡ l.initial.self.plan;
  bound : l.self.bound ≡ l.initial.self.bound;
}
