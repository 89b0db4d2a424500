use Rattle.std.proofs.Common.{ℕ, ◌<◌}
use Rattle.explore_core.specs.Access.{RaceAt}
use Rattle.explore_core.specs.Found.{ListsRace}
use Rattle.explore_core.specs.Search.{Grows, standing_at}
use Rattle.explore_core.proofs.races.list_races_of.Given as goal

abbrev pub invariant-loop-one : goal.invariant-loop-one
invariant-loop-one l = record {
  grows : Grows l.plan l.depth l.initial.found l.found;
  lists : (one : ℕ) → one < l.one → RaceAt l.plan (standing_at l.plan l.state).made one l.other → ListsRace l.found.races.items one l.other;
}
