use Rattle.std.proofs.Common.{ℕ, ◌<◌}
use Rattle.explore_core.specs.Search.{Grows, HasRacesOf, standing_at}
use Rattle.explore_core.proofs.races.list_races.Given as goal

abbrev pub invariant-loop-other : goal.invariant-loop-other
invariant-loop-other l = record {
  grows : Grows l.plan l.depth l.initial.found l.found;
  lists : (other : ℕ) → other < l.other → HasRacesOf l.plan l.found (standing_at l.plan l.state) other;
}
