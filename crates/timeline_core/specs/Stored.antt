-- How timelines are stored: their names, and the clocks beside them.
use Rattle.std.specs.Prelude.{◌≡◌, ℕ, List, map}
use Rattle.std.specs.List.{zip}
use Rattle.point_core.specs.declared.clocks.Clock.{Clock}
use Rattle.timeline_core.specs.Timeline.{Timeline, timeline_of, names_of, clocks_of, AreTimelines}

-- each name beside its clock
abbrev pub timelines_of : List (List ℕ) → List Clock → List Timeline
timelines_of names clocks = map (λ (both : List ℕ × Clock). timeline_of both.0 both.1) (zip names clocks)

-- the names and the clocks are those of the timelines
pub record AreStored (names : List (List ℕ)) (clocks : List Clock) : Type 0 where
  pub names_are : names ≡ names_of (timelines_of names clocks)
  pub clocks_are : clocks ≡ clocks_of (timelines_of names clocks)
  pub timelines : AreTimelines (timelines_of names clocks)
