-- How clocks are stored: with their reach beside them.
use Rattle.std.specs.Prelude.{◌≡◌, List}
use Rattle.std.proofs.Common.{ap, sym}
use Rattle.point_core.specs.declared.clocks.Clock.{Clock}
use Rattle.point_core.specs.declared.clocks.Clocks.TheInside.{Inside}
use Rattle.point_core.specs.Clocks.{AreClocks, reach_of_clocks}

abbrev pub inside_of : List Clock → Inside
inside_of clocks = record { clocks = clocks; reach = reach_of_clocks clocks }

pub inside_of_clocks : (c : Inside) → AreClocks c.clocks c.reach → inside_of c.clocks ≡ c
inside_of_clocks c h = ap (λ reach. record { clocks = c.clocks; reach = reach }) (sym h.1)
