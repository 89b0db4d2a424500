use Rattle.std.specs.Prelude.{Bool, true, false}
use Rattle.check_core.specs.declared.finding.CheckFinding.{CheckFinding}
use Rattle.check_core.specs.declared.finding.CheckFinding.TheVariants.{Unasked, AsExpected, Differs}

abbrev pub is_asked_finding : CheckFinding → Bool
is_asked_finding Unasked = false
is_asked_finding AsExpected = true
is_asked_finding Differs = true

abbrev pub is_difference : CheckFinding → Bool
is_difference Unasked = false
is_difference AsExpected = false
is_difference Differs = true
