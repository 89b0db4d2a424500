use Rattle.std.proofs.Common.{◌≡◌, take}
use Rattle.std.specs.Map.{values_of}
use Rattle.fence_core.specs.Reported.{with_cookies}
use Rattle.fence_core.proofs.watches.listed.Given as goal

abbrev pub invariant-loop-registration : goal.invariant-loop-registration
invariant-loop-registration l = l.cookies.items ≡ values_of (with_cookies (take l.registration-index l.fired))
