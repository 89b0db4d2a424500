-- Status of points.
use Rattle.std.proofs.Common.{◌≡◌, false, ◌==◌, List, [], ◌∷◌, length, map, refl, sym}
use Rattle.point_core.specs.declared.clocks.Clock.{Clock}
use Rattle.point_core.specs.declared.entry.Point.{Point}
use Rattle.syncfile_core.specs.Status.{fence_of, fences_of}
use Rattle.std.proofs.lemmas.Bool.{false≢true}

pub fences_of-some : (points : List Point) (clocks : List Clock) → (length points == 0) ≡ false → fences_of points clocks ≡ map (fence_of clocks) points
fences_of-some [] clocks some = absurd (false≢true (sym some))
fences_of-some (p ∷ ps) clocks some = refl
