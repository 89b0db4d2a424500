-- A fence, and the points that it waits for.
use Rattle.std.specs.Prelude.{ℕ, Bool, List, [], ◌∷◌}
use Rattle.std.specs.List.{list_all}
use Rattle.point_core.specs.declared.entry.Point.{Point}
use Rattle.point_core.specs.Reach.{is_reached}
use Rattle.fence_core.specs.declared.fence.Fence.{Fence}
use Rattle.fence_core.specs.declared.fence.Fence.TheVariants.{Stub, Plain, Array}

-- the points that a fence waits for
abbrev pub members_of : Fence → List Point
members_of Stub = []
members_of (Plain p) = p ∷ []
members_of (Array ps) = ps

-- the fence of these points
abbrev pub fence_of : List Point → Fence
fence_of [] = Stub
fence_of (p ∷ []) = Plain p
fence_of (p ∷ q ∷ ps) = Array (p ∷ q ∷ ps)

-- each point is reached
abbrev pub are_reached : List ℕ → List Point → Bool
are_reached reach ps = list_all (is_reached reach) ps
