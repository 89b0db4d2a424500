-- What a client's look must show of its own puts.
use Rattle.std.specs.Prelude.{ℕ, ◌==◌, nat_le, Bool, not, ◌&&◌, ◌||◌, List}
use Rattle.std.specs.List.{list_all, list_any}
use Rattle.point_core.specs.declared.entry.Point.{Point}
use Rattle.point_core.specs.declared.entry.Entry.{Entry}
use Rattle.point_core.specs.declared.listing.Listing.{Listing}
use Rattle.point_core.specs.Reach.{is_reached}
use Rattle.point_core.specs.Usage.{usage_number}

-- the point is of the same context and at least as late
abbrev pub is_as_late : Point → Point → Bool
is_as_late point listed = (listed.ctx == point.ctx) && nat_le point.value listed.value

-- the listing has such a point, or its floor has reached it
abbrev pub shows_point : Listing → Point → Bool
shows_point listing point = is_reached listing.floor point || list_any (is_as_late point) listing.points

-- the listing shows the entry, if the entry is of the usage or a stronger one
abbrev pub shows_entry : Listing → ℕ → Entry → Bool
shows_entry listing usage e = not (nat_le (usage_number e.usage) usage) || shows_point listing e.point

-- the listing shows each entry of the usage or a stronger one
abbrev pub shows_all : Listing → ℕ → List Entry → Bool
shows_all listing usage es = list_all (shows_entry listing usage) es
