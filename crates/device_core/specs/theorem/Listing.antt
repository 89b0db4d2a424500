-- The points that a file lists of all that was put into it.
use Rattle.std.specs.Prelude.{ℕ, List, length, option_map}
use Rattle.std.specs.List.{filter_map, range_with_len}
use Rattle.point_core.specs.declared.entry.Entry.{Entry}
use Rattle.point_core.specs.declared.entry.Point.{Point}
use Rattle.point_core.specs.Agreement.{pending_top, point_of}

-- the latest pending point of each timeline among the entries at the usage or a stronger one, by rising timeline
abbrev pub pending_points : List ℕ → List Entry → ℕ → List Point
pending_points reach put usage =
    filter_map (λ t. option_map (point_of t) (pending_top reach put usage t)) (range_with_len 1 (length reach))
