-- The rows of `info`.
use Rattle.std.proofs.Common.{◌≡◌, ℕ, List, map, ap, ◌∙◌}
use Rattle.point_core.specs.declared.entry.Point.{Point}
use Rattle.point_core.specs.declared.status.Status.{Status}
use Rattle.point_core.specs.Clocks.{common_status}
use Rattle.timeline_core.specs.Timeline.{Timeline, clocks_of}
use Rattle.command_core.specs.declared.answer.FenceRow.{FenceRow}
use Rattle.desk_core.specs.theorem.Answer.{fence_row, or_stub}
use Rattle.desk_core.specs.Keeping.{info_at}
use Rattle.desk_core.proofs.Doing.{info_with}

-- the parts of what is reported of a file
pub info_at-parts : (ts : List Timeline) (name : List ℕ) (ps qs : List Point) (status : Status) (fences : List FenceRow) → status ≡ common_status (clocks_of ts) ps → fences ≡ or_stub (map (fence_row ts) ps) → ps ≡ qs → info_with name status fences ≡ info_at ts name qs
info_at-parts ts name ps qs status fences is rows same =
    ap (λ (s : Status). info_with name s fences) is
    ∙ ap (info_with name (common_status (clocks_of ts) ps)) rows
    ∙ ap (info_at ts name) same
