-- Points that are added to a table in one call.
use Rattle.std.proofs.Common.{◌≡◌, refl, ap, List, [], ◌∷◌, map, Result, Ok, Err, OnOk}
use Rattle.point_core.specs.declared.entry.Point.{Point}
use Rattle.point_core.specs.declared.entry.Usage.{Usage}
use Rattle.point_core.specs.Agreement.{as_entries}
use Rattle.resv_core.specs.Resv.{entries_as, entry_of}
use Rattle.dmabuf_core.specs.Flags.{with_usage}

pub entries_as-with_usage : (usage : Usage) (points : List Point) → entries_as usage points ≡ map (with_usage usage) (as_entries points)
entries_as-with_usage usage [] = refl
entries_as-with_usage usage (p ∷ points) = ap (λ es. entry_of p usage ∷ es) (entries_as-with_usage usage points)

pub OnOk-weaker : {T E : Type 0} (r : Result T E) (P Q : Type 0) → (P → Q) → OnOk r P → OnOk r Q
OnOk-weaker (Ok v) P Q f h = f h
OnOk-weaker (Err e) P Q f h = tt
