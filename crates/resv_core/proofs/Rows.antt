-- The rows of a table, usage by usage.
use Rattle.std.proofs.Common.{◌≡◌, ℕ, sym, ap, ◌∙◌, List, [], ◌∷◌, ◌++◌, map, append_assoc, append-nil}
use Rattle.std.proofs.lemmas.List.{map_push}
use Rattle.point_core.specs.declared.entry.Point.{Point}
use Rattle.point_core.specs.declared.entry.Entry.{Entry}
use Rattle.point_core.specs.declared.entry.Usage.{Usage}
use Rattle.point_core.specs.declared.listing.TopRow.{TopRow}
use Rattle.point_core.specs.Latest.{IsLatest, points_above}
use Rattle.point_core.specs.Usage.{usage_number}
use Rattle.point_core.specs.Reach.{IsAtLeast}
use Rattle.resv_core.specs.Resv.{row_of, rows_at}
use Rattle.resv_core.proofs.Kept.{points_above-risen}

pub row-more : (rows old : List TopRow) (usage : Usage) (before after : List Point) (p : Point) → rows ≡ old ++ map (row_of usage) before → before ++ p ∷ [] ≡ after → rows ++ row_of usage p ∷ [] ≡ old ++ map (row_of usage) after
row-more rows old usage before after p is more =
    ap (λ rs. rs ++ row_of usage p ∷ []) is
    ∙ append_assoc old (map (row_of usage) before) (row_of usage p ∷ [])
    ∙ ap (λ rs. old ++ rs) (sym (map_push (row_of usage) before p) ∙ ap (map (row_of usage)) more)

pub rows_at-IsLatest : {latest lower reach : List ℕ} {es : List Entry} {level : ℕ} (usage : Usage) → usage_number usage ≡ level → IsLatest latest lower es level → IsAtLeast reach lower → map (row_of usage) (points_above latest reach) ≡ rows_at es reach usage
rows_at-IsLatest {latest} {lower} {reach} {es} usage is h high = ap (map (row_of usage)) (points_above-risen (rw (← is) at h) high)

-- one usage after the other
pub rows-join : (kernel write read bookkeep : List TopRow) → kernel ++ write ++ read ++ bookkeep ≡ kernel ++ (write ++ (read ++ (bookkeep ++ [])))
rows-join kernel write read bookkeep = simp (append_assoc, append-nil)
