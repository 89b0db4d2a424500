-- Merges of files' points.
use Rattle.std.proofs.Common.{◌≡◌, ℕ, sym, ap, ◌∙◌, List, ◌++◌, append_assoc}
use Rattle.std.proofs.Common.{subst}
use Rattle.point_core.specs.declared.entry.Point.{Point}
use Rattle.point_core.specs.declared.entry.Entry.{Entry}
use Rattle.point_core.specs.Agreement.{AgreesAbove, as_entries, listing, merged, HasContexts, HasRisingContexts, AllAbove}
use Rattle.point_core.proofs.Values.{IsAtLeast-refl}
use Rattle.point_core.proofs.Canonical.{listing-itself}
use Rattle.point_core.proofs.Agreement.{AgreesAbove-trans, AgreesAbove-same, AgreesAbove-comm, AgreesAbove-idem, AgreesAbove-listing, as_entries-append, listing-AgreesAbove, listing-merge, HasContexts-append}

HasContexts-points : (ps qs : List Point) → HasContexts (as_entries ps) → HasContexts (as_entries qs) → HasContexts (as_entries (ps ++ qs))
HasContexts-points ps qs left right =
    let P : List Entry → Type 0 = λ es. HasContexts es in
    subst P (sym (as_entries-append ps qs)) (HasContexts-append (as_entries ps) (as_entries qs) left right)

AgreesAbove-points_comm : (reach : List ℕ) (ps qs : List Point) → AgreesAbove reach (as_entries (ps ++ qs)) (as_entries (qs ++ ps))
AgreesAbove-points_comm reach ps qs =
    AgreesAbove-trans (AgreesAbove-same reach (as_entries-append ps qs))
    (AgreesAbove-trans (AgreesAbove-comm reach (as_entries ps) (as_entries qs)) (AgreesAbove-same reach (sym (as_entries-append qs ps))))

pub merged-comm : (reach : List ℕ) (ps qs : List Point) → merged reach ps qs ≡ merged reach qs ps
merged-comm reach ps qs = listing-AgreesAbove 0 (AgreesAbove-points_comm reach ps qs)

-- a merge with a merge lists all three lists
pub merged-merged : (reach : List ℕ) (ps qs rs : List Point) → merged reach (merged reach ps qs) rs ≡ listing (as_entries ((ps ++ qs) ++ rs)) 0 reach
merged-merged reach ps qs rs =
    ap (λ es. listing es 0 reach) (as_entries-append (merged reach ps qs) rs)
    ∙ listing-merge (as_entries (ps ++ qs)) (as_entries rs) 0 (IsAtLeast-refl reach)
    ∙ ap (λ es. listing es 0 reach) (sym (as_entries-append (ps ++ qs) rs))

pub merged-assoc : (reach : List ℕ) (ps qs rs : List Point) → merged reach (merged reach ps qs) rs ≡ merged reach ps (merged reach qs rs)
merged-assoc reach ps qs rs =
    merged-merged reach ps qs rs
    ∙ ap (λ all. listing (as_entries all) 0 reach) (append_assoc ps qs rs)
    ∙ merged-comm reach ps (qs ++ rs)
    ∙ sym (merged-merged reach qs rs ps)
    ∙ merged-comm reach (merged reach qs rs) ps

-- a merge agrees with both files together
pub AgreesAbove-merged : (reach : List ℕ) (ps qs : List Point) → HasContexts (as_entries ps) → HasContexts (as_entries qs) → AgreesAbove reach (as_entries (merged reach ps qs)) (as_entries ps ++ as_entries qs)
AgreesAbove-merged reach ps qs left right = AgreesAbove-trans (AgreesAbove-listing reach (ps ++ qs) (HasContexts-points ps qs left right)) (AgreesAbove-same reach (as_entries-append ps qs))

pub AgreesAbove-merged_idem : (reach : List ℕ) (ps : List Point) → HasContexts (as_entries ps) → AgreesAbove reach (as_entries (merged reach ps ps)) (as_entries ps)
AgreesAbove-merged_idem reach ps within = AgreesAbove-trans (AgreesAbove-merged reach ps ps within within) (AgreesAbove-idem reach (as_entries ps))

-- merging a listing with itself lists the same points
pub merged-idem : (reach : List ℕ) (ps : List Point) → HasRisingContexts ps → HasContexts (as_entries ps) → AllAbove reach ps → merged reach ps ps ≡ ps
merged-idem reach ps rising within high =
    listing-AgreesAbove 0 (AgreesAbove-trans (AgreesAbove-same reach (as_entries-append ps ps)) (AgreesAbove-idem reach (as_entries ps)))
    ∙ listing-itself reach ps rising within high
