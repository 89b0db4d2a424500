-- The table that a merge gathers, input by input.
use Rattle.std.proofs.Common.{◌≡◌, ℕ, ◌≤◌, refl, sym, ap, ◌∙◌, subst, List, [], ◌∷◌, ◌++◌, length, append-nil}
use Rattle.std.proofs.lemmas.List.Elements.{All-nil, All-cons, All-push}
use Rattle.std.proofs.lemmas.Grind.{flat_map-append}
use Rattle.std.proofs.lemmas.List.Sums.{fold-append}
use Rattle.point_core.specs.declared.context.TheConstants.{CONTEXTS}
use Rattle.point_core.specs.declared.entry.Point.{Point}
use Rattle.point_core.specs.declared.entry.Entry.{Entry}
use Rattle.point_core.specs.Agreement.{as_entries, listing, merged, HasContexts}
use Rattle.point_core.specs.Latest.{IsLatest, points_above}
use Rattle.point_core.specs.Reach.{later_values, IsAtLeast}
use Rattle.point_core.proofs.Agreement.{as_entries-append, HasContexts-append}
use Rattle.point_core.proofs.Latest.{IsLatest-empty}
use Rattle.point_core.proofs.Listings.{points_above-IsLatest}
use Rattle.point_core.proofs.Values.{later_values-at_least}
use Rattle.syncfile_core.specs.SyncFile.{File, file_of}
use Rattle.syncfile_core.specs.Merge.{points_of, floor_of, merged_file, IsGathered, StandsForUnion}
use Rattle.syncfile_core.proofs.Unions.{has_floor, length-floor_of, StandsForUnion-merged_file}

points_of-last : (inputs : List File) (f : File) → points_of (inputs ++ f ∷ []) ≡ points_of inputs ++ f.points
points_of-last inputs f = flat_map-append (λ (g : File). g.points) inputs (f ∷ []) ∙ ap (λ ps. points_of inputs ++ ps) (append-nil f.points)

entries-last : (inputs : List File) (f : File) → as_entries (points_of (inputs ++ f ∷ [])) ≡ as_entries (points_of inputs) ++ as_entries f.points
entries-last inputs f = ap as_entries (points_of-last inputs f) ∙ as_entries-append (points_of inputs) f.points

pub IsGathered-none : (reach : List ℕ) → IsGathered reach reach reach []
IsGathered-none reach = record { latest = IsLatest-empty reach 0; floor = refl; contexts = All-nil (λ (e : Entry). (1 ≤ e.point.ctx) × (e.point.ctx ≤ CONTEXTS)); floors = All-nil (λ (f : File). length f.floor ≡ length reach) }

-- another input
pub IsGathered-last : {table least more higher reach : List ℕ} (inputs : List File) (f : File) → IsGathered table least reach inputs
    → IsLatest more reach (as_entries (points_of inputs) ++ as_entries f.points) 0 → HasContexts (as_entries f.points) → higher ≡ later_values least f.floor → (length least ≡ CONTEXTS) × (length f.floor ≡ CONTEXTS)
    → IsGathered more higher reach (inputs ++ f ∷ [])
IsGathered-last {table} {least} {more} {higher} {reach} inputs f before latest within joined full = record {
  latest = subst (λ es. IsLatest more reach es 0) (sym (entries-last inputs f)) latest;
  floor = joined ∙ ap (λ floor. later_values floor f.floor) before.floor ∙ sym (fold-append (λ floor (g : File). later_values floor g.floor) reach inputs (f ∷ []));
  contexts = subst HasContexts (sym (entries-last inputs f)) (HasContexts-append (as_entries (points_of inputs)) (as_entries f.points) before.contexts within);
  floors = All-push (λ (g : File). length g.floor ≡ length reach) inputs f before.floors (full.1 ∙ sym full.0 ∙ ap length before.floor ∙ length-floor_of reach inputs (length reach) refl before.floors);
}

-- the gathered points above the reach are the merge's
pub merged-is : {table least : List ℕ} {points : List Point} (name : List ℕ) (inputs : List File) (reach : List ℕ) → IsGathered table least reach inputs → points ≡ points_above table reach → file_of name points least ≡ merged_file name inputs reach
merged-is {table} {least} {points} name inputs reach gathered is =
    ap (λ ps. file_of name ps least) (is ∙ points_above-IsLatest gathered.latest)
    ∙ ap (file_of name (listing (as_entries (points_of inputs)) 0 reach)) gathered.floor

-- a reach that has both floors is the floor of the merge
pub floor_of-reached : (f g : File) (reach : List ℕ) → length f.floor ≡ length reach → length g.floor ≡ length reach → IsAtLeast reach f.floor × IsAtLeast reach g.floor → floor_of reach (f ∷ g ∷ []) ≡ reach
floor_of-reached f g reach first second both =
    ap (λ floor. later_values floor g.floor) (later_values-at_least reach f.floor (sym first) both.0)
    ∙ later_values-at_least reach g.floor (sym second) both.1

-- two inputs
entries-two : (f g : File) → as_entries (points_of (f ∷ g ∷ [])) ≡ as_entries f.points ++ as_entries g.points
entries-two f g = as_entries-append f.points (g.points ++ []) ∙ ap (λ ps. as_entries f.points ++ as_entries ps) (append-nil g.points)

pub merged_file-two : (name : List ℕ) (f g : File) (reach : List ℕ) → file_of name (merged reach f.points g.points) (later_values (later_values reach f.floor) g.floor) ≡ merged_file name (f ∷ g ∷ []) reach
merged_file-two name f g reach = ap (λ es. file_of name (listing es 0 reach) (later_values (later_values reach f.floor) g.floor)) (as_entries-append f.points g.points ∙ sym (entries-two f g))

pub StandsForUnion-two : (name : List ℕ) (f g : File) (reach : List ℕ) → HasContexts (as_entries f.points) × HasContexts (as_entries g.points) → length f.floor ≡ length reach → length g.floor ≡ length reach → StandsForUnion (f ∷ g ∷ []) (merged_file name (f ∷ g ∷ []) reach)
StandsForUnion-two name f g reach within first second =
    StandsForUnion-merged_file name (f ∷ g ∷ []) reach
    (subst HasContexts (sym (entries-two f g)) (HasContexts-append (as_entries f.points) (as_entries g.points) within.0 within.1))
    (All-cons (has_floor (length reach)) f (g ∷ []) first (All-cons (has_floor (length reach)) g [] second (All-nil (has_floor (length reach)))))
