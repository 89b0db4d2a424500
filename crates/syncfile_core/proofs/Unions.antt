-- The set that a merged file abstracts to.
use Rattle.std.proofs.Common.{◌≡◌, ℕ, refl, sym, ◌∙◌, List, [], ◌∷◌, length}
use Rattle.std.specs.Prelude.{flat_map}
use Rattle.std.specs.List.{AllZip}
use Rattle.std.proofs.lemmas.List.Elements.{All-head, All-tail}
use Rattle.point_core.specs.declared.entry.Entry.{Entry}
use Rattle.point_core.specs.Agreement.{as_entries, AgreesAbove, HasContexts}
use Rattle.point_core.specs.Reach.{later_values, IsAtLeast}
use Rattle.point_core.proofs.Agreement.{as_entries-append, AgreesAbove-refl, AgreesAbove-trans, AgreesAbove-append, AgreesAbove-same, AgreesAbove-later, AgreesAbove-listing}
use Rattle.point_core.proofs.Values.{length-later_values, IsAtLeast-refl, IsAtLeast-trans, IsAtLeast-later_values_left, IsAtLeast-later_values_right}
use Rattle.syncfile_core.specs.SyncFile.{File, StandsFor}
use Rattle.syncfile_core.specs.Merge.{points_of, floor_of, merged_file, HaveFloors, StandsForUnion}

abbrev pub has_floor : ℕ → File → Type 0
has_floor n f = length f.floor ≡ n

-- the floor of a merge has as many values as the reach
pub length-floor_of : (reach : List ℕ) (inputs : List File) (n : ℕ) → length reach ≡ n → HaveFloors n inputs → length (floor_of reach inputs) ≡ n
length-floor_of reach [] n full floors = full
length-floor_of reach (f ∷ fs) n full floors =
    let same : length reach ≡ length f.floor = full ∙ sym (All-head (has_floor n) f fs floors) in
    length-floor_of (later_values reach f.floor) fs n (length-later_values reach f.floor same ∙ full) (All-tail (has_floor n) f fs floors)

-- and is at least the reach
floor_of-high : (reach : List ℕ) (inputs : List File) (n : ℕ) → length reach ≡ n → HaveFloors n inputs → IsAtLeast (floor_of reach inputs) reach
floor_of-high reach [] n full floors = IsAtLeast-refl reach
floor_of-high reach (f ∷ fs) n full floors =
    let same : length reach ≡ length f.floor = full ∙ sym (All-head (has_floor n) f fs floors) in
    let rest = floor_of-high (later_values reach f.floor) fs n (length-later_values reach f.floor same ∙ full) (All-tail (has_floor n) f fs floors) in
    IsAtLeast-trans rest (IsAtLeast-later_values_left reach f.floor same)

-- above the merge's floor, the inputs' points agree with the union of their sets
agrees-union : (high reach : List ℕ) (inputs : List File) (sets : List (List Entry)) (n : ℕ) → length reach ≡ n → HaveFloors n inputs → AllZip StandsFor inputs sets → IsAtLeast high (floor_of reach inputs)
    → AgreesAbove high (as_entries (points_of inputs)) (flat_map (λ set. set) sets)
agrees-union high reach [] [] n full floors stand above = AgreesAbove-refl high []
agrees-union high reach [] (s ∷ ss) n full floors stand above = absurd stand
agrees-union high reach (f ∷ fs) [] n full floors stand above = absurd stand
agrees-union high reach (f ∷ fs) (s ∷ ss) n full floors stand above =
    let same : length reach ≡ length f.floor = full ∙ sym (All-head (has_floor n) f fs floors) in
    let next = length-later_values reach f.floor same ∙ full in
    let others = All-tail (has_floor n) f fs floors in
    let rest = floor_of-high (later_values reach f.floor) fs n next others in
    let own = IsAtLeast-trans above (IsAtLeast-trans rest (IsAtLeast-later_values_right reach f.floor same)) in
    AgreesAbove-trans
    (AgreesAbove-same high (as_entries-append f.points (points_of fs)))
    (AgreesAbove-append (AgreesAbove-later own stand.0) (agrees-union high (later_values reach f.floor) fs ss n next others stand.1 above))

-- a merge abstracts to the union of its inputs' sets
pub StandsForUnion-merged_file : (name : List ℕ) (inputs : List File) (reach : List ℕ) → HasContexts (as_entries (points_of inputs)) → HaveFloors (length reach) inputs → StandsForUnion inputs (merged_file name inputs reach)
StandsForUnion-merged_file name inputs reach within floors = λ sets stand.
    AgreesAbove-trans
    (AgreesAbove-later (floor_of-high reach inputs (length reach) refl floors) (AgreesAbove-listing reach (points_of inputs) within))
    (agrees-union (floor_of reach inputs) reach inputs sets (length reach) refl floors stand (IsAtLeast-refl (floor_of reach inputs)))
