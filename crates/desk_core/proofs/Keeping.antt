-- What a desk finds by name is what the world has of that name.
use Rattle.std.proofs.Common.{◌≡◌, ℕ, ◌≤◌, Bool, true, false, refl, sym, ap, ◌∙◌, append-nil, List, [], ◌∷◌, ◌++◌, length, map, Option, None, Some, option_map, unwrap_or, arith, All, if◌then◌else◌}
use Rattle.std.specs.List.{cons_option}
use Rattle.std.proofs.lemmas.List.Elements.{All-head, All-tail, All-nil, All-weaker}
use Rattle.point_core.specs.declared.context.TheConstants.{CONTEXTS}
use Rattle.point_core.specs.declared.entry.Point.{Point}
use Rattle.point_core.specs.declared.entry.Entry.{Entry}
use Rattle.point_core.specs.declared.entry.Usage.TheVariants.{Kernel}
use Rattle.point_core.specs.Agreement.{AgreesAbove, as_entry, as_entries, listing, HasContexts, pending, pending_top}
use Rattle.point_core.specs.Reach.{value_at}
use Rattle.point_core.proofs.Agreement.{AgreesAbove-refl, AgreesAbove-append, AgreesAbove-same, listing-AgreesAbove, pending_top-listing, top-as_entries, as_entries-append}
use Rattle.point_core.proofs.Named.{has_named-same_names, length-same_names, map-without_named, option_map-named, named-All}
use Rattle.timeline_core.specs.Timeline.{Timeline, reach_of}
use Rattle.syncfile_core.specs.SyncFile.{File, file_at as sync_file_at}
use Rattle.syncfile_core.specs.Files.{has_file as has_sync_file, without_file}
use Rattle.syncfile_core.specs.Merge.{files_at, points_of}
use Rattle.desk_core.specs.theorem.World.{World, MadeFile, files_without, has_file, file_named, put_set}
use Rattle.desk_core.specs.theorem.Answer.{listed_points}
use Rattle.desk_core.specs.theorem.Desk.{DeskState}
use Rattle.desk_core.specs.Sound.{WasMade, IsFilePoint}
use Rattle.desk_core.specs.Keeping.{points_at, Keeps}

abbrev pub kept_names : List File → List (List ℕ)
kept_names fs = map (λ (f : File). f.name) fs

abbrev pub kept_points : List File → List (List Point)
kept_points fs = map (λ (f : File). f.points) fs

abbrev pub made_names : List MadeFile → List (List ℕ)
made_names fs = map (λ (f : MadeFile). f.name) fs

abbrev pub made_points : List MadeFile → List (List Point)
made_points fs = map listed_points fs

points_of-found : (o p : Option File) → points_of (cons_option o (cons_option p [])) ≡ unwrap_or (option_map (λ (f : File). f.points) o) [] ++ unwrap_or (option_map (λ (f : File). f.points) p) []
points_of-found None None = refl
points_of-found None (Some g) = append-nil g.points
points_of-found (Some f) None = refl
points_of-found (Some f) (Some g) = ap (λ ps. f.points ++ ps) (append-nil g.points)

-- the points of two files, one after the other
pub points_of-files_at : (fs : List File) (a b : List ℕ) → points_of (files_at fs (a ∷ b ∷ [])) ≡ points_at fs a ++ points_at fs b
points_of-files_at fs a b = points_of-found (sync_file_at fs a) (sync_file_at fs b)

-- by name

pub has_sync_file-names : (ks : List File) (fs : List MadeFile) (name : List ℕ) → kept_names ks ≡ made_names fs → has_sync_file ks name ≡ has_file fs name
has_sync_file-names ks fs name is = has_named-same_names (λ (f : File). f.name) (λ (f : MadeFile). f.name) ks fs name is

pub length-names : (ks : List File) (fs : List MadeFile) → kept_names ks ≡ made_names fs → length ks ≡ length fs
length-names ks fs is = length-same_names (λ (f : File). f.name) (λ (f : MadeFile). f.name) ks fs is

-- without the file of a name the others keep theirs
pub without_file-names : (ks : List File) (fs : List MadeFile) (name : List ℕ) → kept_names ks ≡ made_names fs → kept_names (without_file ks name) ≡ made_names (files_without fs name)
without_file-names ks fs name is = map-without_named (λ (f : File). f.name) (λ (f : MadeFile). f.name) (λ (f : File). f.name) (λ (f : MadeFile). f.name) ks fs name is is

pub without_file-points : (ks : List File) (fs : List MadeFile) (name : List ℕ) → kept_names ks ≡ made_names fs → kept_points ks ≡ made_points fs → kept_points (without_file ks name) ≡ made_points (files_without fs name)
without_file-points ks fs name is points = map-without_named (λ (f : File). f.name) (λ (f : MadeFile). f.name) (λ (f : File). f.points) listed_points ks fs name is points

pub sync_file_at-points : (ks : List File) (fs : List MadeFile) (name : List ℕ) → kept_names ks ≡ made_names fs → kept_points ks ≡ made_points fs → option_map (λ (f : File). f.points) (sync_file_at ks name) ≡ option_map listed_points (file_named fs name)
sync_file_at-points ks fs name is points = option_map-named (λ (f : File). f.name) (λ (f : MadeFile). f.name) (λ (f : File). f.points) listed_points ks fs name is points

pub file_named-All : (P : MadeFile → Type 0) (fs : List MadeFile) (name : List ℕ) (f : MadeFile) → All P fs → file_named fs name ≡ Some f → P f
file_named-All P fs name f all is = named-All (λ (g : MadeFile). g.name) P fs name f all is

pub sync_file_at-All : (P : File → Type 0) (fs : List File) (name : List ℕ) (f : File) → All P fs → sync_file_at fs name ≡ Some f → P f
sync_file_at-All P fs name f all is = named-All (λ (g : File). g.name) P fs name f all is

-- a file's points and what was put into it

-- entries of the strongest usage are their points
pub as_entries-points : (made : ℕ) (es : List Entry) → All (IsFilePoint made) es → as_entries (map (λ (e : Entry). e.point) es) ≡ es
as_entries-points made [] all = refl
as_entries-points made (e ∷ es) all =
    let head = All-head (IsFilePoint made) e es all in
    let strongest : e.usage ≡ Kernel = head.usage in
    let same : as_entry e.point ≡ e = rw (← strongest) refl in
    ap (λ d. d ∷ as_entries (map (λ (x : Entry). x.point) es)) same
    ∙ ap (λ ds. e ∷ ds) (as_entries-points made es (All-tail (IsFilePoint made) e es all))

pub HasContexts-put : (made : ℕ) (es : List Entry) → made ≤ CONTEXTS → All (IsFilePoint made) es → HasContexts es
HasContexts-put made es room all = All-weaker (IsFilePoint made) (λ (e : Entry). (1 ≤ e.point.ctx) × (e.point.ctx ≤ CONTEXTS)) (λ e h. (h.timeline.0, let within = h.timeline.1 in omega arith)) es all

pending_top-points : (reach : List ℕ) (made : ℕ) (es : List Entry) (usage at ctx : ℕ) → All (IsFilePoint made) es → pending_top reach es usage ctx ≡ pending_top reach es at ctx
pending_top-points reach made es usage at ctx all =
    ap (λ ds. pending_top reach ds usage ctx) (sym (as_entries-points made es all))
    ∙ ap (pending (value_at reach ctx)) (top-as_entries (map (λ (e : Entry). e.point) es) usage at ctx)
    ∙ ap (λ ds. pending_top reach ds at ctx) (as_entries-points made es all)

listed_points-if : (one : Bool) (reach : List ℕ) (ts : List Timeline) (f : MadeFile) → WasMade ts f → length ts ≤ CONTEXTS → AgreesAbove (reach_of ts) (as_entries (if one then map (λ (e : Entry). e.point) f.put else listing f.put 0 f.made_at)) f.put
listed_points-if true reach ts f made room = AgreesAbove-same (reach_of ts) (as_entries-points (length ts) f.put made.put)
listed_points-if false reach ts f made room = record {
  tops = λ usage ctx. pending_top-listing f.put 0 usage ctx (HasContexts-put (length ts) f.put room made.put) made.since ∙ pending_top-points (reach_of ts) (length ts) f.put 0 usage ctx made.put;
}

-- above the timelines' values a file's points agree with all that was put into it
pub AgreesAbove-listed_points : (ts : List Timeline) (f : MadeFile) → WasMade ts f → length ts ≤ CONTEXTS → AgreesAbove (reach_of ts) (as_entries (listed_points f)) f.put
AgreesAbove-listed_points ts f made room = listed_points-if f.is_one_point (reach_of ts) ts f made room

put-found : (ts : List Timeline) (o : Option MadeFile) → ((f : MadeFile) → o ≡ Some f → WasMade ts f) → length ts ≤ CONTEXTS → AgreesAbove (reach_of ts) (as_entries (unwrap_or (option_map listed_points o) [])) (unwrap_or (option_map (λ (f : MadeFile). f.put) o) [])
put-found ts None made room = AgreesAbove-refl (reach_of ts) []
put-found ts (Some f) made room = AgreesAbove-listed_points ts f (made f refl) room

-- what the desk lists of a name

pub points_at-keeps : {desk : DeskState} {world : World} → Keeps desk world → (name : List ℕ) → points_at desk.files name ≡ unwrap_or (option_map listed_points (file_named world.files name)) []
points_at-keeps {desk} {world} k name = ap (λ o. unwrap_or o []) (sync_file_at-points desk.files world.files name k.holds.names k.holds.points)

pub AgreesAbove-keeps : {desk : DeskState} {world : World} → Keeps desk world → (name : List ℕ) → AgreesAbove (reach_of world.timelines) (as_entries (points_at desk.files name)) (put_set world.files name)
AgreesAbove-keeps {desk} {world} k name =
    rw (points_at-keeps k name)
    (put-found world.timelines (file_named world.files name) (λ f is. file_named-All (WasMade world.timelines) world.files name f k.sound.made is) k.sound.timelines.room)

-- what is merged is what is pending of both put sets
pub listing-keeps : {desk : DeskState} {world : World} → Keeps desk world → (a b : List ℕ) → listing (as_entries (points_at desk.files a ++ points_at desk.files b)) 0 (reach_of world.timelines) ≡ listing (put_set world.files a ++ put_set world.files b) 0 (reach_of world.timelines)
listing-keeps {desk} {world} k a b =
    ap (λ es. listing es 0 (reach_of world.timelines)) (as_entries-append (points_at desk.files a) (points_at desk.files b))
    ∙ listing-AgreesAbove 0 (AgreesAbove-append (AgreesAbove-keeps k a) (AgreesAbove-keeps k b))

put-made : (ts : List Timeline) (o : Option MadeFile) → ((f : MadeFile) → o ≡ Some f → WasMade ts f) → All (IsFilePoint (length ts)) (unwrap_or (option_map (λ (f : MadeFile). f.put) o) [])
put-made ts None made = All-nil (IsFilePoint (length ts))
put-made ts (Some f) made = (made f refl).put

pub put_set-made : (ts : List Timeline) (fs : List MadeFile) (name : List ℕ) → All (WasMade ts) fs → All (IsFilePoint (length ts)) (put_set fs name)
put_set-made ts fs name made = put-made ts (file_named fs name) (λ f is. file_named-All (WasMade ts) fs name f made is)

pub put_set-keeps : {desk : DeskState} {world : World} → Keeps desk world → (name : List ℕ) → All (IsFilePoint (length world.timelines)) (put_set world.files name)
put_set-keeps {desk} {world} k name = put_set-made world.timelines world.files name k.sound.made
