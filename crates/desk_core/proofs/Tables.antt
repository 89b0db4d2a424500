-- What is reported of a buffer and of everything is what the world has.
use Rattle.std.proofs.Common.{◌≡◌, ℕ, suc, ◌<◌, ◌≤◌, refl, ap, subst, ◌∙◌, List, [], ◌∷◌, length, map, get_or, option_map, unwrap_or, arith, All}
use Rattle.std.specs.List.{IsDistinct}
use Rattle.std.proofs.lemmas.Simd.{map-map}
use Rattle.std.proofs.lemmas.List.Elements.{All-head, All-tail}
use Rattle.point_core.specs.declared.context.TheConstants.{CONTEXTS}
use Rattle.point_core.specs.declared.status.Status.{Status}
use Rattle.point_core.specs.Named.{same_name}
use Rattle.point_core.specs.Clocks.{status_of, some_cancelled, common_status}
use Rattle.desk_core.proofs.Signalling.{common_status-reported}
use Rattle.point_core.specs.Agreement.{all_reached, as_entries}
use Rattle.point_core.proofs.Agreement.{AgreesAbove-sym}
use Rattle.point_core.proofs.Reached.{all_reached-AgreesAbove}
use Rattle.point_core.specs.declared.timeline_row.TimelineRow.{TimelineRow}
use Rattle.timeline_core.specs.Timeline.{clocks_of, reach_of, rows_of as timeline_rows}
use Rattle.syncfile_core.specs.SyncFile.{File}
use Rattle.resv_core.proofs.Runs.{rows_of-AgreesAbove}
use Rattle.dmabuf_core.specs.Buffers.{names_of, entries_of}
use Rattle.command_core.specs.declared.command.Command.TheVariants as command
use Rattle.command_core.specs.declared.answer.Answer.TheVariants as answer
use Rattle.command_core.specs.declared.answer.ShowRow.{ShowRow}
use Rattle.command_core.specs.declared.answer.FileRow.{FileRow}
use Rattle.command_core.specs.declared.answer.BufferRows.{BufferRows}
use Rattle.command_core.specs.Tables.{Tables}
use Rattle.desk_core.specs.theorem.World.{World, MadeFile, MadeBuffer, buffer_put_set}
use Rattle.desk_core.specs.theorem.Answer.{listed_points, fence_count, show_row, show_rows, file_row, buffer_rows, report_of}
use Rattle.desk_core.specs.theorem.Desk.{DeskState}
use Rattle.desk_core.specs.Sound.{WasMade}
use Rattle.desk_core.specs.Keeping.{Keeps, IsDone, file_row_at, buffer_rows_at, report_at}
use Rattle.desk_core.proofs.Keeping.{kept_names, kept_points, made_names, made_points, AgreesAbove-listed_points}
use Rattle.desk_core.proofs.Reporting.{named-own}

-- a buffer

pub show_rows-keeps : {desk : DeskState} {world : World} → Keeps desk world → (name : List ℕ) → show_rows world.timelines (entries_of desk.buffers name) ≡ show_rows world.timelines (buffer_put_set world.buffers name)
show_rows-keeps {desk} {world} k name = ap (map (show_row world.timelines)) (rows_of-AgreesAbove (k.holds.tables name))

pub IsDone-show : (desk : DeskState) (name : List ℕ) (rows : List ShowRow) → rows ≡ show_rows desk.timelines (entries_of desk.buffers name) → IsDone desk (command.Show name) (answer.Show rows) desk
IsDone-show desk name rows is = record {
  accepted = refl;
  reported = λ world k. ap answer.Show (is ∙ ap (λ ts. show_rows ts (entries_of desk.buffers name)) k.holds.timelines ∙ show_rows-keeps k name);
  held = λ world k. k.holds;
}

-- the files

abbrev file_row_with : List ℕ → Status → ℕ → FileRow
file_row_with name status count = record { name = name; status = status; count = count }

file_row-reported : (world : World) (k : File) (f : MadeFile) → WasMade world.timelines f → length world.timelines ≤ CONTEXTS → k.name ≡ f.name → k.points ≡ listed_points f → file_row_at (clocks_of world.timelines) k ≡ file_row world f
file_row-reported world k f made room name points =
    let reach = reach_of world.timelines in
    let agrees = AgreesAbove-listed_points world.timelines f made room in
    let reached : all_reached reach 0 (as_entries k.points) ≡ all_reached reach 0 f.put = ap (λ ps. all_reached reach 0 (as_entries ps)) points ∙ all_reached-AgreesAbove 0 agrees (AgreesAbove-sym agrees) in
    let clocks = clocks_of world.timelines in
    ap (λ n. file_row_with n (common_status clocks k.points) (fence_count k.points)) name
    ∙ ap (λ s. file_row_with f.name s (fence_count k.points)) (common_status-reported clocks k.points f.put reached)
    ∙ ap (λ ps. file_row_with f.name (status_of (all_reached reach 0 f.put) (some_cancelled clocks ps)) (fence_count ps)) points

file_rows-reported : (world : World) (ks : List File) (fs : List MadeFile) → All (WasMade world.timelines) fs → length world.timelines ≤ CONTEXTS → kept_names ks ≡ made_names fs → kept_points ks ≡ made_points fs → map (file_row_at (clocks_of world.timelines)) ks ≡ map (file_row world) fs
file_rows-reported world [] [] made room names points = refl
file_rows-reported world [] (f ∷ fs) made room names points = absurd (cc)
file_rows-reported world (k ∷ ks) [] made room names points = absurd (cc)
file_rows-reported world (k ∷ ks) (f ∷ fs) made room names points =
    let name : k.name ≡ f.name = cc in
    let others : kept_names ks ≡ made_names fs = cc in
    let listed : k.points ≡ listed_points f = cc in
    let rest : kept_points ks ≡ made_points fs = cc in
    ap (λ r. r ∷ map (file_row_at (clocks_of world.timelines)) ks) (file_row-reported world k f (All-head (WasMade world.timelines) f fs made) room name listed)
    ∙ ap (λ rs. file_row world f ∷ rs) (file_rows-reported world ks fs (All-tail (WasMade world.timelines) f fs made) room others rest)

-- the buffers

map-same : {A B : Type 0} (g h : A → B) (xs : List A) → ((i : ℕ) (d : A) → i < length xs → g (get_or xs i d) ≡ h (get_or xs i d)) → map g xs ≡ map h xs
map-same g h [] same = refl
map-same g h (x ∷ xs) same =
    ap (λ y. y ∷ map g xs) (same 0 x (omega arith))
    ∙ ap (λ ys. h x ∷ ys) (map-same g h xs (λ i d within. same (suc i) d (omega arith)))

abbrev buffer_rows_with : List ℕ → List ShowRow → BufferRows
buffer_rows_with name rows = record { name = name; rows = rows }

buffer_row-reported : {desk : DeskState} {world : World} → Keeps desk world → (i : ℕ) (d : MadeBuffer) → i < length world.buffers → buffer_rows_at world.timelines desk.buffers (get_or world.buffers i d).name ≡ buffer_rows world (get_or world.buffers i d)
buffer_row-reported {desk} {world} k i d within =
    let b = get_or world.buffers i d in
    let named_by = λ (c : MadeBuffer). c.name in
    let distinct : IsDistinct same_name (map named_by world.buffers) = subst (IsDistinct same_name) k.holds.buffers k.holds.kept.distinct in
    let put : buffer_put_set world.buffers b.name ≡ b.put = ap (λ o. unwrap_or (option_map (λ (c : MadeBuffer). c.put) o) []) (named-own named_by world.buffers i d distinct within) in
    ap (buffer_rows_with b.name) (show_rows-keeps k b.name ∙ ap (show_rows world.timelines) put)

buffer_rows-reported : {desk : DeskState} {world : World} → Keeps desk world → map (buffer_rows_at world.timelines desk.buffers) (names_of desk.buffers) ≡ map (buffer_rows world) world.buffers
buffer_rows-reported {desk} {world} k =
    let reported = buffer_rows_at world.timelines desk.buffers in
    let named_by = λ (c : MadeBuffer). c.name in
    ap (map reported) k.holds.buffers ∙ map-map reported named_by world.buffers
    ∙ map-same (λ b. reported (named_by b)) (buffer_rows world) world.buffers (buffer_row-reported k)

-- everything

abbrev report_with : List TimelineRow → List FileRow → List BufferRows → Tables
report_with timelines files buffers = record { timelines = timelines; files = files; buffers = buffers }

report-keeps : {desk : DeskState} {world : World} → Keeps desk world → report_at world.timelines desk.files desk.buffers ≡ report_of world
report-keeps {desk} {world} k =
    let timelines = timeline_rows world.timelines in
    ap (λ files. report_with timelines files (map (buffer_rows_at world.timelines desk.buffers) (names_of desk.buffers))) (file_rows-reported world desk.files world.files k.sound.made k.sound.timelines.room k.holds.names k.holds.points)
    ∙ ap (report_with timelines (map (file_row world) world.files)) (buffer_rows-reported k)

pub IsDone-report : (desk : DeskState) (timelines : List TimelineRow) (files : List FileRow) (buffers : List BufferRows)
    → timelines ≡ timeline_rows desk.timelines → files ≡ map (file_row_at (clocks_of desk.timelines)) desk.files → buffers ≡ map (buffer_rows_at desk.timelines desk.buffers) (names_of desk.buffers)
    → IsDone desk command.Report (answer.Report (report_with timelines files buffers)) desk
IsDone-report desk timelines files buffers alike same equal =
    let ts = desk.timelines in
    let is : report_with timelines files buffers ≡ report_at ts desk.files desk.buffers =
    ap (λ rs. report_with rs files buffers) alike
    ∙ ap (λ rs. report_with (timeline_rows ts) rs buffers) same
    ∙ ap (report_with (timeline_rows ts) (map (file_row_at (clocks_of ts)) desk.files)) equal in
    record {
      accepted = refl;
      reported = λ world k. ap answer.Report (is ∙ ap (λ ts. report_at ts desk.files desk.buffers) k.holds.timelines ∙ report-keeps k);
      held = λ world k. k.holds;
    }
