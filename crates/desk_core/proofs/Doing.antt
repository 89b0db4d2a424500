-- What each command does and tells.
use Rattle.std.proofs.Common.{◌≡◌, ℕ, ◌+◌, ◌≤◌, Bool, true, false, arith, length-append, refl, sym, ap, ◌∙◌, subst, List, [], ◌∷◌, ◌++◌, length, map, Option, None, Some, option_map, unwrap_or, nat_lt, ◌<◌}
use Rattle.std.specs.Prelude.{if◌then◌else◌, ◌↔◌, IsTrue}
use Rattle.std.proofs.lemmas.List.Elements.{All-nil, All-push, All-append, All-contains, All-map}
use Rattle.point_core.specs.declared.entry.Point.{Point}
use Rattle.point_core.specs.declared.entry.Entry.{Entry}
use Rattle.point_core.specs.declared.status.Status.{Status}
use Rattle.point_core.specs.Clocks.{status_of, some_cancelled}
use Rattle.point_core.specs.Agreement.{as_entry, as_entries, point_of, listing, pending, top, all_reached, AgreesAbove, IsReached}
use Rattle.point_core.specs.Reach.{value_at}
use Rattle.point_core.proofs.Agreement.{listing-All, top-Some, AgreesAbove-same}
use Rattle.command_core.specs.declared.command.Command.TheVariants as command
use Rattle.command_core.specs.declared.answer.Answer.TheVariants as answer
use Rattle.command_core.specs.declared.answer.Info.{Info}
use Rattle.command_core.specs.declared.answer.FenceRow.{FenceRow}
use Rattle.timeline_core.specs.Timeline.{Timeline, new_timeline, context_of, clocks_of, reach_of, value_of, raised, shut}
use Rattle.syncfile_core.specs.SyncFile.{File, plain_file, file_of, file_at as sync_file_at}
use Rattle.syncfile_core.specs.Files.{without_file}
use Rattle.syncfile_core.specs.Merge.{merge_of}
use Rattle.desk_core.specs.theorem.World.{World, MadeFile, file_named, put_set, buffer_put_set}
use Rattle.desk_core.specs.theorem.Answer.{listed_points, fence_row, or_stub, info_reported, number_if}
use Rattle.desk_core.specs.theorem.Desk.{DeskState}
use Rattle.desk_core.specs.Keeping.{points_at, Keeps, IsDone, AreMade, HaveTimelines, info_at}
use Rattle.desk_core.proofs.Keeping.{points_of-files_at, sync_file_at-points, sync_file_at-All, AgreesAbove-keeps}
use Rattle.desk_core.proofs.Signalling.{all_reached-keeps, IsReached-table, common_status-reported}
use Rattle.desk_core.proofs.Stepping.{Holds-timeline, Holds-raised, Holds-shut, Holds-fence, Holds-close, Holds-merge, Holds-buffer, Holds-put, Holds-export, Holds-trim, Holds-watch, Holds-unwatch}
use Rattle.fence_core.specs.Watch.{Registry}
use Rattle.fence_core.specs.Watches.{has_watch, fired_by, after_rise_to, with_watch, without_watch}
use Rattle.desk_core.proofs.Watching.{fired-holds, fired-shut, has_watch-holds}
use mir.Val.{bool_byte}
use Rattle.std.proofs.lemmas.Bool.{false≢true}
use Rattle.point_core.specs.declared.context.TheConstants.{CONTEXTS}
use Rattle.point_core.specs.declared.entry.Usage.{Usage}
use Rattle.point_core.specs.Usage.{usage_number}
use Rattle.point_core.proofs.Reached.{all_reached-IsReached}
use Rattle.resv_core.specs.Resv.{empty, entry_of}
use Rattle.dmabuf_core.specs.Buffers.{Buffer, AreBuffers, OnlyChanges, has_buffer, entries_of}
use Rattle.dmabuf_core.specs.Flags.{imported, export_usage}
use Rattle.dmabuf_core.proofs.Putting.{AgreesAbove-imported}
use Rattle.desk_core.proofs.Buffers.{has_buffer-names}

pub IsDone-timeline : (desk : DeskState) (name : List ℕ) (made : List Timeline) (number : ℕ) → made ≡ desk.timelines ++ new_timeline name ∷ [] → length made ≤ CONTEXTS → number ≡ length desk.timelines + 1 → IsDone desk (command.Timeline name) (answer.Value number) (record { timelines = made; files = desk.files; buffers = desk.buffers; watches = desk.watches })
IsDone-timeline desk name made number added room is =
    let low : length desk.timelines < CONTEXTS = omega (arith, ap length added, length-append {A = Timeline}) in
    record {
      accepted = refl;
      reported = λ world k. ap answer.Value (is ∙ ap (λ ts. length ts + 1) k.holds.timelines);
      held = λ world k. rw added (Holds-timeline k.holds name low);
    }

pub IsDone-inc : (desk : DeskState) (name : List ℕ) (n : ℕ) (timelines : List Timeline) (value : ℕ) (reach : List ℕ) (fired : List ℕ) (watches : Registry) → timelines ≡ raised desk.timelines name n → value ≡ value_of desk.timelines name + n → reach ≡ reach_of (raised desk.timelines name n) → fired ≡ fired_by desk.watches reach → watches ≡ after_rise_to desk.watches reach → IsDone desk (command.Inc name n) (answer.Raised value fired) (record { timelines = timelines; files = desk.files; buffers = desk.buffers; watches = watches })
IsDone-inc desk name n timelines value reach fired watches risen is at reported left = record {
  accepted = refl;
  reported = λ world k.
      ap (λ v. answer.Raised v fired) (is ∙ ap (λ ts. value_of ts name + n) k.holds.timelines)
      ∙ ap (answer.Raised (value_of world.timelines name + n)) (reported ∙ ap (fired_by desk.watches) at ∙ fired-holds k.holds name n);
  held = λ world k. rw (risen, left, at) (Holds-raised k.holds name n);
}

pub IsDone-shut : (desk : DeskState) (name : List ℕ) (timelines : List Timeline) (value : ℕ) (reach : List ℕ) (fired : List ℕ) (watches : Registry) → timelines ≡ shut desk.timelines name → value ≡ value_of desk.timelines name → reach ≡ reach_of (shut desk.timelines name) → fired ≡ fired_by desk.watches reach → watches ≡ after_rise_to desk.watches reach → IsDone desk (command.Shut name) (answer.Raised value fired) (record { timelines = timelines; files = desk.files; buffers = desk.buffers; watches = watches })
IsDone-shut desk name timelines value reach fired watches closed is at reported left = record {
  accepted = refl;
  reported = λ world k.
      ap (λ v. answer.Raised v fired) (is ∙ ap (λ ts. value_of ts name) k.holds.timelines)
      ∙ ap (answer.Raised (value_of world.timelines name)) (reported ∙ ap (fired_by desk.watches) at ∙ fired-shut k name);
  held = λ world k. rw (closed, left, at) (Holds-shut k name);
}

pub IsDone-fence : (desk : DeskState) (name t : List ℕ) (files : List File) (ctx p : ℕ) → files ≡ desk.files ++ plain_file name (point_of ctx p) ∷ [] → ctx ≡ context_of desk.timelines t → IsDone desk (command.Fence name t p) answer.Done (record { timelines = desk.timelines; files = files; buffers = desk.buffers; watches = desk.watches })
IsDone-fence desk name t files ctx p added is = record {
  accepted = refl;
  reported = λ world k. refl;
  held = λ world k. rw added (Holds-fence k.holds name t ctx p is);
}

pub IsDone-merge : (desk : DeskState) (name a b reach : List ℕ) (files : List File) → files ≡ desk.files ++ merge_of desk.files name (a ∷ b ∷ []) reach ∷ [] → reach ≡ reach_of desk.timelines → IsDone desk (command.Merge name a b) answer.Done (record { timelines = desk.timelines; files = files; buffers = desk.buffers; watches = desk.watches })
IsDone-merge desk name a b reach files added is = record {
  accepted = refl;
  reported = λ world k. refl;
  held = λ world k. rw added (Holds-merge k name a b reach is);
}

pub IsDone-close : (desk : DeskState) (name : List ℕ) (files : List File) → files ≡ without_file desk.files name → IsDone desk (command.Close name) answer.Done (record { timelines = desk.timelines; files = files; buffers = desk.buffers; watches = desk.watches })
IsDone-close desk name files is = record {
  accepted = refl;
  reported = λ world k. refl;
  held = λ world k. rw is (Holds-close k.holds name);
}

-- buffers

pub IsDone-buffer : (desk : DeskState) (b : List ℕ) (new : List Buffer) → new ≡ desk.buffers ++ (b, empty) ∷ [] → AreBuffers new → IsDone desk (command.Buffer b) answer.Done (record { timelines = desk.timelines; files = desk.files; buffers = new; watches = desk.watches })
IsDone-buffer desk b new added kept = record {
  accepted = refl;
  reported = λ world k. refl;
  held = λ world k. rw added (Holds-buffer k.holds b (rw added at kept));
}

pub IsDone-add : (desk : DeskState) (b t : List ℕ) (ctx p : ℕ) (usage : Usage) (reach : List ℕ) (new : List Buffer) → has_buffer desk.buffers b ≡ true → ctx ≡ context_of desk.timelines t → reach ≡ reach_of desk.timelines → AgreesAbove reach (entries_of new b) (entries_of desk.buffers b ++ entry_of (point_of ctx p) usage ∷ []) → OnlyChanges b desk.buffers new → AreBuffers new → IsDone desk (command.Add b t p usage) answer.Done (record { timelines = desk.timelines; files = desk.files; buffers = new; watches = desk.watches })
IsDone-add desk b t ctx p usage reach new has is at agrees only kept = record {
  accepted = refl;
  reported = λ world k. refl;
  held = λ world k.
      let put : ctx ≡ context_of world.timelines t = is ∙ ap (λ ts. context_of ts t) k.holds.timelines in
      Holds-put k.holds b new kept (entry_of (point_of ctx p) usage ∷ []) (entry_of (point_of (context_of world.timelines t) p) usage ∷ [])
      (sym (has_buffer-names desk.buffers world.buffers b k.holds.buffers) ∙ has) (rw at at agrees)
      (AgreesAbove-same (reach_of world.timelines) (ap (λ c. entry_of (point_of c p) usage ∷ []) put)) only;
}

pub IsDone-import : (desk : DeskState) (b f : List ℕ) (flags : ℕ) (reach : List ℕ) (file : File) (new : List Buffer) → has_buffer desk.buffers b ≡ true → sync_file_at desk.files f ≡ Some file → reach ≡ reach_of desk.timelines → AgreesAbove reach (entries_of new b) (entries_of desk.buffers b ++ imported flags (as_entries file.points)) → OnlyChanges b desk.buffers new → AreBuffers new → IsDone desk (command.Import b f flags) answer.Done (record { timelines = desk.timelines; files = desk.files; buffers = new; watches = desk.watches })
IsDone-import desk b f flags reach file new has found at agrees only kept = record {
  accepted = refl;
  reported = λ world k. refl;
  held = λ world k.
      let listed : points_at desk.files f ≡ file.points = ap (λ o. unwrap_or (option_map (λ (g : File). g.points) o) []) found in
      let P : List Point → Type 0 = λ ps. AgreesAbove (reach_of world.timelines) (as_entries ps) (put_set world.files f) in
      Holds-put k.holds b new kept (imported flags (as_entries file.points)) (imported flags (put_set world.files f))
      (sym (has_buffer-names desk.buffers world.buffers b k.holds.buffers) ∙ has) (rw at at agrees)
      (AgreesAbove-imported flags (subst P listed (AgreesAbove-keeps k f))) only;
}

pub IsDone-export : (desk : DeskState) (name b : List ℕ) (flags : ℕ) (reach : List ℕ) (points : List Point) (floor : List ℕ) (files : List File) → files ≡ desk.files ++ file_of name points floor ∷ [] → points ≡ listing (entries_of desk.buffers b) (usage_number (export_usage flags)) reach → reach ≡ reach_of desk.timelines → IsDone desk (command.Export name b flags) answer.Done (record { timelines = desk.timelines; files = files; buffers = desk.buffers; watches = desk.watches })
IsDone-export desk name b flags reach points floor files added is at = record {
  accepted = refl;
  reported = λ world k. refl;
  held = λ world k. rw added (Holds-export k.holds name b flags points floor (is ∙ ap (listing (entries_of desk.buffers b) (usage_number (export_usage flags))) at));
}

number_if-reported : (b : Bool) (P Q : Type 0) (r : Bool) → (P ↔ Q) → ((r ≡ true) ↔ Q) → (IsTrue b ↔ P) → number_if b ≡ number_if r
number_if-reported true P Q r same reached is = ap number_if (sym (reached.1 (same.0 (is.0 refl))))
number_if-reported false P Q true same reached is = absurd (false≢true (is.1 (same.1 (reached.0 refl))))
number_if-reported false P Q false same reached is = refl

pub IsDone-test : (desk : DeskState) (b : List ℕ) (usage : Usage) (reach : List ℕ) (signalled : Bool) → reach ≡ reach_of desk.timelines → IsTrue signalled ↔ IsReached (entries_of desk.buffers b) (usage_number usage) reach → IsDone desk (command.Test b usage) (answer.Value (number_if signalled)) desk
IsDone-test desk b usage reach signalled at is = record {
  accepted = refl;
  reported = λ world k.
      let at' : reach ≡ reach_of world.timelines = at ∙ ap reach_of k.holds.timelines in
      let here = rw at' at is in
      ap answer.Value (number_if-reported signalled _ _ _ (IsReached-table k b (usage_number usage)) (all_reached-IsReached (reach_of world.timelines) (usage_number usage) (buffer_put_set world.buffers b)) here);
  held = λ world k. k.holds;
}

pub IsDone-trim : (desk : DeskState) (b reach : List ℕ) (new : List Buffer) → reach ≡ reach_of desk.timelines → AgreesAbove reach (entries_of desk.buffers b) (entries_of new b) → OnlyChanges b desk.buffers new → AreBuffers new → IsDone desk (command.Trim b) answer.Done (record { timelines = desk.timelines; files = desk.files; buffers = new; watches = desk.watches })
IsDone-trim desk b reach new at agrees only kept = record {
  accepted = refl;
  reported = λ world k. refl;
  held = λ world k. Holds-trim k.holds b new kept (rw at at agrees) only;
}

-- watches

pub as_number : (b : Bool) (n : ℕ) → n ≡ bool_byte b → n ≡ number_if b
as_number true n is = is
as_number false n is = is

pub IsDone-watch : (desk : DeskState) (f : List ℕ) (cookie : ℕ) (points : List Point) (reach : List ℕ) (watches : Registry) → points ≡ points_at desk.files f → watches ≡ with_watch desk.watches cookie points reach → IsDone desk (command.Watch f cookie) answer.Done (record { timelines = desk.timelines; files = desk.files; buffers = desk.buffers; watches = watches })
IsDone-watch desk f cookie points reach watches is last = record {
  accepted = refl;
  reported = λ world k. refl;
  held = λ world k. rw last (Holds-watch k f cookie points reach is);
}

pub IsDone-unwatch : (desk : DeskState) (cookie : ℕ) (removed : Bool) (watches : Registry) → removed ≡ has_watch desk.watches cookie → watches ≡ without_watch desk.watches cookie → IsDone desk (command.Unwatch cookie) (answer.Value (number_if removed)) (record { timelines = desk.timelines; files = desk.files; buffers = desk.buffers; watches = watches })
IsDone-unwatch desk cookie removed watches is without = record {
  accepted = refl;
  reported = λ world k. ap (λ b. answer.Value (number_if b)) (is ∙ has_watch-holds k.holds cookie);
  held = λ world k. rw without (Holds-unwatch k.holds cookie);
}

-- what is reported of a file

abbrev pub info_with : List ℕ → Status → List FenceRow → Info
info_with name status rows = record { name = name; status = status; fences = rows }

info-found : {desk : DeskState} {world : World} → Keeps desk world → (name : List ℕ) (f : File) (o : Option MadeFile) → file_named world.files name ≡ o → sync_file_at desk.files name ≡ Some f → answer.Info (info_at desk.timelines name f.points) ≡ info_reported world name o
info-found {desk} {world} k name f None missing is =
    let both = sync_file_at-points desk.files world.files name k.holds.names k.holds.points in
    let none : Some f.points ≡ None = ap (option_map (λ (g : File). g.points)) (sym is) ∙ both ∙ ap (option_map listed_points) missing in
    absurd (cc)
info-found {desk} {world} k name f (Some g) found is =
    let both = sync_file_at-points desk.files world.files name k.holds.names k.holds.points in
    let some : Some f.points ≡ Some (listed_points g) = ap (option_map (λ (g : File). g.points)) (sym is) ∙ both ∙ ap (option_map listed_points) found in
    let same : f.points ≡ listed_points g = cc in
    let listed : points_at desk.files name ≡ f.points = ap (λ o. unwrap_or (option_map (λ (g : File). g.points) o) []) is in
    let put : put_set world.files name ≡ g.put = ap (λ o. unwrap_or (option_map (λ (g : MadeFile). g.put) o) []) found in
    let reached = ap (λ ps. all_reached (reach_of world.timelines) 0 (as_entries ps)) (sym listed) ∙ all_reached-keeps k name ∙ ap (all_reached (reach_of world.timelines) 0) put in
    ap answer.Info (
    ap (λ ts. info_at ts name f.points) k.holds.timelines
    ∙ ap (λ s. info_with name s (or_stub (map (fence_row world.timelines) f.points))) (common_status-reported (clocks_of world.timelines) f.points g.put reached)
    ∙ ap (λ ps. info_with name (status_of (all_reached (reach_of world.timelines) 0 g.put) (some_cancelled (clocks_of world.timelines) ps)) (or_stub (map (fence_row world.timelines) ps))) same
    )

pub IsDone-info : (desk : DeskState) (name : List ℕ) (f : File) (info : Info) → sync_file_at desk.files name ≡ Some f → info ≡ info_at desk.timelines name f.points → IsDone desk (command.Info name) (answer.Info info) desk
IsDone-info desk name f info is reported = record {
  accepted = refl;
  reported = λ world k. ap answer.Info reported ∙ info-found k name f (file_named world.files name) refl is;
  held = λ world k. k.holds;
}

-- each listed point is of a timeline that was made

points-made : (made : ℕ) (fs : List File) (name : List ℕ) (o : Option File) → HaveTimelines made fs → sync_file_at fs name ≡ o → AreMade made (unwrap_or (option_map (λ (f : File). f.points) o) [])
points-made made fs name None all is = All-nil (λ (p : Point). p.ctx ≤ made)
points-made made fs name (Some f) all is = sync_file_at-All (λ (g : File). AreMade made g.points) fs name f all is

pub AreMade-points_at : (made : ℕ) (fs : List File) (name : List ℕ) → HaveTimelines made fs → AreMade made (points_at fs name)
AreMade-points_at made fs name all = points-made made fs name (sync_file_at fs name) all refl

pending-is : (value p : ℕ) (t : Option ℕ) → pending value t ≡ Some p → t ≡ Some p
pending-is value p None is = absurd (cc)
pending-is value p (Some q) is = pending-if (nat_lt value q) is
  where
    pending-if : (b : Bool) → (if b then Some q else None) ≡ Some p → Some q ≡ Some p
    pending-if true h = h
    pending-if false h = absurd (cc)

AreMade-listing : (made : ℕ) (ps : List Point) (reach : List ℕ) → AreMade made ps → AreMade made (listing (as_entries ps) 0 reach)
AreMade-listing made ps reach all = listing-All (λ (p : Point). p.ctx ≤ made) (as_entries ps) 0 reach (λ ctx p low high is.
    let put = (top-Some (as_entries ps) 0 ctx p (pending-is (value_at reach ctx) p (top (as_entries ps) 0 ctx) is)).0 in
    let within = All-contains (λ (e : Entry). e.point.ctx ≤ made) (as_entries ps) put.0 (All-map (λ (e : Entry). e.point.ctx ≤ made) as_entry ps all) put.1 in
    let same : put.0.point.ctx ≡ ctx = put.2.1 in
    rw same at within)

pub HaveTimelines-merge : (made : ℕ) (fs : List File) (name a b reach : List ℕ) → HaveTimelines made fs → HaveTimelines made (fs ++ merge_of fs name (a ∷ b ∷ []) reach ∷ [])
HaveTimelines-merge made fs name a b reach all =
    let both = All-append (λ (p : Point). p.ctx ≤ made) (points_at fs a) (points_at fs b) (AreMade-points_at made fs a all) (AreMade-points_at made fs b all) in
    let same = sym (ap (λ ps. listing (as_entries ps) 0 reach) (points_of-files_at fs a b)) in
    All-push (λ (f : File). AreMade made f.points) fs (merge_of fs name (a ∷ b ∷ []) reach) all
    (subst (AreMade made) same (AreMade-listing made (points_at fs a ++ points_at fs b) reach both))
