-- A desk's files and buffers stay of timelines that were made.
use Rattle.std.proofs.Common.{◌≡◌, ℕ, ◌≤◌, refl, sym, ap, ◌∙◌, subst, List, [], ◌∷◌, ◌++◌, length, replicate, not, arith, inl, inr, length-append}
use Rattle.std.proofs.lemmas.List.Elements.{All-nil, All-cons, All-push, All-weaker, All-filter, All-map}
use Rattle.point_core.specs.declared.context.TheConstants.{CONTEXTS}
use Rattle.point_core.specs.declared.entry.Point.{Point}
use Rattle.point_core.specs.declared.entry.Entry.{Entry}
use Rattle.point_core.specs.declared.entry.Usage.{Usage}
use Rattle.point_core.specs.Agreement.{AgreesAbove, as_entry, as_entries, point_of, listing}
use Rattle.point_core.specs.Reach.{IsAtLeast}
use Rattle.point_core.proofs.Values.{IsAtLeast-refl, IsAtLeast-trans, value_at-replicate}
use Rattle.resv_core.specs.Resv.{empty, entry_of}
use Rattle.dmabuf_core.specs.Buffers.{Buffer, OnlyChanges, entries_of}
use Rattle.dmabuf_core.specs.Flags.{imported, import_usage, with_usage}
use Rattle.timeline_core.specs.Timeline.{Timeline, new_timeline, reach_of, raised, shut}
use Rattle.syncfile_core.specs.SyncFile.{File, file_of, plain_file}
use Rattle.syncfile_core.specs.Files.{is_named, without_file}
use Rattle.syncfile_core.specs.Merge.{files_at, floor_of, merge_of}
use Rattle.fence_core.specs.Watch.{Registry}
use Rattle.fence_core.specs.Watches.{no_watches, after_rise_to, with_watch, without_watch}
use Rattle.desk_core.specs.theorem.Desk.{DeskState}
use Rattle.desk_core.specs.Keeping.{AreMade, HasNoneBehind, IsOfItsTimelines}
use Rattle.desk_core.proofs.Behind.{HasNoneBehind-AgreesAbove, HasNoneBehind-append, HasNoneBehind-made, HasNoneBehind-later, AreMade-behind}
use Rattle.desk_core.proofs.Buffers.{same_or_other, entries_of-new, entries_in}
use Rattle.desk_core.proofs.Doing.{HaveTimelines-merge}
use Rattle.desk_core.proofs.Sound.{IsAtLeast-raised, length-raised, length-shut}
use Rattle.point_core.proofs.Agreement.{AgreesAbove-sym}

pub inside-new : (timelines : List Timeline) (files : List File) (buffers : List Buffer) (watches : Registry) → timelines ≡ [] → files ≡ [] → buffers ≡ [] → watches ≡ no_watches → IsOfItsTimelines (record { timelines = timelines; files = files; buffers = buffers; watches = watches })
inside-new timelines files buffers watches no_timelines no_files no_buffers none =
    rw (no_timelines, no_files, no_buffers, none) (record {
      files = All-nil (λ (f : File). AreMade 0 f.points);
      floors = All-nil (λ (f : File). IsAtLeast (reach_of []) f.floor);
      buffers = λ name. record { tops = λ usage ctx past. refl };
      watches = refl;
    })

-- timelines

pub inside-later : {d : DeskState} (later : List Timeline) (watches : Registry) → length d.timelines ≤ length later → IsAtLeast (reach_of later) (reach_of d.timelines) → watches.reach ≡ reach_of later → IsOfItsTimelines d → IsOfItsTimelines (record { timelines = later; files = d.files; buffers = d.buffers; watches = watches })
inside-later {d} later watches more rises known h = record {
  files = All-weaker (λ (f : File). AreMade (length d.timelines) f.points) (λ (f : File). AreMade (length later) f.points)
      (λ f made. All-weaker (λ (p : Point). p.ctx ≤ length d.timelines) (λ (p : Point). p.ctx ≤ length later) (λ p within. omega arith) f.points made) d.files h.files;
  floors = All-weaker (λ (f : File). IsAtLeast (reach_of d.timelines) f.floor) (λ (f : File). IsAtLeast (reach_of later) f.floor)
      (λ f above. IsAtLeast-trans rises above) d.files h.floors;
  buffers = λ name. HasNoneBehind-later more rises (h.buffers name);
  watches = known;
}

pub inside-raised : {d : DeskState} (later : List Timeline) (name : List ℕ) (n : ℕ) (watches : Registry) (reach : List ℕ) → later ≡ raised d.timelines name n → reach ≡ reach_of (raised d.timelines name n) → watches ≡ after_rise_to d.watches reach → IsOfItsTimelines d → IsOfItsTimelines (record { timelines = later; files = d.files; buffers = d.buffers; watches = watches })
inside-raised {d} later name n watches reach is at left h =
    rw (is, left, at) (inside-later (raised d.timelines name n) (after_rise_to d.watches (reach_of (raised d.timelines name n))) (omega (arith, length-raised d.timelines name n)) (IsAtLeast-raised d.timelines name n) refl h)

pub inside-shut : {d : DeskState} (later : List Timeline) (name : List ℕ) (watches : Registry) (reach : List ℕ) → later ≡ shut d.timelines name → IsAtLeast (reach_of later) (reach_of d.timelines) → reach ≡ reach_of (shut d.timelines name) → watches ≡ after_rise_to d.watches reach → IsOfItsTimelines d → IsOfItsTimelines (record { timelines = later; files = d.files; buffers = d.buffers; watches = watches })
inside-shut {d} later name watches reach is rises at left h =
    let P : List Timeline → Type 0 = λ ts. IsAtLeast (reach_of ts) (reach_of d.timelines) in
    let rises' = subst P is rises in
    rw (is, left, at) (inside-later (shut d.timelines name) (after_rise_to d.watches (reach_of (shut d.timelines name))) (omega (arith, length-shut d.timelines name)) rises' refl h)

pub inside-timeline : {d : DeskState} (later : List Timeline) (name : List ℕ) → later ≡ d.timelines ++ new_timeline name ∷ [] → reach_of later ≡ reach_of d.timelines → IsOfItsTimelines d → IsOfItsTimelines (record { timelines = later; files = d.files; buffers = d.buffers; watches = d.watches })
inside-timeline {d} later name is same h =
    let P : List ℕ → Type 0 = λ reach. IsAtLeast reach (reach_of d.timelines) in
    let rises = subst P (sym same) (IsAtLeast-refl (reach_of d.timelines)) in
    inside-later later d.watches (omega (arith, ap length is, length-append {A = Timeline})) rises (h.watches ∙ sym same) h

-- files

pub inside-file : {d : DeskState} (files : List File) (f : File) → files ≡ d.files ++ f ∷ [] → AreMade (length d.timelines) f.points → IsAtLeast (reach_of d.timelines) f.floor → IsOfItsTimelines d → IsOfItsTimelines (record { timelines = d.timelines; files = files; buffers = d.buffers; watches = d.watches })
inside-file {d} files f is made above h = record {
  files = rw is (All-push (λ (g : File). AreMade (length d.timelines) g.points) d.files f h.files made);
  floors = rw is (All-push (λ (g : File). IsAtLeast (reach_of d.timelines) g.floor) d.files f h.floors above);
  buffers = h.buffers;
  watches = h.watches;
}

pub inside-fence : {d : DeskState} (files : List File) (name : List ℕ) (ctx value : ℕ) → files ≡ d.files ++ plain_file name (point_of ctx value) ∷ [] → ctx ≤ length d.timelines → IsOfItsTimelines d → IsOfItsTimelines (record { timelines = d.timelines; files = files; buffers = d.buffers; watches = d.watches })
inside-fence {d} files name ctx value is within h =
    let above : IsAtLeast (reach_of d.timelines) (replicate CONTEXTS 0) = record { values = λ at. rw (value_at-replicate CONTEXTS at) (omega arith) } in
    inside-file files (plain_file name (point_of ctx value)) is (All-cons (λ (p : Point). p.ctx ≤ length d.timelines) (point_of ctx value) [] within (All-nil (λ (p : Point). p.ctx ≤ length d.timelines))) above h

pub inside-merge : {d : DeskState} (files : List File) (name a b reach : List ℕ) → files ≡ d.files ++ merge_of d.files name (a ∷ b ∷ []) reach ∷ [] → floor_of reach (files_at d.files (a ∷ b ∷ [])) ≡ reach → reach ≡ reach_of d.timelines → IsOfItsTimelines d → IsOfItsTimelines (record { timelines = d.timelines; files = files; buffers = d.buffers; watches = d.watches })
inside-merge {d} files name a b reach is floor at h =
    let above = subst (IsAtLeast (reach_of d.timelines)) (sym (floor ∙ at)) (IsAtLeast-refl (reach_of d.timelines)) in
    record {
      files = rw is (HaveTimelines-merge (length d.timelines) d.files name a b reach h.files);
      floors = rw is (All-push (λ (f : File). IsAtLeast (reach_of d.timelines) f.floor) d.files (merge_of d.files name (a ∷ b ∷ []) reach) h.floors above);
      buffers = h.buffers;
      watches = h.watches;
    }

pub inside-close : {d : DeskState} (files : List File) (name : List ℕ) → files ≡ without_file d.files name → IsOfItsTimelines d → IsOfItsTimelines (record { timelines = d.timelines; files = files; buffers = d.buffers; watches = d.watches })
inside-close {d} files name is h = record {
  files = rw is (All-filter (λ (f : File). not (is_named name f)) (λ (f : File). AreMade (length d.timelines) f.points) d.files h.files);
  floors = rw is (All-filter (λ (f : File). not (is_named name f)) (λ (f : File). IsAtLeast (reach_of d.timelines) f.floor) d.files h.floors);
  buffers = h.buffers;
  watches = h.watches;
}

pub inside-export : {d : DeskState} (files : List File) (name b : List ℕ) (usage : ℕ) (reach : List ℕ) (points : List Point) → files ≡ d.files ++ file_of name points reach ∷ [] → points ≡ listing (entries_of d.buffers b) usage reach → reach ≡ reach_of d.timelines → IsOfItsTimelines d → IsOfItsTimelines (record { timelines = d.timelines; files = files; buffers = d.buffers; watches = d.watches })
inside-export {d} files name b usage reach points is listed at h =
    let made : AreMade (length d.timelines) points = rw (listed, at) (AreMade-behind (length d.timelines) (reach_of d.timelines) (entries_of d.buffers b) usage (h.buffers b)) in
    let above = subst (IsAtLeast (reach_of d.timelines)) (sym at) (IsAtLeast-refl (reach_of d.timelines)) in
    inside-file files (file_of name points reach) is made above h

-- buffers

pub inside-buffer : {d : DeskState} (new : List Buffer) (b : List ℕ) → new ≡ d.buffers ++ (b, empty) ∷ [] → IsOfItsTimelines d → IsOfItsTimelines (record { timelines = d.timelines; files = d.files; buffers = new; watches = d.watches })
inside-buffer {d} new b is h = record {
  files = h.files;
  floors = h.floors;
  buffers = λ name. rw (is, entries_of-new d.buffers b name) (h.buffers name);
  watches = h.watches;
}

pub inside-put : {d : DeskState} (new : List Buffer) (b reach : List ℕ) (added : List Entry) → reach ≡ reach_of d.timelines → AgreesAbove reach (entries_of new b) (entries_of d.buffers b ++ added) → OnlyChanges b d.buffers new → HasNoneBehind (length d.timelines) (reach_of d.timelines) added → IsOfItsTimelines d → IsOfItsTimelines (record { timelines = d.timelines; files = d.files; buffers = new; watches = d.watches })
inside-put {d} new b reach added at agrees only none h = record {
  files = h.files;
  floors = h.floors;
  buffers = λ name. elim (same_or_other name b) [
    | inl is ↦ rw is (HasNoneBehind-AgreesAbove (rw at at agrees) (HasNoneBehind-append (h.buffers b) none))
    | inr apart ↦ rw (ap entries_in (only.others name apart)) (h.buffers name)
  ];
  watches = h.watches;
}

pub inside-add : {d : DeskState} (new : List Buffer) (b reach : List ℕ) (ctx value : ℕ) (usage : Usage) → reach ≡ reach_of d.timelines → AgreesAbove reach (entries_of new b) (entries_of d.buffers b ++ entry_of (point_of ctx value) usage ∷ []) → OnlyChanges b d.buffers new → ctx ≤ length d.timelines → IsOfItsTimelines d → IsOfItsTimelines (record { timelines = d.timelines; files = d.files; buffers = new; watches = d.watches })
inside-add {d} new b reach ctx value usage at agrees only within h =
    let P : Entry → Type 0 = λ e. e.point.ctx ≤ length d.timelines in
    inside-put new b reach (entry_of (point_of ctx value) usage ∷ []) at agrees only
    (HasNoneBehind-made (length d.timelines) (reach_of d.timelines) _ (All-cons P (entry_of (point_of ctx value) usage) [] within (All-nil P))) h

pub inside-import : {d : DeskState} (new : List Buffer) (b reach : List ℕ) (points : List Point) (flags : ℕ) → reach ≡ reach_of d.timelines → AgreesAbove reach (entries_of new b) (entries_of d.buffers b ++ imported flags (as_entries points)) → OnlyChanges b d.buffers new → AreMade (length d.timelines) points → IsOfItsTimelines d → IsOfItsTimelines (record { timelines = d.timelines; files = d.files; buffers = new; watches = d.watches })
inside-import {d} new b reach points flags at agrees only made h =
    let P : Entry → Type 0 = λ e. e.point.ctx ≤ length d.timelines in
    inside-put new b reach (imported flags (as_entries points)) at agrees only
    (HasNoneBehind-made (length d.timelines) (reach_of d.timelines) (imported flags (as_entries points))
    (All-map P (with_usage (import_usage flags)) (as_entries points) (All-map P as_entry points made))) h

pub inside-trim : {d : DeskState} (new : List Buffer) (b reach : List ℕ) → reach ≡ reach_of d.timelines → AgreesAbove reach (entries_of d.buffers b) (entries_of new b) → OnlyChanges b d.buffers new → IsOfItsTimelines d → IsOfItsTimelines (record { timelines = d.timelines; files = d.files; buffers = new; watches = d.watches })
inside-trim {d} new b reach at agrees only h = record {
  files = h.files;
  floors = h.floors;
  buffers = λ name. elim (same_or_other name b) [
    | inl is ↦ rw is (HasNoneBehind-AgreesAbove (AgreesAbove-sym (rw at at agrees)) (h.buffers b))
    | inr apart ↦ rw (ap entries_in (only.others name apart)) (h.buffers name)
  ];
  watches = h.watches;
}

-- watches

pub inside-watch : {d : DeskState} (watches : Registry) (cookie : ℕ) (points : List Point) (reach : List ℕ) → reach ≡ reach_of d.timelines → watches ≡ with_watch d.watches cookie points reach → IsOfItsTimelines d → IsOfItsTimelines (record { timelines = d.timelines; files = d.files; buffers = d.buffers; watches = watches })
inside-watch {d} watches cookie points reach at last h = record {
  files = h.files;
  floors = h.floors;
  buffers = h.buffers;
  watches = rw (last, at) refl;
}

pub inside-unwatch : {d : DeskState} (watches : Registry) (cookie : ℕ) → watches ≡ without_watch d.watches cookie → IsOfItsTimelines d → IsOfItsTimelines (record { timelines = d.timelines; files = d.files; buffers = d.buffers; watches = watches })
inside-unwatch {d} watches cookie without h = record {
  files = h.files;
  floors = h.floors;
  buffers = h.buffers;
  watches = rw without h.watches;
}
