-- What a desk keeps after each command.
use Rattle.std.proofs.Common.{◌≡◌, ℕ, ◌+◌, ◌^◌, ◌≤◌, Bool, true, false, ◌&&◌, refl, sym, ap, ◌∙◌, List, [], ◌∷◌, ◌++◌, length, map, Option, None, Some, nat_le, nat_lt, not, ◌<◌, subst}
use Rattle.std.specs.Prelude.{if◌then◌else◌}
use Rattle.std.proofs.lemmas.Bool.{leb-true, leb-false, lt-ltb, le-ltb}
use Rattle.point_core.specs.declared.context.TheConstants.{CONTEXTS}
use Rattle.point_core.specs.declared.refusal.Refusal.{Refusal}
use Rattle.point_core.specs.declared.refusal.Refusal.TheVariants.{NoEntry, Exists, Overflow, Flags, Limit, TimedOut, Cancelled}
use Rattle.point_core.specs.declared.refusal.LimitKind.TheVariants.{Timelines, Buffers, Files}
use Rattle.point_core.specs.Agreement.{point_of, as_entries, listing, all_reached, AgreesAbove}
use Rattle.syncfile_core.specs.declared.files.TheConstants.{FILES}
use Rattle.command_core.specs.declared.command.Command.{Command}
use Rattle.command_core.specs.declared.command.Command.TheVariants as command
use Rattle.timeline_core.specs.Timeline.{Timeline, new_timeline, has_timeline, context_of, reach_of, value_of, is_closed, raised, shut, cause_if_not_open, cause_to_refuse_inc}
use Rattle.syncfile_core.specs.SyncFile.{File, plain_file, file_of}
use Rattle.syncfile_core.specs.Files.{has_file as has_sync_file, without_file, cause_to_refuse}
use Rattle.syncfile_core.specs.Merge.{merge_of}
use Rattle.desk_core.specs.theorem.World.{World, MadeFile, has_file, after, has_made_buffer, buffer_of, MadeBuffer, with_put, has_made_watch, other_watches}
use Rattle.desk_core.specs.theorem.Answer.{first_of, cause, is_full, causes, making_file, listed_points}
use Rattle.desk_core.specs.theorem.Desk.{DeskState, Holds}
use Rattle.desk_core.specs.Keeping.{points_at, Keeps, cause_of, first_cause}
use Rattle.desk_core.proofs.Signalling.{all_reached-keeps, put_reached}
use Rattle.desk_core.proofs.Keeping.{points_of-files_at, has_sync_file-names, length-names, without_file-names, without_file-points, listing-keeps, AgreesAbove-keeps}
use Rattle.std.proofs.lemmas.List.{map-append}
use Rattle.point_core.specs.declared.entry.Point.{Point}
use Rattle.point_core.specs.declared.entry.Entry.{Entry}
use Rattle.point_core.specs.Usage.{usage_number}
use Rattle.point_core.specs.Reach.{IsAtLeast}
use Rattle.point_core.proofs.Agreement.{AgreesAbove-later, AgreesAbove-sym}
use Rattle.resv_core.specs.Resv.{empty}
use Rattle.point_core.specs.declared.limits.TheConstants.{BUFFERS}
use Rattle.dmabuf_core.specs.Buffers.{Buffer, AreBuffers, OnlyChanges, has_buffer, entries_of, cause_without, cause_by_flags}
use Rattle.dmabuf_core.specs.Flags.{is_sync_flags, export_usage}
use Rattle.dmabuf_core.proofs.Putting.{listing-exported}
use Rattle.timeline_core.proofs.Storing.{reach_of-new}
use Rattle.desk_core.proofs.Buffers.{has_buffer-names, length-buffers, entries_of-new, buffer_put_set-new, names-put_into, tables-put, tables-trim}
use Rattle.desk_core.proofs.Sound.{IsAtLeast-raised, IsAtLeast-shut}
use Rattle.fence_core.specs.Watch.{watch_of}
use Rattle.fence_core.specs.Watches.{cause_to_refuse_watch, after_rise_to, without_watch, with_watch as with_kept_watch}
use Rattle.fence_core.proofs.Firing.{AllZip-left, AllZip-without, AllZip-push}
use Rattle.desk_core.proofs.Watching.{cookie_of, put_of, watches-later, watch_cause, watch_cause-keeps}

-- why a command is refused

limit_tests-if : (limit n : ℕ) (r : Refusal) (met unmet : Bool) → (met ≡ true → limit ≤ n) → (nat_le limit n ≡ met) → (if met then Some r else None) ≡ (if nat_lt n limit then None else Some r)
limit_tests-if limit n r true unmet at is = rw (le-ltb n limit (at refl)) refl
limit_tests-if limit n r false unmet at is = rw (lt-ltb n limit (leb-false limit n is)) refl

-- a limit is met, by either test
limit_tests : (limit n : ℕ) (r : Refusal) → (if nat_le limit n then Some r else None) ≡ (if nat_lt n limit then None else Some r)
limit_tests limit n r = limit_tests-if limit n r (nat_le limit n) true (leb-true limit n) refl

if-not : {X : Type 0} (b : Bool) (x y : X) → (if not b then x else y) ≡ (if b then y else x)
if-not true x y = refl
if-not false x y = refl

making_file-keeps : {desk : DeskState} {world : World} → Keeps desk world → (name : List ℕ) → first_of (making_file world name) ≡ cause_to_refuse desk.files name
making_file-keeps {desk} {world} k name =
    ap (λ b. if b then Some Exists else (if nat_le FILES (length world.files) then Some (Limit Files) else None)) (sym (has_sync_file-names desk.files world.files name k.holds.names))
    ∙ ap (λ o. if has_sync_file desk.files name then Some Exists else o)
    (limit_tests FILES (length world.files) (Limit Files) ∙ ap (λ n. if nat_lt n FILES then None else Some (Limit Files)) (sym (length-names desk.files world.files k.holds.names)))

and-true : (b : Bool) → (b && true) ≡ b
and-true true = refl
and-true false = refl

-- if there is a file, it is signalled if all that was put into it is reached
with_file : {X : Type 0} (has reached : Bool) (of : Bool → X) (none : X) → (if not has then none else of (has && reached)) ≡ (if has then of reached else none)
with_file true reached of none = refl
with_file false reached of none = refl

without_both : (b t : Bool) → (if not (b && t) then Some NoEntry else None) ≡ (if t then (if b then None else Some NoEntry) else Some NoEntry)
without_both true true = refl
without_both true false = refl
without_both false true = refl
without_both false false = refl

without_both_flags : (b f valid : Bool) → (if not (b && f) then Some NoEntry else (if not valid then Some Flags else None)) ≡ (if f then (if b then (if valid then None else Some Flags) else Some NoEntry) else Some NoEntry)
without_both_flags true true true = refl
without_both_flags true true false = refl
without_both_flags true false valid = refl
without_both_flags false true valid = refl
without_both_flags false false valid = refl

cause_without-keeps : {desk : DeskState} {world : World} → Keeps desk world → (b : List ℕ) → (if not (has_made_buffer world.buffers b) then Some NoEntry else None) ≡ cause_without desk.buffers b
cause_without-keeps {desk} {world} k b =
    if-not (has_made_buffer world.buffers b) (Some NoEntry) None
    ∙ ap (λ h. if h then None else Some NoEntry) (sym (has_buffer-names desk.buffers world.buffers b k.holds.buffers))

first_of-append : (rs qs : List (Bool × Refusal)) → first_of (rs ++ qs) ≡ first_cause (first_of rs) (first_of qs)
first_of-append [] qs = refl
first_of-append (r ∷ rs) qs = ap (λ o. if r.0 then Some r.1 else o) (first_of-append rs qs) ∙ by r.0 r.1 (first_of rs) (first_of qs)
  where
    by : (b : Bool) (e : Refusal) (o p : Option Refusal) → (if b then Some e else first_cause o p) ≡ first_cause (if b then Some e else o) p
    by true e o p = refl
    by false e o p = refl

-- the desk refuses what is refused in the worlds that it keeps, and for the same cause
pub causes-keeps : {desk : DeskState} {world : World} → Keeps desk world → (c : Command) → first_of (causes world c) ≡ cause_of desk c
causes-keeps {desk} {world} k (command.Timeline t) =
    ap (λ o. if has_timeline world.timelines t then Some Exists else o) (limit_tests CONTEXTS (length world.timelines) (Limit Timelines))
    ∙ ap (λ ts. if has_timeline ts t then Some Exists else (if nat_lt (length ts) CONTEXTS then None else Some (Limit Timelines))) (sym k.holds.timelines)
causes-keeps {desk} {world} k (command.Inc t n) =
    if-not (has_timeline world.timelines t) (Some NoEntry) (if is_closed world.timelines t then Some Cancelled else (if nat_le (2 ^ 64) (value_of world.timelines t + n) then Some Overflow else None))
    ∙ ap (λ ts. cause_to_refuse_inc ts t n) (sym k.holds.timelines)
causes-keeps {desk} {world} k (command.Value t) =
    if-not (has_timeline world.timelines t) (Some NoEntry) None
    ∙ ap (λ ts. if has_timeline ts t then None else Some NoEntry) (sym k.holds.timelines)
causes-keeps {desk} {world} k (command.Shut t) =
    if-not (has_timeline world.timelines t) (Some NoEntry) (if is_closed world.timelines t then Some Cancelled else None)
    ∙ ap (λ ts. cause_if_not_open ts t) (sym k.holds.timelines)
causes-keeps {desk} {world} k (command.Fence f t p) =
    let closed = cause (is_closed world.timelines t) Cancelled ∷ [] in
    if-not (has_timeline world.timelines t) (Some NoEntry) (first_of (making_file world f ++ closed))
    ∙ ap (λ o. if has_timeline world.timelines t then o else Some NoEntry) (first_of-append (making_file world f) closed ∙ ap (λ o. first_cause o (if is_closed world.timelines t then Some Cancelled else None)) (making_file-keeps k f))
    ∙ ap (λ ts. if has_timeline ts t then first_cause (cause_to_refuse desk.files f) (if is_closed ts t then Some Cancelled else None) else Some NoEntry) (sym k.holds.timelines)
causes-keeps {desk} {world} k (command.Merge f a b) =
    if-not (has_file world.files a && has_file world.files b) (Some NoEntry) (first_of (making_file world f))
    ∙ ap (λ o. if has_file world.files a && has_file world.files b then o else Some NoEntry) (making_file-keeps k f)
    ∙ ap (λ h. if h && has_file world.files b then cause_to_refuse desk.files f else Some NoEntry) (sym (has_sync_file-names desk.files world.files a k.holds.names))
    ∙ ap (λ h. if has_sync_file desk.files a && h then cause_to_refuse desk.files f else Some NoEntry) (sym (has_sync_file-names desk.files world.files b k.holds.names) ∙ sym (and-true (has_sync_file desk.files b)))
causes-keeps {desk} {world} k (command.Close f) =
    if-not (has_file world.files f) (Some NoEntry) None
    ∙ ap (λ h. if h then None else Some NoEntry) (sym (has_sync_file-names desk.files world.files f k.holds.names))
causes-keeps {desk} {world} k (command.Wait f) =
    let listed = ap (λ ts. all_reached (reach_of ts) 0 (as_entries (points_at desk.files f))) k.holds.timelines ∙ all_reached-keeps k f in
    with_file (has_file world.files f) (put_reached world f) (λ reached. if not reached then Some TimedOut else None) (Some NoEntry)
    ∙ ap (λ o. if has_file world.files f then o else Some NoEntry) (if-not (put_reached world f) (Some TimedOut) None ∙ ap (λ b. if b then None else Some TimedOut) (sym listed))
    ∙ ap (λ h. if h then (if all_reached (reach_of desk.timelines) 0 (as_entries (points_at desk.files f)) then None else Some TimedOut) else Some NoEntry) (sym (has_sync_file-names desk.files world.files f k.holds.names))
causes-keeps {desk} {world} k (command.Info f) =
    if-not (has_file world.files f) (Some NoEntry) None
    ∙ ap (λ h. if h then None else Some NoEntry) (sym (has_sync_file-names desk.files world.files f k.holds.names))
causes-keeps {desk} {world} k (command.Buffer b) =
    ap (λ h. if h then Some Exists else (if nat_le BUFFERS (length world.buffers) then Some (Limit Buffers) else None)) (sym (has_buffer-names desk.buffers world.buffers b k.holds.buffers))
    ∙ ap (λ o. if has_buffer desk.buffers b then Some Exists else o)
    (limit_tests BUFFERS (length world.buffers) (Limit Buffers) ∙ ap (λ n. if nat_lt n BUFFERS then None else Some (Limit Buffers)) (sym (length-buffers desk.buffers world.buffers k.holds.buffers)))
causes-keeps {desk} {world} k (command.Add b t p u) =
    without_both (has_made_buffer world.buffers b) (has_timeline world.timelines t)
    ∙ ap (λ h. if has_timeline world.timelines t then (if h then None else Some NoEntry) else Some NoEntry) (sym (has_buffer-names desk.buffers world.buffers b k.holds.buffers))
    ∙ ap (λ ts. if has_timeline ts t then cause_without desk.buffers b else Some NoEntry) (sym k.holds.timelines)
causes-keeps {desk} {world} k (command.Import b f flags) =
    without_both_flags (has_made_buffer world.buffers b) (has_file world.files f) (is_sync_flags flags)
    ∙ ap (λ h. if has_file world.files f then (if h then (if is_sync_flags flags then None else Some Flags) else Some NoEntry) else Some NoEntry) (sym (has_buffer-names desk.buffers world.buffers b k.holds.buffers))
    ∙ ap (λ h. if h then cause_by_flags desk.buffers b flags else Some NoEntry) (sym (has_sync_file-names desk.files world.files f k.holds.names))
causes-keeps {desk} {world} k (command.Export f b flags) =
    if-not (has_made_buffer world.buffers b) (Some NoEntry) (if not (is_sync_flags flags) then Some Flags else first_of (making_file world f))
    ∙ ap (λ o. if has_made_buffer world.buffers b then o else Some NoEntry) (if-not (is_sync_flags flags) (Some Flags) (first_of (making_file world f)) ∙ ap (λ o. if is_sync_flags flags then o else Some Flags) (making_file-keeps k f))
    ∙ ap (λ h. if h then (if is_sync_flags flags then cause_to_refuse desk.files f else Some Flags) else Some NoEntry) (sym (has_buffer-names desk.buffers world.buffers b k.holds.buffers))
causes-keeps {desk} {world} k (command.Test b u) = cause_without-keeps k b
causes-keeps {desk} {world} k (command.Trim b) = cause_without-keeps k b
causes-keeps {desk} {world} k (command.Show b) = cause_without-keeps k b
causes-keeps {desk} {world} k (command.Watch f cookie) =
    with_file (has_file world.files f) (put_reached world f) (watch_cause (has_made_watch world.watches cookie) (is_full world)) (Some NoEntry)
    ∙ ap (λ o. if has_file world.files f then o else Some NoEntry) (watch_cause-keeps k f cookie)
    ∙ ap (λ h. if h then cause_to_refuse_watch desk.watches cookie (points_at desk.files f) (reach_of desk.timelines) else Some NoEntry) (sym (has_sync_file-names desk.files world.files f k.holds.names))
causes-keeps k _ = refl

-- what is held

map-push : {X Y : Type 0} (f : X → Y) (xs : List X) (x : X) → map f (xs ++ x ∷ []) ≡ map f xs ++ f x ∷ []
map-push f [] x = refl
map-push f (y ∷ ys) x = ap (λ zs. f y ∷ zs) (map-push f ys x)

-- more is reached, files and buffers stay, and the watches that are due go out
Holds-later : {desk : DeskState} {world : World} → Holds desk world → (later : List Timeline) → IsAtLeast (reach_of later) (reach_of world.timelines) → Holds (record { timelines = later; files = desk.files; buffers = desk.buffers; watches = after_rise_to desk.watches (reach_of later) }) (record world { timelines = later; watches = other_watches world (reach_of later) })
Holds-later {desk} {world} h later rises = record {
  timelines = refl;
  names = h.names;
  points = h.points;
  buffers = h.buffers;
  kept = h.kept;
  tables = λ b. AgreesAbove-later rises (h.tables b);
  watches = AllZip-left cookie_of put_of (reach_of later) desk.watches.pending world.watches (watches-later h (reach_of later) rises);
  watches_made = h.watches_made;
}

-- a timeline rises
pub Holds-raised : {desk : DeskState} {world : World} → Holds desk world → (name : List ℕ) (n : ℕ) → Holds (record { timelines = raised desk.timelines name n; files = desk.files; buffers = desk.buffers; watches = after_rise_to desk.watches (reach_of (raised desk.timelines name n)) }) (after world (command.Inc name n))
Holds-raised {desk} {world} h name n =
    let P : List Timeline → Type 0 = λ ts. Holds (record { timelines = raised ts name n; files = desk.files; buffers = desk.buffers; watches = after_rise_to desk.watches (reach_of (raised ts name n)) }) (after world (command.Inc name n)) in
    subst P (sym h.timelines) (Holds-later h (raised world.timelines name n) (IsAtLeast-raised world.timelines name n))

-- a timeline is closed
pub Holds-shut : {desk : DeskState} {world : World} → Keeps desk world → (name : List ℕ) → Holds (record { timelines = shut desk.timelines name; files = desk.files; buffers = desk.buffers; watches = after_rise_to desk.watches (reach_of (shut desk.timelines name)) }) (after world (command.Shut name))
Holds-shut {desk} {world} k name =
    let P : List Timeline → Type 0 = λ ts. Holds (record { timelines = shut ts name; files = desk.files; buffers = desk.buffers; watches = after_rise_to desk.watches (reach_of (shut ts name)) }) (after world (command.Shut name)) in
    subst P (sym k.holds.timelines) (Holds-later k.holds (shut world.timelines name) (IsAtLeast-shut world.timelines name k.sound.values))

pub Holds-timeline : {desk : DeskState} {world : World} → Holds desk world → (name : List ℕ) → length desk.timelines < CONTEXTS → Holds (record { timelines = desk.timelines ++ new_timeline name ∷ []; files = desk.files; buffers = desk.buffers; watches = desk.watches }) (after world (command.Timeline name))
Holds-timeline {desk} {world} h name low =
    let low' : length world.timelines < CONTEXTS = let same = h.timelines in rw same at low in
    record {
      timelines = ap (λ ts. ts ++ new_timeline name ∷ []) h.timelines;
      names = h.names;
      points = h.points;
      buffers = h.buffers;
      kept = h.kept;
      tables = λ b. rw (reach_of-new world.timelines name low') (h.tables b);
      watches = rw (reach_of-new world.timelines name low') h.watches;
      watches_made = h.watches_made;
    }

-- a file is put after the others
pub Holds-file : {desk : DeskState} {world : World} → Holds desk world → (kept : File) (f : MadeFile) → kept.name ≡ f.name → kept.points ≡ listed_points f → Holds (record { timelines = desk.timelines; files = desk.files ++ kept ∷ []; buffers = desk.buffers; watches = desk.watches }) (record world { files = world.files ++ f ∷ [] })
Holds-file {desk} {world} h kept f name points = record {
  timelines = h.timelines;
  names = map-push (λ (g : File). g.name) desk.files kept ∙ ap (λ ns. ns ++ kept.name ∷ []) h.names ∙ ap (λ n. map (λ (g : MadeFile). g.name) world.files ++ n ∷ []) name ∙ sym (map-push (λ (g : MadeFile). g.name) world.files f);
  points = map-push (λ (g : File). g.points) desk.files kept ∙ ap (λ ps. ps ++ kept.points ∷ []) h.points ∙ ap (λ p. map listed_points world.files ++ p ∷ []) points ∙ sym (map-push listed_points world.files f);
  buffers = h.buffers;
  kept = h.kept;
  tables = h.tables;
  watches = h.watches;
  watches_made = h.watches_made;
}

-- a file is taken out
pub Holds-close : {desk : DeskState} {world : World} → Holds desk world → (name : List ℕ) → Holds (record { timelines = desk.timelines; files = without_file desk.files name; buffers = desk.buffers; watches = desk.watches }) (after world (command.Close name))
Holds-close {desk} {world} h name = record {
  timelines = h.timelines;
  names = without_file-names desk.files world.files name h.names;
  points = without_file-points desk.files world.files name h.names h.points;
  buffers = h.buffers;
  kept = h.kept;
  tables = h.tables;
  watches = h.watches;
  watches_made = h.watches_made;
}

pub Holds-fence : {desk : DeskState} {world : World} → Holds desk world → (name t : List ℕ) (ctx p : ℕ) → ctx ≡ context_of desk.timelines t → Holds (record { timelines = desk.timelines; files = desk.files ++ plain_file name (point_of ctx p) ∷ []; buffers = desk.buffers; watches = desk.watches }) (after world (command.Fence name t p))
Holds-fence {desk} {world} h name t ctx p is =
    Holds-file h (plain_file name (point_of ctx p)) _ refl (ap (λ c. point_of c p ∷ []) (is ∙ ap (λ ts. context_of ts t) h.timelines))

pub Holds-merge : {desk : DeskState} {world : World} → Keeps desk world → (name a b reach : List ℕ) → reach ≡ reach_of desk.timelines → Holds (record { timelines = desk.timelines; files = desk.files ++ merge_of desk.files name (a ∷ b ∷ []) reach ∷ []; buffers = desk.buffers; watches = desk.watches }) (after world (command.Merge name a b))
Holds-merge {desk} {world} k name a b reach is =
    let is' : reach ≡ reach_of world.timelines = is ∙ ap reach_of k.holds.timelines in
    Holds-file k.holds (merge_of desk.files name (a ∷ b ∷ []) reach) _ refl
    (ap (λ ps. listing (as_entries ps) 0 reach) (points_of-files_at desk.files a b) ∙ rw is' (listing-keeps k a b))

-- what is exported is what is pending of all that was put into the buffer
pub Holds-export : {desk : DeskState} {world : World} → Holds desk world → (name b : List ℕ) (flags : ℕ) (points : List Point) (floor : List ℕ) → points ≡ listing (entries_of desk.buffers b) (usage_number (export_usage flags)) (reach_of desk.timelines) → Holds (record { timelines = desk.timelines; files = desk.files ++ file_of name points floor ∷ []; buffers = desk.buffers; watches = desk.watches }) (after world (command.Export name b flags))
Holds-export {desk} {world} h name b flags points floor is =
    Holds-file h (file_of name points floor) _ refl
    (is ∙ ap (λ ts. listing (entries_of desk.buffers b) (usage_number (export_usage flags)) (reach_of ts)) h.timelines ∙ listing-exported flags (h.tables b))

-- a buffer is put after the others
pub Holds-buffer : {desk : DeskState} {world : World} → Holds desk world → (b : List ℕ) → AreBuffers (desk.buffers ++ (b, empty) ∷ []) → Holds (record { timelines = desk.timelines; files = desk.files; buffers = desk.buffers ++ (b, empty) ∷ []; watches = desk.watches }) (after world (command.Buffer b))
Holds-buffer {desk} {world} h b kept = record {
  timelines = h.timelines;
  names = h.names;
  points = h.points;
  buffers = map-append (λ (k : Buffer). k.0) desk.buffers ((b, empty) ∷ []) ∙ ap (λ ns. ns ++ b ∷ []) h.buffers ∙ sym (map-append (λ (c : MadeBuffer). c.name) world.buffers (buffer_of b [] ∷ []));
  kept = kept;
  tables = λ name. rw (entries_of-new desk.buffers b name, buffer_put_set-new world.buffers b name) (h.tables name);
  watches = h.watches;
  watches_made = h.watches_made;
}

-- more is put into a buffer
pub Holds-put : {desk : DeskState} {world : World} → Holds desk world → (b : List ℕ) (new : List Buffer) → AreBuffers new → (added put : List Entry) → has_made_buffer world.buffers b ≡ true → AgreesAbove (reach_of desk.timelines) (entries_of new b) (entries_of desk.buffers b ++ added) → AgreesAbove (reach_of world.timelines) added put → OnlyChanges b desk.buffers new → Holds (record { timelines = desk.timelines; files = desk.files; buffers = new; watches = desk.watches }) (with_put world b put)
Holds-put {desk} {world} h b new kept added put has now same only =
    let P : List ℕ → Type 0 = λ reach. AgreesAbove reach (entries_of new b) (entries_of desk.buffers b ++ added) in
    record {
      timelines = h.timelines;
      names = h.names;
      points = h.points;
      buffers = only.names ∙ h.buffers ∙ sym (names-put_into world.buffers b put);
      kept = kept;
      tables = tables-put (reach_of world.timelines) desk.buffers new world.buffers b added put h.tables has (subst P (ap reach_of h.timelines) now) same only;
      watches = h.watches;
      watches_made = h.watches_made;
    }

-- a table is trimmed
pub Holds-trim : {desk : DeskState} {world : World} → Holds desk world → (b : List ℕ) (new : List Buffer) → AreBuffers new → AgreesAbove (reach_of desk.timelines) (entries_of desk.buffers b) (entries_of new b) → OnlyChanges b desk.buffers new → Holds (record { timelines = desk.timelines; files = desk.files; buffers = new; watches = desk.watches }) world
Holds-trim {desk} {world} h b new kept now only =
    let P : List ℕ → Type 0 = λ reach. AgreesAbove reach (entries_of desk.buffers b) (entries_of new b) in
    record {
      timelines = h.timelines;
      names = h.names;
      points = h.points;
      buffers = only.names ∙ h.buffers;
      kept = kept;
      tables = tables-trim (reach_of world.timelines) desk.buffers new world.buffers b h.tables (AgreesAbove-sym (subst P (ap reach_of h.timelines) now)) only;
      watches = h.watches;
      watches_made = h.watches_made;
    }

-- a watch is put after the others, with the points that its file lists
pub Holds-watch : {desk : DeskState} {world : World} → Keeps desk world → (f : List ℕ) (cookie : ℕ) (points : List Point) (reach : List ℕ) → points ≡ points_at desk.files f → Holds (record { timelines = desk.timelines; files = desk.files; buffers = desk.buffers; watches = with_kept_watch desk.watches cookie points reach }) (after world (command.Watch f cookie))
Holds-watch {desk} {world} k f cookie points reach is = record {
  timelines = k.holds.timelines;
  names = k.holds.names;
  points = k.holds.points;
  buffers = k.holds.buffers;
  kept = k.holds.kept;
  tables = k.holds.tables;
  watches = AllZip-push cookie_of put_of (reach_of world.timelines) desk.watches.pending world.watches (watch_of cookie points) _ k.holds.watches (record { cookie = refl; agrees = rw is (AgreesAbove-keeps k f) });
  watches_made = ap (λ m. m + 1) k.holds.watches_made;
}

-- a watch is taken out
pub Holds-unwatch : {desk : DeskState} {world : World} → Holds desk world → (cookie : ℕ) → Holds (record { timelines = desk.timelines; files = desk.files; buffers = desk.buffers; watches = without_watch desk.watches cookie }) (after world (command.Unwatch cookie))
Holds-unwatch {desk} {world} h cookie = record {
  timelines = h.timelines;
  names = h.names;
  points = h.points;
  buffers = h.buffers;
  kept = h.kept;
  tables = h.tables;
  watches = AllZip-without cookie_of put_of (reach_of world.timelines) cookie desk.watches.pending world.watches h.watches;
  watches_made = h.watches_made;
}
