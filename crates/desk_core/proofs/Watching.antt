-- The watches that a desk keeps, and those of the world.
use Rattle.std.proofs.Common.{◌≡◌, ℕ, Bool, true, false, not, ◌&&◌, ◌||◌, if◌then◌else◌, refl, sym, ap, ◌∙◌, List, [], length, nat_le, nat_lt, Option, None, Some, option_map, unwrap_or, is_some, Result, Ok, Err, IsOk}
use Rattle.std.specs.Prelude.{MatchOption}
use Rattle.std.proofs.lemmas.Bool.{false≢true, leb-true, leb-false, lt-ltb, le-ltb}
use Rattle.std.proofs.lemmas.Slice.Zip.{AllZip-long}
use Rattle.point_core.specs.declared.refusal.Refusal.{Refusal}
use Rattle.point_core.specs.declared.refusal.Refusal.TheVariants.{NoEntry, Exists, Limit, Signalled}
use Rattle.point_core.specs.declared.refusal.LimitKind.TheVariants.{Watches as WatchesKind}
use Rattle.point_core.specs.declared.entry.Entry.{Entry}
use Rattle.point_core.specs.declared.entry.Point.{Point}
use Rattle.point_core.specs.declared.status.Status.{Status}
use Rattle.point_core.specs.declared.clocks.Clock.{Clock}
use Rattle.point_core.specs.Status.{is_signalled}
use Rattle.point_core.specs.Clocks.{reach_of_clocks, some_cancelled, common_status}
use Rattle.point_core.specs.Reach.{IsAtLeast}
use Rattle.point_core.proofs.Ticking.{is_signalled-of}
use Rattle.point_core.proofs.Reached.{all_reached-points}
use Rattle.timeline_core.specs.Timeline.{clocks_of, reach_of, raised, shut}
use Rattle.syncfile_core.specs.SyncFile.{File, file_at as sync_file_at}
use Rattle.fence_core.specs.declared.watches.TheConstants.{WATCHES, WATCHES_EVER}
use Rattle.fence_core.specs.Fence.{are_reached}
use Rattle.fence_core.specs.Watch.{IsWatchOf}
use Rattle.fence_core.specs.Watches.{has_watch, has_room, fired_by, cause_to_refuse, cause_to_refuse_watch, if_none}
use Rattle.fence_core.proofs.Firing.{AllZip-later, fired-none, cookies_of-fires, list_any-fires, list_any-is_for}
use Rattle.desk_core.specs.theorem.World.{World, MadeWatch, has_made_watch, raised_reach, shut_reach, due_watches, has_due_watch, fired_watches, shut_watches, fires_some, cookies_of}
use Rattle.desk_core.specs.theorem.Answer.{is_full}
use Rattle.desk_core.specs.theorem.Desk.{DeskState, AreWatchesOf, Holds}
use Rattle.desk_core.specs.Keeping.{points_at, Keeps, cause_of, keeps_due, fires_kept}
use Rattle.command_core.specs.declared.command.Command.{Command}
use Rattle.command_core.specs.declared.command.Command.TheVariants as command
use Rattle.desk_core.proofs.Finding.{has_sync_file-found}
use Rattle.desk_core.proofs.Signalling.{all_reached-keeps, put_reached}
use Rattle.desk_core.proofs.Sound.{IsAtLeast-raised, IsAtLeast-shut}

abbrev pub cookie_of : MadeWatch → ℕ
cookie_of x = x.cookie

abbrev pub put_of : MadeWatch → List Entry
put_of x = x.put

-- if more is reached

module _ {desk : DeskState} {world : World} (h : Holds desk world) (reach : List ℕ) (rises : IsAtLeast reach (reach_of world.timelines)) where
  pub watches-later : AreWatchesOf reach desk.watches.pending world.watches
  watches-later = AllZip-later cookie_of put_of desk.watches.pending world.watches rises h.watches

  -- the cookies that the desk tells are those of the watches that are due
  pub fired-later : fired_by desk.watches reach ≡ cookies_of (due_watches world reach)
  fired-later = cookies_of-fires cookie_of put_of reach desk.watches.pending world.watches watches-later

  keeps_due-later : keeps_due desk reach ≡ has_due_watch world reach
  keeps_due-later = list_any-fires cookie_of put_of reach desk.watches.pending world.watches watches-later

raised-holds : {desk : DeskState} {world : World} → Holds desk world → (name : List ℕ) (n : ℕ) → reach_of (raised desk.timelines name n) ≡ raised_reach world name n
raised-holds h name n = ap (λ ts. reach_of (raised ts name n)) h.timelines

pub fired-holds : {desk : DeskState} {world : World} → Holds desk world → (name : List ℕ) (n : ℕ) → fired_by desk.watches (reach_of (raised desk.timelines name n)) ≡ cookies_of (fired_watches world name n)
fired-holds {desk} {world} h name n =
    ap (fired_by desk.watches) (raised-holds h name n) ∙ fired-later h (raised_reach world name n) (IsAtLeast-raised world.timelines name n)

-- the same of a closing, if no value passes the greatest
shut-holds : {desk : DeskState} {world : World} → Holds desk world → (name : List ℕ) → reach_of (shut desk.timelines name) ≡ shut_reach world name
shut-holds h name = ap (λ ts. reach_of (shut ts name)) h.timelines

pub fired-shut : {desk : DeskState} {world : World} → Keeps desk world → (name : List ℕ) → fired_by desk.watches (reach_of (shut desk.timelines name)) ≡ cookies_of (shut_watches world name)
fired-shut {desk} {world} k name =
    ap (fired_by desk.watches) (shut-holds k.holds name) ∙ fired-later k.holds (shut_reach world name) (IsAtLeast-shut world.timelines name k.sound.values)

pub fires_kept-holds : {desk : DeskState} {world : World} → Keeps desk world → (c : Command) → fires_kept desk c ≡ fires_some world c
fires_kept-holds {desk} {world} k (command.Inc t n) =
    ap (keeps_due desk) (raised-holds k.holds t n) ∙ keeps_due-later k.holds (raised_reach world t n) (IsAtLeast-raised world.timelines t n)
fires_kept-holds {desk} {world} k (command.Shut t) =
    ap (keeps_due desk) (shut-holds k.holds t) ∙ keeps_due-later k.holds (shut_reach world t) (IsAtLeast-shut world.timelines t k.sound.values)
fires_kept-holds k _ = refl

-- why a watch is refused

not_le-if : (limit n : ℕ) (met : Bool) → nat_le limit n ≡ met → nat_lt n limit ≡ not met
not_le-if limit n true is = le-ltb n limit (leb-true limit n is)
not_le-if limit n false is = lt-ltb n limit (leb-false limit n is)

not_or : (a b : Bool) → (not a && not b) ≡ not (a || b)
not_or true b = refl
not_or false b = refl

has_room-full : (n m : ℕ) → (nat_lt n WATCHES && nat_lt m WATCHES_EVER) ≡ not (nat_le WATCHES n || nat_le WATCHES_EVER m)
has_room-full n m =
    ap (λ b. b && nat_lt m WATCHES_EVER) (not_le-if WATCHES n (nat_le WATCHES n) refl)
    ∙ ap (λ b. not (nat_le WATCHES n) && b) (not_le-if WATCHES_EVER m (nat_le WATCHES_EVER m) refl)
    ∙ not_or (nat_le WATCHES n) (nat_le WATCHES_EVER m)

has_room-holds : {desk : DeskState} {world : World} → Holds desk world → has_room desk.watches ≡ not (is_full world)
has_room-holds {desk} {world} h =
    has_room-full (length desk.watches.pending) desk.watches.made
    ∙ ap (λ n. not (nat_le WATCHES n || nat_le WATCHES_EVER desk.watches.made)) (sym (AllZip-long (IsWatchOf cookie_of put_of (reach_of world.timelines)) desk.watches.pending world.watches h.watches))
    ∙ ap (λ m. not (nat_le WATCHES (length world.watches) || nat_le WATCHES_EVER m)) h.watches_made

-- a cookie is pending for the desk exactly when it is in the world
pub has_watch-holds : {desk : DeskState} {world : World} → Holds desk world → (cookie : ℕ) → has_watch desk.watches cookie ≡ has_made_watch world.watches cookie
has_watch-holds {desk} {world} h cookie = list_any-is_for cookie_of put_of (reach_of world.timelines) cookie desk.watches.pending world.watches h.watches

abbrev pub watch_cause : Bool → Bool → Bool → Option Refusal
watch_cause there full reached = if there then Some Exists else if full then Some (Limit WatchesKind) else if reached then Some Signalled else None

abbrev cause_by : Bool → Bool → Bool → Option Refusal
cause_by there room reached = if_none (if there then Some Exists else if room then None else Some (Limit WatchesKind)) (if reached then Some Signalled else None)

watch_cause-by : (there full reached : Bool) → watch_cause there full reached ≡ cause_by there (not full) reached
watch_cause-by true full reached = refl
watch_cause-by false true reached = refl
watch_cause-by false false reached = refl

pub watch_cause-keeps : {desk : DeskState} {world : World} → Keeps desk world → (f : List ℕ) (cookie : ℕ) → watch_cause (has_made_watch world.watches cookie) (is_full world) (put_reached world f) ≡ cause_to_refuse_watch desk.watches cookie (points_at desk.files f) (reach_of desk.timelines)
watch_cause-keeps {desk} {world} k f cookie =
    let reached : put_reached world f ≡ are_reached (reach_of desk.timelines) (points_at desk.files f) =
    sym (all_reached-keeps k f) ∙ all_reached-points (reach_of world.timelines) (points_at desk.files f)
    ∙ ap (λ ts. are_reached (reach_of ts) (points_at desk.files f)) (sym k.holds.timelines)
    in
    watch_cause-by (has_made_watch world.watches cookie) (is_full world) (put_reached world f)
    ∙ ap (λ b. cause_by b (not (is_full world)) (put_reached world f)) (sym (has_watch-holds k.holds cookie))
    ∙ ap (λ b. cause_by (has_watch desk.watches cookie) b (put_reached world f)) (sym (has_room-holds k.holds))
    ∙ ap (cause_by (has_watch desk.watches cookie) (has_room desk.watches)) reached

-- what the desk asks before it registers a watch

-- a check of a file's status that is refused, and one that is answered
no_status : (o : Option File) (clocks : List Clock) (r : Result Status Refusal) (e : Refusal) → MatchOption o (r ≡ Err NoEntry) (λ f. r ≡ Ok (common_status clocks f.points)) → r ≡ Err e → (o ≡ None) × (e ≡ NoEntry)
no_status None clocks r e reported err = (refl, cc)
no_status (Some f) clocks r e reported err = absurd (cc)

found_status : (o : Option File) (clocks : List Clock) (r : Result Status Refusal) (s : Status) → MatchOption o (r ≡ Err NoEntry) (λ f. r ≡ Ok (common_status clocks f.points)) → r ≡ Ok s → (f : File) × (o ≡ Some f) × (s ≡ common_status clocks f.points)
found_status None clocks r s reported ok = absurd (cc)
found_status (Some f) clocks r s reported ok = (f, refl, cc)

-- whether a cookie is free, as it was answered
pub refused_cookie : (o : Option Refusal) (r : Result (Unit {0}) Refusal) (e : Refusal) → MatchOption o (IsOk r) (λ cause. r ≡ Err cause) → r ≡ Err e → o ≡ Some e
refused_cookie None (Ok t) e reported err = absurd (cc)
refused_cookie None (Err f) e reported err = absurd (false≢true reported)
refused_cookie (Some cause) r e reported err = cc

pub free_cookie : (o : Option Refusal) (r : Result (Unit {0}) Refusal) (t : Unit {0}) → MatchOption o (IsOk r) (λ cause. r ≡ Err cause) → r ≡ Ok t → o ≡ None
free_cookie None r t reported ok = refl
free_cookie (Some cause) r t reported ok = absurd (cc)

abbrev pub if_reached : Bool → Option Refusal
if_reached reached = if reached then Some Signalled else None

-- why a watch of a file of that status is refused
abbrev pub signalled_cause : Status → Option Refusal
signalled_cause s = if_reached (is_signalled s)

-- the file is there
pub watch-there : (d : DeskState) (f : List ℕ) (cookie : ℕ) (file : File) → sync_file_at d.files f ≡ Some file → cause_of d (command.Watch f cookie) ≡ cause_to_refuse_watch d.watches cookie (points_at d.files f) (reach_of d.timelines)
watch-there d f cookie file found =
    let has = has_sync_file-found d.files f ∙ ap is_some found in
    ap (λ b. if b then cause_to_refuse_watch d.watches cookie (points_at d.files f) (reach_of d.timelines) else Some NoEntry) has

module _ (d : DeskState) (f : List ℕ) (cookie : ℕ) (clocks : List Clock) (r : Result Status Refusal) (at : clocks ≡ clocks_of d.timelines) (reported : MatchOption (sync_file_at d.files f) (r ≡ Err NoEntry) (λ g. r ≡ Ok (common_status clocks g.points))) where
  pub watch-missing : (e : Refusal) → r ≡ Err e → (cause_of d (command.Watch f cookie) ≡ Some NoEntry) × (e ≡ NoEntry)
  watch-missing e err =
      let none = no_status (sync_file_at d.files f) clocks r e reported err in
      let missing = has_sync_file-found d.files f ∙ ap is_some none.0 in
      (ap (λ b. if b then cause_to_refuse_watch d.watches cookie (points_at d.files f) (reach_of d.timelines) else Some NoEntry) missing, none.1)

  watch-found : (s : Status) → r ≡ Ok s → cause_of d (command.Watch f cookie) ≡ cause_to_refuse_watch d.watches cookie (points_at d.files f) (reach_of d.timelines)
  watch-found s ok = let found = found_status (sync_file_at d.files f) clocks r s reported ok in watch-there d f cookie found.0 found.1

  -- the cookie is not free
  pub watch-taken : (s : Status) → r ≡ Ok s → (e : Refusal) → cause_to_refuse d.watches cookie ≡ Some e → cause_of d (command.Watch f cookie) ≡ Some e
  watch-taken s ok e taken = watch-found s ok ∙ ap (λ o. if_none o (if_reached (are_reached (reach_of d.timelines) (points_at d.files f)))) taken

  -- the cookie is free
  pub watch-free : (s : Status) → r ≡ Ok s → cause_to_refuse d.watches cookie ≡ None → cause_of d (command.Watch f cookie) ≡ signalled_cause s
  watch-free s ok free =
      let found = found_status (sync_file_at d.files f) clocks r s reported ok in
      let listed : points_at d.files f ≡ found.0.points = ap (λ o. unwrap_or (option_map (λ (g : File). g.points) o) []) found.1 in
      watch-found s ok
      ∙ ap (λ o. if_none o (if_reached (are_reached (reach_of d.timelines) (points_at d.files f)))) free
      ∙ ap (λ ps. if_reached (are_reached (reach_of d.timelines) ps)) listed
      ∙ ap (λ cs. if_reached (are_reached (reach_of_clocks cs) found.0.points)) (sym at)
      ∙ ap if_reached (sym (is_signalled-of (are_reached (reach_of_clocks clocks) found.0.points) (some_cancelled clocks found.0.points)))
      ∙ ap signalled_cause (sym found.2)

-- if no watch is due, none is refused for want of memory
pub sure-fired : {T : Type 0} (d : DeskState) (reach later : List ℕ) (r : Result T Refusal) (e : Refusal) → reach ≡ later → keeps_due d later ≡ false → (fired_by d.watches reach ≡ [] → IsOk r) → r ≡ Err e → ⊥
sure-fired d reach later (Ok v) e at none ok err = absurd (cc)
sure-fired d reach later (Err f) e at none ok err = false≢true (ok (ap (fired_by d.watches) at ∙ fired-none later d.watches.pending none))

-- the points that a file lists
pub watch_points : (fs : List File) (name : List ℕ) (file : File) (points : List Point) → sync_file_at fs name ≡ Some file → points ≡ file.points → points ≡ points_at fs name
watch_points fs name file points found listed =
    listed
    ∙ ap (λ p. unwrap_or (option_map (λ (g : File). g.points) p) []) (sym found)
