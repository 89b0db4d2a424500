-- What is answered to a check of a file, and to a close.
use Rattle.std.proofs.Common.{◌≡◌, ℕ, Bool, true, false, ◌||◌, not, refl, sym, ap, ◌∙◌, List, [], ◌∷◌, Option, None, Some, option_map, unwrap_or}
use Rattle.std.specs.Prelude.{is_some, if◌then◌else◌, IsOk, IsOkAnd, IsErrAnd, MatchOption, MatchBool, Result, Ok, Err}
use Rattle.std.proofs.lemmas.Bool.{false≢true}
use Rattle.point_core.specs.declared.refusal.Refusal.{Refusal}
use Rattle.point_core.specs.declared.refusal.Refusal.TheVariants.{NoEntry, TimedOut}
use Rattle.point_core.specs.declared.status.Status.{Status}
use Rattle.point_core.specs.declared.clocks.Clock.{Clock}
use Rattle.point_core.specs.Status.{is_signalled}
use Rattle.point_core.specs.Clocks.{some_cancelled, common_status}
use Rattle.point_core.proofs.Ticking.{is_signalled-of}
use Rattle.point_core.specs.Agreement.{as_entries, all_reached}
use Rattle.timeline_core.specs.Timeline.{clocks_of, reach_of}
use Rattle.syncfile_core.specs.SyncFile.{File, file_at as sync_file_at}
use Rattle.point_core.specs.Reach.{is_reached}
use Rattle.point_core.specs.Refusal.{IsRefusedFor}
use Rattle.syncfile_core.specs.Files.{is_named, has_file as has_sync_file, without_file}
use Rattle.command_core.specs.declared.command.Command.TheVariants as command
use Rattle.desk_core.specs.theorem.Desk.{DeskState}
use Rattle.desk_core.specs.Keeping.{cause_of}
use Rattle.desk_core.proofs.Finding.{has_sync_file-found}
use Rattle.std.specs.List.{list_all}
use Rattle.point_core.proofs.Reached.{all_reached-points}

-- why a check of a file of that status is refused
abbrev pub cause_if : Status → Option Refusal
cause_if s = if is_signalled s then None else Some TimedOut

abbrev reached_by : DeskState → Option File → Bool
reached_by d o = all_reached (reach_of d.timelines) 0 (as_entries (unwrap_or (option_map (λ (f : File). f.points) o) []))

cause_of-missing : (d : DeskState) (name : List ℕ) → sync_file_at d.files name ≡ None → cause_of d (command.Wait name) ≡ Some NoEntry
cause_of-missing d name is = ap (λ h. if h then (if reached_by d (sync_file_at d.files name) then None else Some TimedOut) else Some NoEntry) (has_sync_file-found d.files name ∙ ap is_some is)

cause_of-found : (d : DeskState) (name : List ℕ) (f : File) → sync_file_at d.files name ≡ Some f → cause_of d (command.Wait name) ≡ cause_if (common_status (clocks_of d.timelines) f.points)
cause_of-found d name f is =
    ap (λ h. if h then (if reached_by d (sync_file_at d.files name) then None else Some TimedOut) else Some NoEntry) (has_sync_file-found d.files name ∙ ap is_some is)
    ∙ ap (λ o. if reached_by d o then None else Some TimedOut) is
    ∙ ap (λ b. if b then None else Some TimedOut) (all_reached-points (reach_of d.timelines) f.points)
    ∙ ap (λ b. if b then None else Some TimedOut) (sym (is_signalled-of (list_all (is_reached (reach_of d.timelines)) f.points) (some_cancelled (clocks_of d.timelines) f.points)))

-- what the files' answer says of the check
waited : (d : DeskState) (name : List ℕ) (clocks : List Clock) (r : Result Status Refusal) (o : Option File) → clocks ≡ clocks_of d.timelines → sync_file_at d.files name ≡ o → MatchOption o (r ≡ Err NoEntry) (λ f. r ≡ Ok (common_status clocks f.points)) → (s : Status) → r ≡ Ok s → cause_of d (command.Wait name) ≡ cause_if s
waited d name clocks r None same is reported s ok = absurd (cc)
waited d name clocks r (Some f) same is reported s ok =
    let status : s ≡ common_status clocks f.points = cc in
    cause_of-found d name f is ∙ ap (λ cs. cause_if (common_status cs f.points)) (sym same) ∙ ap cause_if (sym status)

unwaited : (d : DeskState) (name : List ℕ) (clocks : List Clock) (r : Result Status Refusal) (o : Option File) → sync_file_at d.files name ≡ o → MatchOption o (r ≡ Err NoEntry) (λ f. r ≡ Ok (common_status clocks f.points)) → (e : Refusal) → r ≡ Err e → (cause_of d (command.Wait name) ≡ Some NoEntry) × (e ≡ NoEntry)
unwaited d name clocks r None is reported e err = (cause_of-missing d name is, cc)
unwaited d name clocks r (Some f) is reported e err = absurd (cc)

refused_for : {T : Type 0} (o : Option Refusal) (r : Result T Refusal) (cause e : Refusal) → o ≡ Some cause → e ≡ cause → IsErrAnd r (λ given. given ≡ e) → IsRefusedFor o r
refused_for o (Ok v) cause e is same given = absurd given
refused_for o (Err f) cause e is same given = let reported : f ≡ cause = cc in rw is (ap Err reported)

pub IsRefusedFor-no_file : {T : Type 0} (d : DeskState) (name : List ℕ) (clocks : List Clock) (checked : Result Status Refusal) (e : Refusal) (r : Result T Refusal) → MatchOption (sync_file_at d.files name) (checked ≡ Err NoEntry) (λ f. checked ≡ Ok (common_status clocks f.points)) → checked ≡ Err e → IsErrAnd r (λ given. given ≡ e) → IsRefusedFor (cause_of d (command.Wait name)) r
IsRefusedFor-no_file d name clocks checked e r reported err given =
    let missing = unwaited d name clocks checked (sync_file_at d.files name) refl reported e err in
    refused_for (cause_of d (command.Wait name)) r NoEntry e missing.0 missing.1 given

pub cause_of-waited : (d : DeskState) (name : List ℕ) (clocks : List Clock) (checked : Result Status Refusal) (s : Status) → clocks ≡ clocks_of d.timelines → MatchOption (sync_file_at d.files name) (checked ≡ Err NoEntry) (λ f. checked ≡ Ok (common_status clocks f.points)) → checked ≡ Ok s → cause_of d (command.Wait name) ≡ cause_if s
cause_of-waited d name clocks checked s same reported ok = waited d name clocks checked (sync_file_at d.files name) same refl reported s ok

-- a close that is refused takes nothing out

kept-if : (b : Bool) (rest : Bool) (f : File) (fs gs : List File) → (b || rest) ≡ false → (rest ≡ false → gs ≡ fs) → (if not b then f ∷ gs else gs) ≡ f ∷ fs
kept-if true rest f fs gs is same = absurd (cc)
kept-if false rest f fs gs is same = ap (λ hs. f ∷ hs) (same is)

without_file-missing : (fs : List File) (name : List ℕ) → has_sync_file fs name ≡ false → without_file fs name ≡ fs
without_file-missing [] name missing = refl
without_file-missing (f ∷ fs) name missing = kept-if (is_named name f) (has_sync_file fs name) f fs (without_file fs name) missing (λ rest. without_file-missing fs name rest)

missing_if : (b : Bool) (r : Result (Unit {0}) Refusal) (e : Refusal) → MatchBool b (IsOk r) (r ≡ Err NoEntry) → r ≡ Err e → b ≡ false
missing_if true (Ok t) e known err = absurd (cc)
missing_if true (Err f) e known err = absurd (false≢true known)
missing_if false r e known err = refl

pub unclosed : (fs new : List File) (name : List ℕ) (r : Result (Unit {0}) Refusal) (e : Refusal) → MatchBool (has_sync_file fs name) (IsOk r) (r ≡ Err NoEntry) → r ≡ Err e → new ≡ without_file fs name → new ≡ fs
unclosed fs new name r e known err without = without ∙ without_file-missing fs name (missing_if (has_sync_file fs name) r e known err)

-- what is accepted finds what it names
pub found_if : {T : Type 0} (b : Bool) (o : Option Refusal) (r : Result T Refusal) (t : T) → IsRefusedFor (if b then o else Some NoEntry) r → r ≡ Ok t → b ≡ true
found_if true o r t refused ok = refl
found_if false o r t refused ok = absurd (cc)

-- a refusal, reported by one call and then by another
pub refused_again : (T U : Type 0) (o : Option Refusal) (e : Refusal) → IsRefusedFor {T = T} o (Err e) → IsRefusedFor {T = U} o (Err e)
refused_again T U (Some cause) e refused = let same : e ≡ cause = cc in ap Err same
refused_again T U None e refused = refused

-- a refusal for the cause that there is
pub refused_as : {T : Type 0} (o cause : Option Refusal) (e : Refusal) (r : Result T Refusal) → o ≡ cause → IsRefusedFor {T = T} cause (Err e) → IsErrAnd r (λ given. given ≡ e) → IsRefusedFor o r
refused_as o cause e (Ok v) is refused given = absurd given
refused_as o cause e (Err f) is refused given = rw (is, given) refused

pub accepted_again : (T U : Type 0) (o : Option Refusal) (t : T) (u : U) → IsRefusedFor {T = T} o (Ok t) → IsRefusedFor {T = U} o (Ok u)
accepted_again T U (Some cause) t u refused = absurd (cc)
accepted_again T U None t u refused = tt

pub accepted_as : {T U : Type 0} (o cause : Option Refusal) (t : T) (u : U) → o ≡ cause → IsRefusedFor cause (Ok t) → IsRefusedFor o (Ok u)
accepted_as o cause t u is accepted = rw is (accepted_again _ _ cause t u accepted)

-- what is not refused has no cause
pub uncaused : {T : Type 0} (o : Option Refusal) (r : Result T Refusal) (t : T) → IsRefusedFor o r → r ≡ Ok t → o ≡ None
uncaused None r t refused ok = refl
uncaused (Some cause) r t refused ok = absurd (cc)

-- what a call reports that fails if there is none of that name
pub reported_where : (b : Bool) (r : Result Bool Refusal) (s : Bool) (P : Bool → Type 0) → MatchBool b (IsOkAnd r P) (r ≡ Err NoEntry) → r ≡ Ok s → P s
reported_where true (Ok s') s P reported ok = let same : s' ≡ s = cc in rw (← same) reported
reported_where true (Err e) s P reported ok = absurd (cc)
reported_where false r s P reported ok = absurd (cc)
