-- A desk that keeps a world tells what was put into its files.
use Rattle.point_core.specs.declared.entry.Point.{Point}
use Rattle.std.proofs.Common.{◌≡◌, ◌≢◌, ℕ, Bool, true, false, not, ◌&&◌, refl, sym, ap, ◌∙◌, List, [], ◌∷◌, Option, None, Some, option_map, unwrap_or, arith, inl, inr, All, ◌≤◌, length}
use Rattle.std.specs.Prelude.{◌↔◌, if◌then◌else◌, is_some}
use Rattle.std.proofs.lemmas.Bool.{false≢true, cases_Bool}
use Rattle.point_core.specs.declared.refusal.Refusal.TheVariants.{NoEntry, TimedOut}
use Rattle.point_core.specs.declared.status.Status.TheVariants.{Active, Cancelled}
use Rattle.point_core.specs.Agreement.{AgreesAbove, as_entries, IsReached, all_reached}
use Rattle.point_core.proofs.Agreement.{AgreesAbove-trans, AgreesAbove-sym, AgreesAbove-same_entries}
use Rattle.command_core.specs.declared.answer.Answer.{Answer}
use Rattle.command_core.specs.declared.answer.Answer.TheVariants as answer
use Rattle.command_core.specs.declared.command.Command.{Command}
use Rattle.command_core.specs.declared.command.Command.TheVariants as command
use Rattle.command_core.specs.declared.answer.Info.{Info}
use Rattle.timeline_core.specs.Timeline.{clocks_of, reach_of}
use Rattle.syncfile_core.specs.SyncFile.{File, file_at as sync_file_at}
use Rattle.desk_core.specs.theorem.World.{World, MadeFile, has_file, file_named, put_set, has_made_buffer}
use Rattle.desk_core.specs.theorem.Answer.{refused_or, listed_points, info_of, info_reported, number_if}
use Rattle.desk_core.specs.theorem.Desk.{DeskState, HasHistory, Answers}
use Rattle.desk_core.specs.theorem.History.{world_of}
use Rattle.desk_core.specs.Keeping.{points_at, Keeps}
use Rattle.desk_core.specs.theorem.Headline.{ReportsWhatWasPut, values_after, put_into_file, IsFileReached, ReportsWhatIsInBuffers, put_into_buffer, IsBufferReached}
use Rattle.desk_core.proofs.Answering.{Keeps-stands}
use Rattle.desk_core.proofs.Finding.{has_sync_file-found}
use Rattle.desk_core.proofs.Keeping.{sync_file_at-points, has_sync_file-names, AgreesAbove-keeps}
use Rattle.desk_core.proofs.Signalling.{IsReached-keeps, put_reached}
use Rattle.std.specs.Map.{values_of}
use Rattle.std.proofs.lemmas.List.Elements.{All-head, All-tail}
use Rattle.std.proofs.lemmas.Map.Entries.{lookup_head, lookup_tail}
use Rattle.point_core.specs.declared.entry.Usage.{Usage}
use Rattle.point_core.specs.Usage.{usage_number}
use Rattle.point_core.specs.Named.{same_name}
use Rattle.point_core.proofs.Reached.{all_reached-IsReached}
use Rattle.point_core.proofs.Ticking.{status_of-not_active}
use Rattle.point_core.specs.Clocks.{status_of, some_cancelled}
use Rattle.resv_core.specs.Resv.{Reservation, IsTable}
use Rattle.resv_core.specs.declared.resv.TheConstants.{PLACES}
use Rattle.dmabuf_core.specs.Buffers.{Buffer, has_buffer, entries_of}
use Rattle.desk_core.proofs.Buffers.{has_buffer-names}

listed : (fs : List File) (name : List ℕ) (f : File) → sync_file_at fs name ≡ Some f → points_at fs name ≡ f.points
listed fs name f is = ap (λ o. unwrap_or (option_map (λ (g : File). g.points) o) []) is

agrees : {desk : DeskState} {world : World} → Keeps desk world → (name : List ℕ) (f : File) → sync_file_at desk.files name ≡ Some f → AgreesAbove (reach_of world.timelines) (as_entries f.points) (put_set world.files name)
agrees {desk} {world} k name f is = rw (listed desk.files name f is) at (AgreesAbove-keeps k name)

same_Info : (a b : Info) → answer.Info a ≡ answer.Info b → a ≡ b
same_Info a b is = cc

reported_status : (world : World) (name : List ℕ) (b : Bool) (o : Option MadeFile) (reported : Info) → answer.Info reported ≡ refused_or (if not b then Some NoEntry else None) (info_reported world name o) → (reported.status ≢ Active) ↔ IsReached (unwrap_or (option_map (λ (f : MadeFile). f.put) o) []) 0 (reach_of world.timelines)
reported_status world name false o reported is = absurd (cc)
reported_status world name true None reported is = absurd (cc)
reported_status world name true (Some f) reported is =
    let same = same_Info reported (info_of world name f) is in
    rw same (status_of-not_active (all_reached (reach_of world.timelines) 0 f.put) (some_cancelled (clocks_of world.timelines) (listed_points f)) (all_reached-IsReached (reach_of world.timelines) 0 f.put))

-- what is reached, and in part cancelled
status_of-Cancelled : {P : Type 0} (reached cancelled : Bool) → ((reached ≡ true) ↔ P) → (status_of reached cancelled ≡ Cancelled) ↔ (P × (cancelled ≡ true))
status_of-Cancelled true true h = (λ _. (h.0 refl, refl), λ _. refl)
status_of-Cancelled true false h = (λ is. absurd (cc), λ both. absurd (false≢true both.1))
status_of-Cancelled false cancelled h = (λ is. absurd (cc), λ both. absurd (false≢true (h.1 both.0)))

reported_cancelled : (world : World) (name : List ℕ) (b : Bool) (o : Option MadeFile) (ps : List Point) (reported : Info) → Some ps ≡ option_map listed_points o → answer.Info reported ≡ refused_or (if not b then Some NoEntry else None) (info_reported world name o) → (reported.status ≡ Cancelled) ↔ (IsReached (unwrap_or (option_map (λ (f : MadeFile). f.put) o) []) 0 (reach_of world.timelines) × (some_cancelled (clocks_of world.timelines) ps ≡ true))
reported_cancelled world name false o ps reported listed is = absurd (cc)
reported_cancelled world name true None ps reported listed is = absurd (cc)
reported_cancelled world name true (Some f) ps reported listed is =
    let same = same_Info reported (info_of world name f) is in
    let points : ps ≡ listed_points f = cc in
    rw (same, points) (status_of-Cancelled (all_reached (reach_of world.timelines) 0 f.put) (some_cancelled (clocks_of world.timelines) (listed_points f)) (all_reached-IsReached (reach_of world.timelines) 0 f.put))

-- what a check answers of a file that is there
waited : (b reached : Bool) (given : Answer) → b ≡ true → given ≡ refused_or (if not b then Some NoEntry else (if not (b && reached) then Some TimedOut else None)) answer.Done → given ≡ (if reached then answer.Done else answer.Refused TimedOut)
waited true true given has is = is
waited true false given has is = is
waited false reached given has is = absurd (cc)

done_if : (reached : Bool) (given : Answer) (P : Type 0) → given ≡ (if reached then answer.Done else answer.Refused TimedOut) → ((reached ≡ true) ↔ P) → (given ≡ answer.Done) ↔ P
done_if true given P is h = (λ _. h.0 refl, λ _. is)
done_if false given P is h = (λ done. absurd (cc), λ p. absurd (false≢true (h.1 p)))

timed_out_if : (reached : Bool) (given : Answer) (P : Type 0) → given ≡ (if reached then answer.Done else answer.Refused TimedOut) → ((reached ≡ true) ↔ P) → (given ≡ answer.Refused TimedOut) ↔ (¬ P)
timed_out_if true given P is h = (λ out. absurd (cc), λ none. absurd (none (h.0 refl)))
timed_out_if false given P is h = (λ _ p. absurd (false≢true (h.1 p)), λ _. is)

waited-stands : {desk : DeskState} {history : List Command} → HasHistory desk history → (name : List ℕ) (f : File) (given : Answer) → sync_file_at desk.files name ≡ Some f → Answers desk (command.Wait name) given → given ≡ (if put_reached (world_of history) name then answer.Done else answer.Refused TimedOut)
waited-stands {desk} {history} stands name f given is answers =
    let has : has_file (world_of history).files name ≡ true = sym (has_sync_file-names desk.files (world_of history).files name stands.holds.names) ∙ has_sync_file-found desk.files name ∙ ap is_some is in
    elim ((answers history stands).reported) [
      | inl reported ↦ waited (has_file (world_of history).files name) (put_reached (world_of history) name) given has reported
      | inr none ↦ absurd (false≢true none.1)
    ]

pub ReportsWhatWasPut-stands : (desk : DeskState) (history : List Command) → HasHistory desk history → ReportsWhatWasPut desk history
ReportsWhatWasPut-stands desk history stands =
    let k = Keeps-stands stands in
    let world : World = world_of history in
    let reached_by = λ (name : List ℕ). all_reached-IsReached (values_after history) 0 (put_into_file history name) in
    record {
      agrees = agrees k;
      same_put = λ a b f g is is' same. AgreesAbove-trans (agrees k a f is) (AgreesAbove-trans (AgreesAbove-same_entries (values_after history) (put_into_file history a) (put_into_file history b) same.there same.back) (AgreesAbove-sym (agrees k b g is')));
      reached = λ name f is. rw (listed desk.files name f is) at (IsReached-keeps k name);
      signalled = λ name reported given. elim ((given history stands).reported) [
        | inl is ↦ reported_status world name (has_file world.files name) (file_named world.files name) reported is
        | inr none ↦ absurd (cc (none.0))
      ];
      cancelled = λ name f reported is given. elim ((given history stands).reported) [
        | inl answered ↦
            let both = sync_file_at-points desk.files world.files name k.holds.names k.holds.points in
            reported_cancelled world name (has_file world.files name) (file_named world.files name) f.points reported (ap (option_map (λ (g : File). g.points)) (sym is) ∙ both) answered
        | inr none ↦ absurd (cc (none.0))
      ];
      waited = λ name f given is answers. done_if (put_reached world name) given (IsFileReached history name) (waited-stands stands name f given is answers) (reached_by name);
      timed_out = λ name f given is answers. timed_out_if (put_reached world name) given (IsFileReached history name) (waited-stands stands name f given is answers) (reached_by name);
      listed = λ name f made is is'.
          let both = sync_file_at-points desk.files world.files name k.holds.names k.holds.points in
          let some : Some f.points ≡ Some (listed_points made) = ap (option_map (λ (g : File). g.points)) (sym is) ∙ both ∙ ap (option_map listed_points) is' in
          cc;
    }

-- buffers

same_Value : (a b : ℕ) → answer.Value a ≡ answer.Value b → a ≡ b
same_Value a b is = cc

-- what a test answers of a buffer that is there
tested : (b : Bool) (given : Answer) (value : ℕ) → b ≡ true → given ≡ refused_or (if not b then Some NoEntry else None) (answer.Value value) → given ≡ answer.Value value
tested true given value has is = is
tested false given value has is = absurd (cc)

one_if : (reached : Bool) (given : Answer) (P : Type 0) → given ≡ answer.Value (number_if reached) → ((reached ≡ true) ↔ P) → (given ≡ answer.Value 1) ↔ P
one_if true given P is h = (λ _. h.0 refl, λ _. is)
one_if false given P is h = (λ one. absurd (omega (arith, same_Value 0 1 (sym is ∙ one))), λ p. absurd (false≢true (h.1 p)))

zero_if : (reached : Bool) (given : Answer) (P : Type 0) → given ≡ answer.Value (number_if reached) → ((reached ≡ true) ↔ P) → (given ≡ answer.Value 0) ↔ (¬ P)
zero_if true given P is h = (λ none. absurd (omega (arith, same_Value 1 0 (sym is ∙ none))), λ none. absurd (none (h.0 refl)))
zero_if false given P is h = (λ _ p. absurd (false≢true (h.1 p)), λ _. is)

tested-stands : {desk : DeskState} {history : List Command} → HasHistory desk history → (name : List ℕ) (usage : Usage) (given : Answer) → has_buffer desk.buffers name ≡ true → Answers desk (command.Test name usage) given → given ≡ answer.Value (number_if (all_reached (values_after history) (usage_number usage) (put_into_buffer history name)))
tested-stands {desk} {history} stands name usage given has answers =
    let made : has_made_buffer (world_of history).buffers name ≡ true = sym (has_buffer-names desk.buffers (world_of history).buffers name stands.holds.buffers) ∙ has in
    elim ((answers history stands).reported) [
      | inl reported ↦ tested (has_made_buffer (world_of history).buffers name) given (number_if (all_reached (values_after history) (usage_number usage) (put_into_buffer history name))) made reported
      | inr none ↦ absurd (false≢true none.1)
    ]

-- a table that is found has its places
places-found : (bs : List Buffer) (name : List ℕ) → All IsTable (values_of bs) → length (entries_of bs name) ≤ PLACES
places-found [] name all = omega arith
places-found (b ∷ bs) name all = elim (cases_Bool (same_name name b.0)) [
  | inl is ↦
      let found = ap (λ (o : Option Reservation). length (unwrap_or (option_map (λ (t : Reservation). t.entries) o) [])) (lookup_head (same_name name) b bs is) in
      let places = (All-head IsTable b.1 (values_of bs) all).places in
      omega arith
  | inr isnt ↦
      let found = ap (λ (o : Option Reservation). length (unwrap_or (option_map (λ (t : Reservation). t.entries) o) [])) (lookup_tail (same_name name) b bs isnt) in
      let rest = places-found bs name (All-tail IsTable b.1 (values_of bs) all) in
      omega arith
]

pub ReportsWhatIsInBuffers-stands : (desk : DeskState) (history : List Command) → HasHistory desk history → ReportsWhatIsInBuffers desk history
ReportsWhatIsInBuffers-stands desk history stands =
    let k = Keeps-stands stands in
    let tables = stands.holds.tables in
    let reached_by = λ (name : List ℕ) (usage : Usage). all_reached-IsReached (values_after history) (usage_number usage) (put_into_buffer history name) in
    record {
      agrees = tables;
      same_put = λ a b same. AgreesAbove-trans (tables a) (AgreesAbove-trans (AgreesAbove-same_entries (values_after history) (put_into_buffer history a) (put_into_buffer history b) same.there same.back) (AgreesAbove-sym (tables b)));
      same_as_file = λ name b f is same. AgreesAbove-trans (agrees k name f is) (AgreesAbove-trans (AgreesAbove-same_entries (values_after history) (put_into_file history name) (put_into_buffer history b) same.there same.back) (AgreesAbove-sym (tables b)));
      tested = λ name usage given has answers. one_if _ given (IsBufferReached history name usage) (tested-stands stands name usage given has answers) (reached_by name usage);
      tested_pending = λ name usage given has answers. zero_if _ given (IsBufferReached history name usage) (tested-stands stands name usage given has answers) (reached_by name usage);
      places = λ name. places-found desk.buffers name stands.holds.kept.tables;
    }
