-- A choice of clients that passes the check is persistent.
use Rattle.std.proofs.Common.{◌≡◌, ℕ, zero, suc, ◌+◌, ◌-◌, ◌<◌, ◌≤◌, nat_le, Bool, true, false, refl, sym, ap, ◌∙◌, subst, List, [], ◌∷◌, length, get_or, slice_get, Option, None, Some, option_map, unwrap_or, is_some, inl, inr, arith, Contains}
use Rattle.std.specs.List.{list_all}
use Rattle.std.proofs.lemmas.Bool.{cases_lt, leb-false}
use Rattle.std.proofs.lemmas.List.Elements.{All-contains}
use Rattle.std.proofs.lemmas.Option.{none-some, same_Some}
use Rattle.point_core.specs.declared.entry.Entry.{Entry}
use Rattle.point_core.specs.declared.entry.Point.{Point}
use Rattle.point_core.specs.Agreement.{as_entry, as_entries, all_reached, top}
use Rattle.point_core.specs.Clocks.{clock_at, is_past_closing, reached_by, status_at}
use Rattle.point_core.specs.Latest.{raised_to}
use Rattle.point_core.specs.Reach.{is_reached, value_at}
use Rattle.point_core.specs.Status.{is_signalled}
use Rattle.point_core.proofs.Agreement.{AgreesAbove-raised, raised_to-top-above, top-Some}
use Rattle.point_core.proofs.Named.{is_some-named}
use Rattle.point_core.proofs.Reached.{all_reached-points}
use Rattle.point_core.proofs.Ticking.{is_signalled-of, value_at-reach_of_clocks}
use Rattle.timeline_core.specs.Timeline.{AreTimelines, Timeline, clocks_of, context_of, has_timeline, name_at, reach_of}
use Rattle.timeline_core.proofs.Places.{context_of-place, has_timeline-place, name-place, place-of}
use Rattle.syncfile_core.specs.SyncFile.{File, file_at}
use Rattle.syncfile_core.specs.Files.{has_file as has_kept_file}
use Rattle.command_core.specs.declared.command.Command.{Command}
use Rattle.command_core.specs.declared.command.Command.TheVariants as command
use Rattle.desk_core.specs.Keeping.{points_at, cause_of}
use Rattle.desk_core.specs.Sound.{IsFilePoint}
use Rattle.desk_core.specs.theorem.Answer.{is_refused, refused_or, reported}
use Rattle.desk_core.specs.theorem.Desk.{DeskState, HasHistory}
use Rattle.desk_core.specs.theorem.History.{world_of}
use Rattle.desk_core.specs.theorem.World.{has_file, put_set}
use Rattle.desk_core.proofs.Answering.{Keeps-stands, is_refused-reported}
use Rattle.desk_core.proofs.Keeping.{AgreesAbove-keeps, has_sync_file-names, put_set-made}
use Rattle.desk_core.proofs.Stepping.{causes-keeps}
use Rattle.explore_core.specs.declared.plan.Step.{Step}
use Rattle.explore_core.specs.Choice.{IsOrderly, IsSettled, OneGoes, StaysPending}
use Rattle.explore_core.specs.Independence.{Bounds, IsWithin}
use Rattle.explore_core.specs.Persistent.{Choice, IsAhead, IsPendingFor, IsPersistent, KeepsWithin, StopsOthers}
use Rattle.explore_core.specs.Schedule.{Lines, Standing, answer_now, made_by}
use Rattle.explore_core.specs.Search.{has_name, is_asked}
use Rattle.explore_core.proofs.Showing.{Contains-map}

some-map : {X Y : Type 0} (f : X → Y) (o : Option X) → is_some (option_map f o) ≡ is_some o
some-map f None = refl
some-map f (Some x) = refl

-- points that a timeline has reached

pub signalled-reached : (ts : List Timeline) (p : Point) → is_signalled (status_at (clocks_of ts) p) ≡ is_reached (reach_of ts) p
signalled-reached ts p =
    let clock = clock_at (clocks_of ts) p.ctx in
    is_signalled-of (nat_le p.value (reached_by clock)) (is_past_closing clock p.value)
    ∙ ap (nat_le p.value) (sym (value_at-reach_of_clocks (clocks_of ts) p.ctx))

-- a pending point of a timeline has an entry among what was put into the file

pub later-one : (es : List Entry) (ctx floor value : ℕ) (o : Option ℕ) → top es 0 ctx ≡ o → floor < value → value ≤ raised_to floor o
    → (e : Entry) × Contains es e × (e.point.ctx ≡ ctx) × (floor < e.point.value)
later-one es ctx floor value None is high low = absurd (omega (arith, high, low))
later-one es ctx floor value (Some q) is high low =
    let put = (top-Some es 0 ctx q is).0 in
    let reached : q ≡ put.0.point.value = sym put.3 in
    let above : floor < put.0.point.value = omega (arith, high, low, reached) in
    (put.0, put.1, put.2.1, above)

pub listed-entry : (ps : List Point) (p : Point) → Contains ps p → Contains (as_entries ps) (as_entry p)
listed-entry ps p h = Contains-map as_entry ps p h

module _ {desk : DeskState} {history : List Command} (stands : HasHistory desk history) where
  pub pending-entry : (file : List ℕ) (p : Point) → Contains (points_at desk.files file) p → is_reached (reach_of (world_of history).timelines) p ≡ false
      → (e : Entry) × Contains (put_set (world_of history).files file) e × (e.point.ctx ≡ p.ctx) × (value_at (reach_of (world_of history).timelines) p.ctx < e.point.value)
  pending-entry file p there isnt =
      let reach = reach_of (world_of history).timelines in
      let es = as_entries (points_at desk.files file) in
      let fs = put_set (world_of history).files file in
      let floor = value_at reach p.ctx in
      let high : floor < p.value = leb-false p.value floor isnt in
      let above : p.value ≤ raised_to floor (top es 0 p.ctx) = raised_to-top-above es 0 p.ctx floor (as_entry p) (listed-entry (points_at desk.files file) p there) (omega arith, refl) in
      let same = AgreesAbove-raised (AgreesAbove-keeps (Keeps-stands stands) file) 0 p.ctx in
      later-one fs p.ctx floor p.value (top fs 0 p.ctx) refl high (subst (λ v. p.value ≤ v) same above)

  -- whether a `wait` is accepted, by the points that the desk lists

  abbrev found : List ℕ → Option (List Point)
  found file = option_map (λ (f : File). f.points) (file_at desk.files file)

  is-there : (file : List ℕ) → is_some (found file) ≡ has_file (world_of history).files file
  is-there file =
      some-map (λ (f : File). f.points) (file_at desk.files file)
      ∙ is_some-named (λ (f : File). f.name) desk.files file
      ∙ has_sync_file-names desk.files (world_of history).files file stands.holds.names

  pub missing-file : (file : List ℕ) → found file ≡ None → has_file (world_of history).files file ≡ false
  missing-file file none = sym (is-there file) ∙ ap is_some none

  pub wait-accepted : (file : List ℕ) (ps : List Point) → found file ≡ Some ps → list_all (is_reached (reach_of desk.timelines)) ps ≡ true
      → is_refused (answer_now history (command.Wait file)) ≡ false
  wait-accepted file ps is reached =
      let w = world_of history in
      let has : has_kept_file desk.files file ≡ true = sym (is_some-named (λ (f : File). f.name) desk.files file) ∙ sym (some-map (λ (f : File). f.points) (file_at desk.files file)) ∙ ap is_some is in
      let points : points_at desk.files file ≡ ps = ap (λ o. unwrap_or o []) is in
      let all : all_reached (reach_of desk.timelines) 0 (as_entries (points_at desk.files file)) ≡ true = ap (λ qs. all_reached (reach_of desk.timelines) 0 (as_entries qs)) points ∙ all_reached-points (reach_of desk.timelines) ps ∙ reached in
      let none : cause_of desk (command.Wait file) ≡ None = rw (has, all) refl in
      ap (λ o. is_refused (refused_or o (reported w (command.Wait file)))) (causes-keeps (Keeps-stands stands) (command.Wait file) ∙ none)
      ∙ is_refused-reported w (command.Wait file)

-- the timeline of a point

pub timeline-of : (ts : List Timeline) (ctx : ℕ) (name : List ℕ) → AreTimelines ts → 1 ≤ ctx → ctx ≤ length ts → name_at ts ctx ≡ Some name
    → (has_timeline ts name ≡ true) × (ctx ≡ context_of ts name)
timeline-of ts ctx name kept low high at =
    let place = place-of ts (ctx - 1) (omega (arith, low, high)) kept.distinct in
    let its : place.0 ≡ name = same_Some place.0 name (sym (name-place ts place.0 (ctx - 1) place.1) ∙ at) in
    let number : ctx ≡ context_of ts place.0 = omega (arith, low, context_of-place ts place.0 (ctx - 1) place.1) in
    (ap (has_timeline ts) (sym its) ∙ has_timeline-place ts place.0 (ctx - 1) place.1, number ∙ ap (context_of ts) its)

-- the point of the file stays pending
pub IsPendingFor-stays : {plan : Lines} {now : Standing} {choice : Choice} {desk : DeskState} (file : List ℕ) (p : Point) → HasHistory desk now.history
    → Contains (points_at desk.files file) p → StaysPending plan now choice p → IsPendingFor plan now choice file
IsPendingFor-stays {plan} {now} {choice} {desk} file p stands there s =
    let w = world_of now.history in
    let sound = (Keeps-stands stands).sound in
    let e = pending-entry stands file p there s.pending in
    let made = All-contains (IsFilePoint (length w.timelines)) (put_set w.files file) e.0 (put_set-made w.timelines w.files file sound.made) e.1 in
    let low : 1 ≤ p.ctx = subst (λ x. 1 ≤ x) e.2 made.timeline.0 in
    let high : p.ctx ≤ length w.timelines = subst (λ x. x ≤ length w.timelines) e.2 made.timeline.1 in
    let its = timeline-of w.timelines p.ctx s.timeline sound.timelines low high s.of in
    record {
      entry = e.0;
      there = e.1;
      timeline = s.timeline;
      has = its.0;
      of = e.2 ∙ its.1;
      pending = subst (λ x. value_at (reach_of w.timelines) x < e.0.point.value) (sym e.2) e.3;
      kept = s.kept;
    }

-- a persistent choice, client by client

pub KeepsWithin-settled : {asked : List ℕ → Bool} {bounds : Bounds} {plan : Lines} {now : Standing} {choice : Choice}
    → IsWithin bounds (world_of now.history) → ((client : ℕ) → IsSettled asked bounds plan now choice client) → KeepsWithin bounds plan now choice
KeepsWithin-settled within settled = record {
  pending = within;
  ahead = λ client place line ahead. (((settled client).other ahead.other).orderly place ahead.from ahead.below line ahead.is).respects;
}

pub StopsOthers-settled : {asked : List ℕ → Bool} {bounds : Bounds} {plan : Lines} {now : Standing} {choice : Choice}
    → ((client : ℕ) → IsSettled asked bounds plan now choice client) → StopsOthers plan now choice
StopsOthers-settled {asked} {bounds} {plan} {now} {choice} settled = record {
  within = λ client other. ((settled client).other other).within;
  held = λ client line other is. ((settled client).other other).held line is;
  forward = λ client place line ahead. (ordered client place line ahead).forward;
  narrow = λ client place line ahead. (ordered client place line ahead).narrow;
  patient = λ client place line ahead. (ordered client place line ahead).patient;
}
  where
    ordered : (client place : ℕ) (line : Step) → IsAhead plan now choice client place line → IsOrderly bounds (choice.limit client) place line
    ordered client place line ahead = ((settled client).other ahead.other).orderly place ahead.from ahead.below line ahead.is

pub IsPersistent-settled : {asked : List ℕ → Bool} {bounds : Bounds} {plan : Lines} {now : Standing} {choice : Choice}
    → IsWithin bounds (world_of now.history) → ((client : ℕ) → IsSettled asked bounds plan now choice client) → OneGoes asked bounds plan now choice → IsPersistent asked bounds plan now choice
IsPersistent-settled within settled goes = record {
  bounded = KeepsWithin-settled within settled;
  stops = StopsOthers-settled settled;
  chosen = λ client line chosen next. (settled client).chosen chosen line next;
  goes = goes;
}

-- the names that are asked are the plan's
pub same-asked : (plan : Lines) (names : List (List ℕ)) → ((name : List ℕ) → has_name names name ≡ is_asked plan name) → has_name names ≡ is_asked plan
same-asked plan names same = λ i name. same name i

-- one place after another

pub each-more : (P : ℕ → Type 0) (from place : ℕ) → ((k : ℕ) → from ≤ k → k < place → P k) → P place → (k : ℕ) → from ≤ k → k < place + 1 → P k
each-more P from place before here k low high = elim (cases_lt k place) [
  | inl below ↦ before k low below
  | inr above ↦ (let is : place ≡ k = omega (arith, above, high) in subst P is here)
]

-- clients that the plan hasn't

no-lines : {X : Type 0} (xs : List (List X)) (client : ℕ) → length xs ≤ client → unwrap_or (slice_get xs client) [] ≡ []
no-lines [] client past = refl
no-lines (x ∷ xs) zero past = absurd (omega (arith, past))
no-lines (x ∷ xs) (suc k) past = no-lines xs k (omega (arith, past))

none-made : (xs : List ℕ) (client : ℕ) → length xs ≤ client → get_or xs client 0 ≡ 0
none-made [] client past = refl
none-made (x ∷ xs) zero past = absurd (omega (arith, past))
none-made (x ∷ xs) (suc k) past = none-made xs k (omega (arith, past))

no-line : {X : Type 0} (xs : List (List X)) (client place : ℕ) (x : X) → length xs ≤ client → slice_get (unwrap_or (slice_get xs client) []) place ≡ Some x → ⊥
no-line xs client place x past is = none-some x (ap (λ ls. slice_get ls place) (sym (no-lines xs client past)) ∙ is)

pub IsSettled-past : {asked : List ℕ → Bool} {bounds : Bounds} {plan : Lines} {now : Standing} {choice : Choice} (client : ℕ)
    → length plan.clients ≤ client → length now.made ≤ client → IsSettled asked bounds plan now choice client
IsSettled-past {asked} {bounds} {plan} {now} {choice} client past none = record {
  chosen = λ chosen line next. absurd (no-line plan.clients client (made_by now client) line past next);
  other = λ other. record {
    within = subst (λ x. x ≤ choice.limit client) (sym (none-made now.made client none)) (omega arith);
    held = λ line is. absurd (no-line plan.clients client (choice.limit client) line past is);
    orderly = λ place from below line is. absurd (no-line plan.clients client place line past is);
  };
}

pub no-ahead : {plan : Lines} {now : Standing} {choice : Choice} (client place : ℕ) (line : Step) → length plan.clients ≤ client → IsAhead plan now choice client place line → ⊥
no-ahead {plan} client place line past ahead = no-line plan.clients client place line past ahead.is
