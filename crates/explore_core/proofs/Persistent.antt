-- While the chosen clients stand still, no other passes its limit, and no chosen client's line changes.
use Rattle.std.proofs.Common.{◌≡◌, ℕ, ◌+◌, ◌<◌, ◌≤◌, Bool, true, false, not, ◌&&◌, suc, zero, refl, sym, ap, ◌∙◌, subst, List, [], ◌∷◌, ◌++◌, length, is_some, get_or, set, slice_get, Option, None, Some, option_map, unwrap_or, arith, if◌then◌else◌, inl, inr}
use Rattle.std.specs.Prelude.{◌⊎◌, All, Contains, IfSome}
use Rattle.std.specs.Option.{IsSomeAnd}
use Rattle.std.proofs.lemmas.Bool.{cases_Bool, cases_lt, false≢true, le-ltb}
use Rattle.std.proofs.lemmas.List.{get_or-set_other}
use Rattle.std.proofs.lemmas.Bool.Decides.{eqb_tells}
use Rattle.std.proofs.lemmas.List.Elements.{All-contains, All-head, All-tail}
use Rattle.std.proofs.lemmas.Option.{IfSome_then, same_Some}
use Rattle.point_core.specs.declared.refusal.Refusal.TheVariants.{NoEntry, TimedOut}
use Rattle.point_core.specs.Agreement.{all_reached}
use Rattle.point_core.specs.Clocks.{reached_by}
use Rattle.point_core.specs.Reach.{value_at}
use Rattle.point_core.specs.Usage.{usage_number}
use Rattle.point_core.proofs.Named.{is_some-named}
use Rattle.point_core.proofs.Reached.{all_reached-IsReached}
use Rattle.point_core.proofs.Ticking.{value_at-reach_of_clocks}
use Rattle.timeline_core.specs.Timeline.{Timeline, clock_named, clocks_of, context_of, has_timeline, names_of, reach_of, raised_by, closed_timeline}
use Rattle.command_core.specs.declared.answer.Answer.{Answer}
use Rattle.command_core.specs.declared.answer.Answer.TheVariants as answer
use Rattle.command_core.specs.declared.command.Command.{Command}
use Rattle.command_core.specs.declared.command.Command.TheVariants as command
use Rattle.desk_core.specs.Sound.{IsFilePoint, IsSound}
use Rattle.desk_core.specs.theorem.Answer.{answer_to, is_refused, is_signalled, refused_or}
use Rattle.desk_core.specs.theorem.History.{world_of}
use Rattle.desk_core.specs.theorem.World.{World, MadeFile, after, file_named, has_file, put_set}
use Rattle.desk_core.proofs.Keeping.{put_set-made}
use Rattle.explore_core.specs.Branch.{Branching}
use Rattle.explore_core.specs.Covering.{MayAsk}
use Rattle.explore_core.specs.declared.plan.Milestone.{Milestone}
use Rattle.explore_core.specs.declared.plan.Step.{Step}
use Rattle.explore_core.specs.Independence.{AreIndependent, Bounds, IsNarrow, IsWithin}
use Rattle.explore_core.specs.Moving.{AllGoBeside, IsPatient}
use Rattle.explore_core.specs.Persistent.{Choice, ChosenStandStill, IsAhead, changes_file, changes_timeline, IsCalm, IsPendingFor, IsHeld, IsHeldByFile, KeepsWithin, StaysAhead, StopsOthers, IsFree}
use Rattle.explore_core.specs.Room.{LeadsForward}
use Rattle.explore_core.specs.Schedule.{Lines, Standing, Schedule, answer_now, is_due, is_taken, lines_of, made_by, next_line, can_be_made, place_by, place_after, after_line, made_line, after_one, Leads}
use Rattle.explore_core.proofs.Covering.{world-with}
use Rattle.explore_core.proofs.Flowing.{within-with}
use Rattle.explore_core.proofs.Leaving.{own, apart, turned, clock-raised, clock-shut, file-made, file-closed, has-same, context-same, names-after}
use Rattle.explore_core.proofs.Moving.{line-made, after-is, go-first}
use Rattle.explore_core.proofs.Scheduling.{Leads-push}

-- what no line ahead changes is the same at both standings, and each client is within its limit
record Stays (plan : Lines) (now : Standing) (choice : Choice) (at : Standing) : Type 0 where
  still : (client : ℕ) → choice.chosen client ≡ true → made_by at client ≡ made_by now client
  from : (client : ℕ) → choice.chosen client ≡ false → made_by now client ≤ made_by at client
  within : (client : ℕ) → choice.chosen client ≡ false → made_by at client ≤ choice.limit client
  names : names_of (world_of now.history).timelines ≡ names_of (world_of at.history).timelines
  files : (name : List ℕ) → ((client place : ℕ) (line : Step) → IsAhead plan now choice client place line → changes_file line.command name ≡ false)
      → file_named (world_of at.history).files name ≡ file_named (world_of now.history).files name
  clocks : (name : List ℕ) → has_timeline (world_of now.history).timelines name ≡ true
      → ((client place : ℕ) (line : Step) → IsAhead plan now choice client place line → changes_timeline line.command name ≡ false)
      → own (world_of at.history).timelines name ≡ own (world_of now.history).timelines name

-- one command

file-kept : (w : World) (c : Command) (name : List ℕ) → changes_file c name ≡ false → file_named (after w c).files name ≡ file_named w.files name
file-kept w (command.Fence f t p) name isnt = sym (file-made w.files _ name isnt)
file-kept w (command.Merge f a b) name isnt = sym (file-made w.files _ name isnt)
file-kept w (command.Export f b flags) name isnt = sym (file-made w.files _ name isnt)
file-kept w (command.Close f) name isnt = sym (file-closed w.files f name isnt)
file-kept w _ name isnt = refl

clock-kept : (w : World) (c : Command) (name : List ℕ) → IsNarrow c → has_timeline w.timelines name ≡ true → changes_timeline c name ≡ false → own (after w c).timelines name ≡ own w.timelines name
clock-kept w (command.Timeline t) name narrow has isnt = absurd narrow
clock-kept w (command.Inc t n) name narrow has isnt = clock-raised w.timelines t name n has ∙ ap (λ b. if b then raised_by n (own w.timelines name) else own w.timelines name) (turned t name isnt)
clock-kept w (command.Shut t) name narrow has isnt = clock-shut w.timelines t name has ∙ ap (λ b. if b then closed_timeline (own w.timelines name) else own w.timelines name) (turned t name isnt)
clock-kept w _ name narrow has isnt = refl

answered-by : (P : World → Type 0) (w : World) (c : Command) (r : Bool) → P w → P (after w c) → P (if r then w else after w c)
answered-by P w c true before behind = before
answered-by P w c false before behind = behind

-- a client's place after a line, or its place before if the list has no number of it
pub set-either : (P : ℕ → Type 0) (xs : List ℕ) (i x : ℕ) → P x → P (get_or xs i 0) → P (get_or (set xs i x) i 0)
set-either P [] i x new old = old
set-either P (y ∷ xs) zero x new old = new
set-either P (y ∷ xs) (suc i) x new old = set-either P xs i x new old

-- a held line stays held

and_false : (a b : Bool) → b ≡ false → (a && b) ≡ false
and_false true b is = is
and_false false b is = refl

refused-by : (h s : Bool) → s ≡ false → is_refused (refused_or (if not h then Some NoEntry else (if not s then Some TimedOut else None)) answer.Done) ≡ true
refused-by true true is = absurd (false≢true (sym is))
refused-by true false is = refl
refused-by false s is = refl

module _ (plan : Lines) (now : Standing) (choice : Choice) (sound : IsSound (world_of now.history)) where
  abbrev ours : World
  ours = world_of now.history

  module _ (at : Standing) (s : Stays plan now choice at) where
    abbrev theirs : World
    theirs = world_of at.history

    -- the point is still pending
    still-pending : (name : List ℕ) (ctx : ℕ) → has_timeline ours.timelines name ≡ true → ctx ≡ context_of ours.timelines name → own theirs.timelines name ≡ own ours.timelines name
        → value_at (reach_of theirs.timelines) ctx ≡ value_at (reach_of ours.timelines) ctx
    still-pending name ctx has of same =
        let clocks : reached_by (clock_named theirs.timelines name) ≡ reached_by (clock_named ours.timelines name) = ap (λ (t : Timeline). reached_by (record { value = t.value; closed = t.closed })) same in
        ap (value_at (reach_of theirs.timelines)) (of ∙ context-same ours.timelines theirs.timelines s.names name)
        ∙ value_at-reach_of_clocks (clocks_of theirs.timelines) (context_of theirs.timelines name)
        ∙ clocks
        ∙ sym (value_at-reach_of_clocks (clocks_of ours.timelines) (context_of ours.timelines name))
        ∙ ap (value_at (reach_of ours.timelines)) (sym of)

    has-kept : (name : List ℕ) → file_named theirs.files name ≡ file_named ours.files name → has_file theirs.files name ≡ has_file ours.files name
    has-kept name is = sym (is_some-named (λ (f : MadeFile). f.name) theirs.files name) ∙ ap is_some is ∙ is_some-named (λ (f : MadeFile). f.name) ours.files name

    put-kept : (name : List ℕ) → file_named theirs.files name ≡ file_named ours.files name → put_set ours.files name ≡ put_set theirs.files name
    put-kept name is = ap (λ o. unwrap_or (option_map (λ (f : MadeFile). f.put) o) []) (sym is)

    unreached : (file : List ℕ) → file_named theirs.files file ≡ file_named ours.files file → IsPendingFor plan now choice file → all_reached (reach_of theirs.timelines) 0 (put_set theirs.files file) ≡ false
    unreached file same p = elim (cases_Bool (all_reached (reach_of theirs.timelines) 0 (put_set theirs.files file))) [
      | inl is ↦
          let point = All-contains (IsFilePoint (length ours.timelines)) (put_set ours.files file) p.entry (put_set-made ours.timelines ours.files file sound.made) p.there in
          let strong : usage_number p.entry.usage ≤ 0 = rw point.usage (omega arith) in
          let there : Contains (put_set theirs.files file) p.entry = subst (λ es. Contains es p.entry) (put-kept file same) p.there in
          let low : p.entry.point.value ≤ value_at (reach_of theirs.timelines) p.entry.point.ctx = (all_reached-IsReached (reach_of theirs.timelines) 0 (put_set theirs.files file)).0 is p.entry there strong in
          let value = still-pending p.timeline p.entry.point.ctx p.has p.of (s.clocks p.timeline p.has p.kept) in
          let high = p.pending in
          absurd (omega (arith, low, value, high))
      | inr isnt ↦ isnt
    ]

    unsignalled-by : (file : List ℕ) → file_named theirs.files file ≡ file_named ours.files file → (has_file ours.files file ≡ false) ⊎ IsPendingFor plan now choice file → is_signalled theirs file ≡ false
    unsignalled-by file same (inl missing) = ap (λ b. b && all_reached (reach_of theirs.timelines) 0 (put_set theirs.files file)) (has-kept file same ∙ missing)
    unsignalled-by file same (inr p) = and_false (has_file theirs.files file) (all_reached (reach_of theirs.timelines) 0 (put_set theirs.files file)) (unreached file same p)

    wait-refused : (c : Command) (file : List ℕ) → c ≡ command.Wait file → is_signalled theirs file ≡ false → is_refused (answer_to theirs c) ≡ true
    wait-refused c file is isnt = ap (λ d. is_refused (answer_to theirs d)) is ∙ refused-by (has_file theirs.files file) (is_signalled theirs file) isnt

    stays-refused : (line : Step) → IsHeldByFile plan now choice line → not (line.waits && is_refused (answer_to theirs line.command)) ≡ false
    stays-refused line h =
        ap (λ b. not (b && is_refused (answer_to theirs line.command))) h.waits
        ∙ ap not (wait-refused line.command h.file h.is (unsignalled-by h.file (s.files h.file h.kept) h.unsignalled))

    stays-before : (o : Option Milestone) → IsSomeAnd o (StaysAhead now choice) → is_due at.made o ≡ false
    stays-before None h = absurd h
    stays-before (Some m) h = le-ltb m.place (made_by at m.client) (elim (cases_Bool (choice.chosen m.client)) [
      | inl chosen ↦ (let still = s.still m.client chosen in let before = h.before in omega (arith, still, before))
      | inr other ↦ (let within = s.within m.client other in let limited = h.limited other in omega (arith, within, limited))
    ])

    -- a held line can't be made
    stays-held : (line : Step) → IsHeld plan now choice line → can_be_made at line ≡ false
    stays-held line (inl h) = ap (λ b. b && not (line.waits && is_refused (answer_to theirs line.command))) (stays-before line.after h)
    stays-held line (inr h) = and_false (is_due at.made line.after) (not (line.waits && is_refused (answer_to theirs line.command))) (stays-refused line h)

  module _ (stops : StopsOthers plan now choice) where
    -- the line of a client that is not chosen is ahead
    is-ahead : (at : Standing) → Stays plan now choice at → (client : ℕ) (line : Step) → choice.chosen client ≡ false → next_line plan at client ≡ Some line → can_be_made at line ≡ true
        → IsAhead plan now choice client (made_by at client) line
    is-ahead at s client line other is can = elim (cases_lt (made_by at client) (choice.limit client)) [
      | inl below ↦ record { other = other; from = s.from client other; below = below; is = is }
      | inr above ↦
          let within = s.within client other in
          let limit : made_by at client ≡ choice.limit client = omega (arith, above, within) in
          let h = stops.held client line other (ap (slice_get (lines_of plan client)) (sym limit) ∙ is) in
          absurd (false≢true (sym (stays-held at s line h) ∙ can))
    ]

    place-within : (client place : ℕ) (line : Step) (given : Answer) → IsAhead plan now choice client place line → (place < place_after line place given) × (place_after line place given ≤ choice.limit client)
    place-within client place line given ahead = by line.branch (stops.forward client place line ahead)
      where
        below : place < choice.limit client
        below = ahead.below

        next : (place < place + 1) × (place + 1 ≤ choice.limit client)
        next = let low = below in (omega arith, omega (arith, low))

        taken : (b : Branching) (r : Bool) → (place < b.otherwise) × (b.otherwise ≤ choice.limit client)
            → (place < (if r then place + 1 else b.otherwise)) × ((if r then place + 1 else b.otherwise) ≤ choice.limit client)
        taken b true forward = next
        taken b false forward = forward

        by : (o : Option Branching) → IfSome o (λ (b : Branching). (place < b.otherwise) × (b.otherwise ≤ choice.limit client))
            → (place < place_by o place given) × (place_by o place given ≤ choice.limit client)
        by None forward = next
        by (Some b) forward = taken b (is_taken b given) forward

    -- one line of a client that is not chosen
    module _ (at : Standing) (s : Stays plan now choice at) (client : ℕ) (line : Step) (other : choice.chosen client ≡ false) (ahead : IsAhead plan now choice client (made_by at client) line) where
      abbrev next_place : ℕ
      next_place = place_after line (made_by at client) (answer_now at.history line.command)

      between : (P : ℕ → ℕ → Type 0) → P client next_place → (k : ℕ) → P k (made_by at k) → P k (made_by (after_line at client line) k)
      between P new k old = elim (eqb_tells k client) [
        | inl same ↦
            subst (λ j. P j (made_by (after_line at client line) j)) (sym same.1) (set-either (P client) at.made client next_place new (subst (λ j. P j (made_by at j)) same.1 old))
        | inr apart ↦ subst (P k) (sym (get_or-set_other at.made client k next_place 0 apart.1)) old
      ]

      stays-after : Stays plan now choice (after_line at client line)
      stays-after =
          let w = world_of at.history in
          let c = line.command in
          let place = place-within client (made_by at client) line (answer_now at.history c) ahead in
          let low : made_by at client < next_place = place.0 in
          let before : made_by now client ≤ made_by at client = s.from client other in
          let narrow = stops.narrow client (made_by at client) line ahead in
          record {
            still = λ k chosen. get_or-set_other at.made client k next_place 0 (λ is. false≢true (sym other ∙ ap choice.chosen (sym is) ∙ chosen)) ∙ s.still k chosen;
            from = λ k isnt. between (λ j i. made_by now j ≤ i) (omega (arith, low, before)) k (s.from k isnt);
            within = λ k isnt. between (λ j i. i ≤ choice.limit j) place.1 k (s.within k isnt);
            names =
                s.names
                ∙ answered-by (λ v. names_of w.timelines ≡ names_of v.timelines) w c (is_refused (answer_to w c)) refl (names-after w c narrow)
                ∙ ap (λ (v : World). names_of v.timelines) (sym (world-with at.history c));
            files = λ name kept.
                ap (λ (v : World). file_named v.files name) (world-with at.history c)
                ∙ answered-by (λ v. file_named v.files name ≡ file_named w.files name) w c (is_refused (answer_to w c)) refl (file-kept w c name (kept client (made_by at client) line ahead))
                ∙ s.files name kept;
            clocks = λ name has kept.
                ap (λ (v : World). own v.timelines name) (world-with at.history c)
                ∙ answered-by (λ v. own v.timelines name ≡ own w.timelines name) w c (is_refused (answer_to w c)) refl
                (clock-kept w c name narrow (sym (has-same (world_of now.history).timelines w.timelines s.names name) ∙ has) (kept client (made_by at client) line ahead))
                ∙ s.clocks name has kept;
          }

    -- along a schedule of such clients
    stay-along : (others : Schedule) (at later : Standing) → Stays plan now choice at → All (λ k. choice.chosen k ≡ false) others → Leads plan at others later → Stays plan now choice later
    stay-along [] at later s unchosen leads = subst (Stays plan now choice) leads s
    stay-along (other ∷ others) at later s unchosen leads =
        let isnt = All-head (λ k. choice.chosen k ≡ false) other others unchosen in
        let l = line-made at other (next_line plan at other) leads.0 leads.1 in
        let ahead = is-ahead at s other l.line isnt l.is l.can in
        stay-along others leads.0 later (subst (Stays plan now choice) l.after (stays-after at s other l.line isnt ahead)) (All-tail (λ k. choice.chosen k ≡ false) other others unchosen) leads.2

    -- along it a free line is independent of each line
    go-beside : (asked : List ℕ → Bool) (bounds : Bounds) → IsCalm plan now → KeepsWithin bounds plan now choice → (others done : Schedule) (at later : Standing) → Leads plan now done at → Stays plan now choice at
        → IsWithin bounds (world_of at.history) → All (λ k. choice.chosen k ≡ false) others → Leads plan at others later → (client : ℕ) (line : Step) → choice.chosen client ≡ true → IsFree asked bounds plan now choice client line
        → AllGoBeside asked bounds plan client line.command at others
    go-beside asked bounds calm kept [] done at later came s within unchosen leads client line chosen free = tt
    go-beside asked bounds calm kept (other ∷ others) done at later came s within unchosen leads client line chosen free =
        let isnt = All-head (λ k. choice.chosen k ≡ false) other others unchosen in
        let l = line-made at other (next_line plan at other) leads.0 leads.1 in
        let ahead = is-ahead at s other l.line isnt l.is l.can in
        let roomy = calm done at came in
        let within' = within-with bounds at.history l.line.command roomy.sound within (kept.ahead other (made_by at other) l.line ahead) in
        let rest = go-beside asked bounds calm kept others (done ++ other ∷ []) leads.0 later (Leads-push plan now done at other leads.0 came leads.1)
        (subst (Stays plan now choice) l.after (stays-after at s other l.line isnt ahead)) (subst (λ (n : Standing). IsWithin bounds (world_of n.history)) l.after within') (All-tail (λ k. choice.chosen k ≡ false) other others unchosen) leads.2 client line chosen free in
        let same : (given : Step) → next_line plan at other ≡ Some given → l.line ≡ given = λ given is. same_Some l.line given (sym l.is ∙ is) in (
          record {
            apart = λ is. false≢true (sym isnt ∙ ap choice.chosen is ∙ chosen);
            roomy = roomy;
            within = within;
            independent = λ given is. subst (λ (t : Step). AreIndependent asked bounds line.command t.command) (same given is) (free.independent other (made_by at other) l.line ahead);
            patient = λ given is. subst (λ (t : Step). IsPatient t.command t.waits) (same given is) (stops.patient other (made_by at other) l.line ahead);
            forward = λ given is.
                subst (LeadsForward (made_by at other)) (same given is) (IfSome_then l.line.branch (stops.forward other (made_by at other) l.line ahead) (λ b between. between.0));
          },
          subst (λ (n : Standing). AllGoBeside asked bounds plan client line.command n others) (sym (after-is plan at other leads.0 leads.1)) rest,
        )

    stays-first : Stays plan now choice now
    stays-first = record {
      still = λ k chosen. refl;
      from = λ k isnt. omega arith;
      within = stops.within;
      names = refl;
      files = λ name kept. refl;
      clocks = λ name has kept. refl;
    }

-- the line of a chosen client is the same
still-next : (plan : Lines) (now : Standing) (choice : Choice) (at : Standing) (client : ℕ) → Stays plan now choice at → choice.chosen client ≡ true → next_line plan at client ≡ next_line plan now client
still-next plan now choice at client s chosen = ap (slice_get (lines_of plan client)) (s.still client chosen)

not-made : (plan : Lines) (at : Standing) (client : ℕ) (line : Step) → next_line plan at client ≡ Some line → can_be_made at line ≡ false → after_one plan at client ≡ None
not-made plan at client line is cannot = ap (made_line at client) is ∙ ap (λ b. if b then Some (after_line at client line) else None) cannot

pub stand-still : {asked : List ℕ → Bool} {bounds : Bounds} {plan : Lines} {now : Standing} {choice : Choice} → MayAsk asked plan → IsCalm plan now → KeepsWithin bounds plan now choice → StopsOthers plan now choice
    → (others : Schedule) (later : Standing) → All (λ k. choice.chosen k ≡ false) others → Leads plan now others later → ChosenStandStill asked bounds plan now choice others later
stand-still {asked} {bounds} {plan} {now} {choice} may calm kept stops others later unchosen leads =
    let sound = (calm [] now refl).sound in
    record {
      free = λ client line chosen is free.
          go-first may client line free.patient bounds others now later is free.can free.forward sound
          (go-beside plan now choice sound stops asked bounds calm kept others [] now later refl (stays-first plan now choice sound stops) kept.pending unchosen leads client line chosen free) leads;
      still = λ client chosen. (stay-along plan now choice sound stops others now later (stays-first plan now choice sound stops) unchosen leads).still client chosen;
      further = λ client isnt.
          let s = stay-along plan now choice sound stops others now later (stays-first plan now choice sound stops) unchosen leads in
          (s.from client isnt, s.within client isnt);
      held = λ client line chosen is held.
          let s = stay-along plan now choice sound stops others now later (stays-first plan now choice sound stops) unchosen leads in
          not-made plan later client line (still-next plan now choice later client s chosen ∙ is) (stays-held plan now choice sound later s line held);
    }
