-- A command is answered alike before and after a command that leaves alone what it depends on.
use Rattle.std.proofs.Common.{◌≡◌, ℕ, ◌+◌, ◌≤◌, ◌^◌, Bool, true, false, not, ◌&&◌, ◌||◌, cond, nat_le, is_some, refl, sym, ap, ◌∙◌, List, [], ◌∷◌, ◌++◌, length, length-append, map, Option, None, Some, option_map, unwrap_or, arith, if◌then◌else◌, inl, inr}
use Rattle.std.specs.List.{position_from}
use Rattle.std.specs.Option.{option_or}
use Rattle.std.specs.Cmp.Lexicographic.{same_text, nat_list_eq_equiv}
use Rattle.std.proofs.lemmas.Bool.{cases_Bool, false≢true, lt-leb, and_parts}
use Rattle.std.specs.Prelude.{All, ⊤}
use Rattle.std.proofs.lemmas.List.Elements.{All-append, All-weaker}
use Rattle.std.proofs.lemmas.Option.{same_Some}
use Rattle.point_core.specs.declared.entry.Entry.{Entry}
use Rattle.point_core.specs.declared.refusal.Refusal.{Refusal}
use Rattle.point_core.specs.declared.refusal.Refusal.TheVariants.{NoEntry, Overflow, TimedOut, Cancelled as AlreadyClosed}
use Rattle.point_core.specs.Agreement.{all_reached, point_of}
use Rattle.point_core.specs.Named.{same_name, named}
use Rattle.point_core.specs.Usage.{usage_number}
use Rattle.point_core.specs.Reach.{IsAtLeast}
use Rattle.point_core.proofs.Named.{is_some-named, has_named-same_names}
use Rattle.point_core.proofs.Reached.{all_reached-IsReached}
use Rattle.point_core.proofs.Values.{IsAtLeast-refl}
use Rattle.resv_core.specs.Resv.{entry_of}
use Rattle.dmabuf_core.specs.Flags.{imported}
use Rattle.syncfile_core.specs.declared.files.TheConstants.{FILES}
use Rattle.timeline_core.specs.Timeline.{Timeline, timeline_of, names_of, has_timeline, context_of, reach_of, clock_named, value_of, is_closed, raised, shut, is_named, raised_by, closed_timeline}
use Rattle.timeline_core.proofs.Lookups.{position_from-names_of}
use Rattle.timeline_core.proofs.Places.{timeline_at-clock_named}
use Rattle.timeline_core.proofs.Raising.{clocks_of-raised, clocks_of-shut, is_closed-open, names_of-raised, names_of-shut, value_at-open}
use Rattle.command_core.specs.declared.command.Command.{Command}
use Rattle.command_core.specs.declared.command.Command.TheVariants as command
use Rattle.command_core.specs.declared.answer.Answer.{Answer}
use Rattle.command_core.specs.declared.answer.Answer.TheVariants as answer
use Rattle.desk_core.specs.theorem.World.{World, MadeFile, MadeBuffer, after, has_file, file_named, files_without, put_set, has_made_buffer, buffer_put_set, put_into, fired_watches, shut_watches, cookies_of}
use Rattle.desk_core.specs.theorem.Answer.{answer_to, causes, cause, first_of, is_signalled, refused_or, info_reported, listed_points}
use Rattle.desk_core.specs.Sound.{IsSound, IsFilePoint, IsOfMade}
use Rattle.desk_core.proofs.Buffers.{names-put_into, buffer_put_set-other, buffer_put_set-All}
use Rattle.desk_core.proofs.Sound.{IsAtLeast-raised, IsAtLeast-shut, first_of-none, not-false, causes-accepted, context_of-made}
use Rattle.desk_core.proofs.Keeping.{put_set-made}
use Rattle.explore_core.specs.Independence.{AreReached, Bounds, IsNarrow, IsRoomy, IsWithin, LeavesAlone, Passes, reads_buffer, reads_file, reads_open, reads_reach, reads_value}
use Rattle.explore_core.proofs.Reaching.{IsSeenSame, AreSeenSame, listed-seen, same-all_reached, same-cancelled, same-fences, same-show_rows, seen-all, seen-itself}
use Rattle.explore_core.proofs.Naming.{named-push, named-without_named, length-without_named}

-- names

pub itself : (name : List ℕ) → same_name name name ≡ true
itself name = nat_list_eq_equiv.refl name

-- what tells two names apart
pub apart : (test : List ℕ → Bool) (a b : List ℕ) → test a ≡ false → test b ≡ true → same_name a b ≡ false
apart test a b isnt is = elim (cases_Bool (same_name a b)) [
  | inl same ↦ absurd (false≢true (sym isnt ∙ ap test (same_text a b (sym same)) ∙ is))
  | inr other ↦ other
]

pub turned : (a b : List ℕ) → same_name a b ≡ false → same_name b a ≡ false
turned a b isnt = nat_list_eq_equiv.symm b a ∙ isnt

-- one timeline changes

module _ {X : Type 0} (name_of : X → List ℕ) (f : X → X) (keeps : (x : X) → name_of (f x) ≡ name_of x) where
  found-map : (b : Bool) (x : X) (o p : Option X) → p ≡ option_map f o → cond b (Some (f x)) p ≡ option_map f (cond b (Some x) o)
  found-map true x o p is = refl
  found-map false x o p is = is

  named-map : (xs : List X) (name : List ℕ) → named name_of (map f xs) name ≡ option_map f (named name_of xs name)
  named-map [] name = refl
  named-map (x ∷ xs) name =
      ap (λ n. cond (same_name n name) (Some (f x)) (named name_of (map f xs) name)) (keeps x)
      ∙ found-map (same_name (name_of x) name) x (named name_of xs name) (named name_of (map f xs) name) (named-map xs name)

pub has-same : (ts us : List Timeline) → names_of ts ≡ names_of us → (name : List ℕ) → has_timeline ts name ≡ has_timeline us name
has-same ts us names name = has_named-same_names (λ (t : Timeline). t.name) (λ (t : Timeline). t.name) ts us name names

pub context-same : (ts us : List Timeline) → names_of ts ≡ names_of us → (name : List ℕ) → context_of ts name ≡ context_of us name
context-same ts us names name =
    ap (λ o. unwrap_or o 0) (sym (position_from-names_of ts name 1) ∙ ap (position_from (same_name name) 1) names ∙ position_from-names_of us name 1)

name-if : (b : Bool) (t u : Timeline) → u.name ≡ t.name → (if b then u else t).name ≡ t.name
name-if true t u is = is
name-if false t u is = refl

value-if : (b : Bool) (t u : Timeline) → u.value ≡ t.value → (if b then u else t).value ≡ t.value
value-if true t u is = is
value-if false t u is = refl

closed-if : (b : Bool) (t u : Timeline) → u.closed ≡ t.closed → (if b then u else t).closed ≡ t.closed
closed-if true t u is = is
closed-if false t u is = refl

-- the clock of a name, if no timeline has got another name
clock-changed : (f : Timeline → Timeline) → ((t : Timeline) → (f t).name ≡ t.name) → (ts : List Timeline) → names_of (map f ts) ≡ names_of ts → (name : List ℕ) → has_timeline ts name ≡ true
    → timeline_of name (clock_named (map f ts) name) ≡ f (timeline_of name (clock_named ts name))
clock-changed f keeps ts names name has =
    same_Some (timeline_of name (clock_named (map f ts) name)) (f (timeline_of name (clock_named ts name)))
    (sym (timeline_at-clock_named (map f ts) name (has-same (map f ts) ts names name ∙ has))
    ∙ named-map (λ (t : Timeline). t.name) f keeps ts name
    ∙ ap (option_map f) (timeline_at-clock_named ts name has))

abbrev pub own : List Timeline → List ℕ → Timeline
own ts name = timeline_of name (clock_named ts name)

module _ (ts : List Timeline) (name other : List ℕ) where
  pub clock-raised : (n : ℕ) → has_timeline ts other ≡ true → own (raised ts name n) other ≡ (if same_name other name then raised_by n (own ts other) else own ts other)
  clock-raised n has =
      clock-changed (λ t. if is_named name t then raised_by n t else t) (λ t. name-if (is_named name t) t (raised_by n t) refl) ts (names_of-raised ts name n) other has

  pub clock-shut : has_timeline ts other ≡ true → own (shut ts name) other ≡ (if same_name other name then closed_timeline (own ts other) else own ts other)
  clock-shut has =
      clock-changed (λ t. if is_named name t then closed_timeline t else t) (λ t. name-if (is_named name t) t (closed_timeline t) refl) ts (names_of-shut ts name) other has

  value-raised : (n : ℕ) → has_timeline ts other ≡ true → same_name name other ≡ false → value_of (raised ts name n) other ≡ value_of ts other
  value-raised n has isnt =
      ap (λ (t : Timeline). t.value) (clock-raised n has)
      ∙ ap (λ b. (if b then raised_by n (own ts other) else own ts other).value) (turned name other isnt)

  value-shut : has_timeline ts other ≡ true → value_of (shut ts name) other ≡ value_of ts other
  value-shut has = ap (λ (t : Timeline). t.value) (clock-shut has) ∙ value-if (same_name other name) (own ts other) (closed_timeline (own ts other)) refl

  closed-by : (h k : Bool) (l l' : Bool) → k ≡ h → (h ≡ true → l' ≡ l) → (k && l') ≡ (h && l)
  closed-by true true l l' is same = same refl
  closed-by false false l l' is same = refl
  closed-by true false l l' is same = absurd (false≢true is)
  closed-by false true l l' is same = absurd (false≢true (sym is))

  closed-raised : (n : ℕ) → is_closed (raised ts name n) other ≡ is_closed ts other
  closed-raised n =
      closed-by (has_timeline ts other) (has_timeline (raised ts name n) other) (own ts other).closed (own (raised ts name n) other).closed (has-same (raised ts name n) ts (names_of-raised ts name n) other)
      (λ has. ap (λ (t : Timeline). t.closed) (clock-raised n has) ∙ closed-if (same_name other name) (own ts other) (raised_by n (own ts other)) refl)

  closed-shut : same_name name other ≡ false → is_closed (shut ts name) other ≡ is_closed ts other
  closed-shut isnt =
      closed-by (has_timeline ts other) (has_timeline (shut ts name) other) (own ts other).closed (own (shut ts name) other).closed (has-same (shut ts name) ts (names_of-shut ts name) other)
      (λ has. ap (λ (t : Timeline). t.closed) (clock-shut has) ∙ ap (λ b. (if b then closed_timeline (own ts other) else own ts other).closed) (turned name other isnt))

value-risen : (ts : List Timeline) (name : List ℕ) (n : ℕ) → has_timeline ts name ≡ true → value_of (raised ts name n) name ≡ value_of ts name + n
value-risen ts name n has =
    ap (λ (t : Timeline). t.value) (clock-raised ts name name n has) ∙ ap (λ b. (if b then raised_by n (own ts name) else own ts name).value) (itself name)

-- what a command depends on is the same in both worlds

abbrev name_of : MadeFile → List ℕ
name_of f = f.name

abbrev buffer_name : MadeBuffer → List ℕ
buffer_name b = b.name

-- the points that a command shows are seen alike
abbrev pub SeesSame : (List ℕ → Bool) → World → List Timeline → Command → Type 0
SeesSame asked w us (command.Merge f a b) = asked f ≡ true → AreSeenSame w.timelines us (put_set w.files a ++ put_set w.files b)
SeesSame asked w us (command.Export f b flags) = asked f ≡ true → AreSeenSame w.timelines us (buffer_put_set w.buffers b)
SeesSame asked w us (command.Info f) = AreSeenSame w.timelines us (put_set w.files f)
SeesSame asked w us (command.Test b u) = AreSeenSame w.timelines us (buffer_put_set w.buffers b)
SeesSame asked w us (command.Show b) = AreSeenSame w.timelines us (buffer_put_set w.buffers b)
SeesSame asked w us _ = ⊤

sees-itself : (asked : List ℕ → Bool) (w : World) (c : Command) → SeesSame asked w w.timelines c
sees-itself asked w (command.Merge f a b) = λ is. seen-itself w.timelines (put_set w.files a ++ put_set w.files b)
sees-itself asked w (command.Export f b flags) = λ is. seen-itself w.timelines (buffer_put_set w.buffers b)
sees-itself asked w (command.Info f) = seen-itself w.timelines (put_set w.files f)
sees-itself asked w (command.Test b u) = seen-itself w.timelines (buffer_put_set w.buffers b)
sees-itself asked w (command.Show b) = seen-itself w.timelines (buffer_put_set w.buffers b)
sees-itself asked w _ = tt

pub record FindsSame (asked : List ℕ → Bool) (c : Command) (w v : World) : Type 0 where
  pub names : names_of w.timelines ≡ names_of v.timelines
  pub buffer_names : map buffer_name w.buffers ≡ map buffer_name v.buffers
  pub value : (t : List ℕ) → reads_value c t ≡ true → has_timeline w.timelines t ≡ true → value_of w.timelines t ≡ value_of v.timelines t
  pub closed : (t : List ℕ) → reads_open c t ≡ true → is_closed w.timelines t ≡ is_closed v.timelines t
  pub seen : SeesSame asked w v.timelines c
  pub rises : IsAtLeast (reach_of v.timelines) (reach_of w.timelines)
  pub file : (f : List ℕ) → reads_file c f ≡ true → file_named w.files f ≡ file_named v.files f
  pub buffer : (b : List ℕ) → reads_buffer c b ≡ true → buffer_put_set w.buffers b ≡ buffer_put_set v.buffers b
  pub room : nat_le FILES (length w.files) ≡ nat_le FILES (length v.files)
  pub watches : w.watches ≡ []
  pub watches_later : v.watches ≡ []

pub finds-itself : (asked : List ℕ → Bool) (c : Command) (w : World) → w.watches ≡ [] → FindsSame asked c w w
finds-itself asked c w watches = record {
  names = refl;
  buffer_names = refl;
  value = λ t is has. refl;
  closed = λ t is. refl;
  seen = sees-itself asked w c;
  rises = IsAtLeast-refl (reach_of w.timelines);
  file = λ f is. refl;
  buffer = λ b is. refl;
  room = refl;
  watches = watches;
  watches_later = watches;
}

and_rest : (a b : Bool) → (a && b) ≡ false → a ≡ true → b ≡ false
and_rest true b isnt is = isnt
and_rest false b isnt is = absurd (false≢true is)

or_neither : (a b : Bool) → (a || b) ≡ false → (a ≡ false) × (b ≡ false)
or_neither true b isnt = absurd (false≢true (sym isnt))
or_neither false b isnt = (refl, isnt)

pub or_true : (a b : Bool) → b ≡ true → (a || b) ≡ true
or_true true b is = refl
or_true false b is = is

pub or_first : (a b : Bool) → a ≡ true → (a || b) ≡ true
or_first true b is = refl
or_first false b is = absurd (false≢true is)

-- an answer depends on a number only if the name is there
or_missing : (has : Bool) (rest : ℕ → Option Refusal) (report : ℕ → Answer) (x y : ℕ) → (has ≡ true → x ≡ y)
    → refused_or (if not has then Some NoEntry else rest x) (report x) ≡ refused_or (if not has then Some NoEntry else rest y) (report y)
or_missing true rest report x y same = ap (λ k. refused_or (rest k) (report k)) (same refl)
or_missing false rest report x y same = refl

module _ {asked : List ℕ → Bool} {c : Command} {w v : World} (s : FindsSame asked c w v) where
  same-timeline : (name : List ℕ) → has_timeline w.timelines name ≡ has_timeline v.timelines name
  same-timeline name = has-same w.timelines v.timelines s.names name

  pub same-context : (name : List ℕ) → context_of w.timelines name ≡ context_of v.timelines name
  same-context name = context-same w.timelines v.timelines s.names name

  same-buffer : (name : List ℕ) → has_made_buffer w.buffers name ≡ has_made_buffer v.buffers name
  same-buffer name = has_named-same_names buffer_name buffer_name w.buffers v.buffers name s.buffer_names

  same-file : (name : List ℕ) → reads_file c name ≡ true → has_file w.files name ≡ has_file v.files name
  same-file name reads = sym (is_some-named name_of w.files name) ∙ ap is_some (s.file name reads) ∙ is_some-named name_of v.files name

  pub same-put_set : (name : List ℕ) → reads_file c name ≡ true → put_set w.files name ≡ put_set v.files name
  same-put_set name reads = ap (λ o. unwrap_or (option_map (λ (f : MadeFile). f.put) o) []) (s.file name reads)

-- a `wait` that is accepted stays accepted

still-reached : {later reach : List ℕ} (es : List Entry) → IsAtLeast later reach → all_reached reach 0 es ≡ true → all_reached later 0 es ≡ true
still-reached {later} {reach} es rises is =
    let reached = (all_reached-IsReached reach 0 es).0 is in
    (all_reached-IsReached later 0 es).1 (λ e among strong. let low = reached e among strong in let up = rises.values e.point.ctx in omega arith)

still-waits : {asked : List ℕ → Bool} (f : List ℕ) {w v : World} → FindsSame asked (command.Wait f) w v → Passes w (command.Wait f) → answer_to w (command.Wait f) ≡ answer_to v (command.Wait f)
still-waits f {w} {v} s passes =
    let there = first_of-none (not (has_file w.files f)) NoEntry (cause (not (is_signalled w f)) TimedOut ∷ []) (causes-accepted w (command.Wait f) passes) in
    let has = not-false (has_file w.files f) there.0 in
    let signalled = not-false (is_signalled w f) (first_of-none (not (is_signalled w f)) TimedOut [] there.1).0 in
    let reached = (and_parts (has_file w.files f) (all_reached (reach_of w.timelines) 0 (put_set w.files f)) signalled).1 in
    let later = still-reached (put_set w.files f) s.rises reached in
    rw (sym (same-put_set s f (itself f)), sym (same-file s f (itself f)), has, reached, later) refl

-- what `info` reports

same-info : (w v : World) (name : List ℕ) (o : Option MadeFile) → names_of w.timelines ≡ names_of v.timelines
    → AreSeenSame w.timelines v.timelines (unwrap_or (option_map (λ (f : MadeFile). f.put) o) []) → info_reported w name o ≡ info_reported v name o
same-info w v name None names seen = refl
same-info w v name (Some f) names seen =
    let listed = listed-seen w.timelines v.timelines f seen in
    rw (same-all_reached w.timelines v.timelines 0 f.put seen, same-cancelled w.timelines v.timelines (listed_points f) listed, same-fences w.timelines v.timelines names (listed_points f) listed) refl

-- so is the answer

pub same-answer : {asked : List ℕ → Bool} (c : Command) {w v : World} → IsNarrow c → Passes w c → FindsSame asked c w v → answer_to w c ≡ answer_to v c
same-answer (command.Timeline t) narrow passes s = absurd narrow
same-answer (command.Buffer b) narrow passes s = absurd narrow
same-answer (command.Watch f cookie) narrow passes s = absurd narrow
same-answer (command.Unwatch cookie) narrow passes s = absurd narrow
same-answer command.Report narrow passes s = absurd narrow
same-answer (command.Inc t n) {w} {v} narrow passes s =
    or_missing (has_timeline w.timelines t)
    (λ k. first_of (cause (is_closed w.timelines t) AlreadyClosed ∷ cause (nat_le (2 ^ 64) (k + n)) Overflow ∷ []))
    (λ k. answer.Raised (k + n) (cookies_of (fired_watches w t n))) (value_of w.timelines t) (value_of v.timelines t) (s.value t (itself t))
    ∙ rw (s.closed t (itself t), same-timeline s t, s.watches, s.watches_later) refl
same-answer (command.Value t) {w} {v} narrow passes s =
    or_missing (has_timeline w.timelines t) (λ k. None) (λ k. answer.Value k) (value_of w.timelines t) (value_of v.timelines t) (s.value t (itself t))
    ∙ rw (same-timeline s t) refl
same-answer (command.Shut t) {w} {v} narrow passes s =
    or_missing (has_timeline w.timelines t) (λ k. first_of (cause (is_closed w.timelines t) AlreadyClosed ∷ []))
    (λ k. answer.Raised k (cookies_of (shut_watches w t))) (value_of w.timelines t) (value_of v.timelines t) (s.value t (itself t))
    ∙ rw (s.closed t (itself t), same-timeline s t, s.watches, s.watches_later) refl
same-answer (command.Fence f t p) narrow passes s = rw (s.closed t (itself t), same-timeline s t, same-file s f (itself f), s.room) refl
same-answer (command.Merge f a b) narrow passes s =
    let reads-a = or_true (same_name f a) (same_name a a || same_name b a) (or_first (same_name a a) (same_name b a) (itself a)) in
    let reads-b = or_true (same_name f b) (same_name a b || same_name b b) (or_true (same_name a b) (same_name b b) (itself b)) in
    let reads-f = or_first (same_name f f) (same_name a f || same_name b f) (itself f) in
    rw (same-file s a reads-a, same-file s b reads-b, same-file s f reads-f, s.room) refl
same-answer (command.Close f) narrow passes s = rw (same-file s f (itself f)) refl
same-answer (command.Wait f) narrow passes s = still-waits f s passes
same-answer (command.Info f) {w} {v} narrow passes s =
    ap (λ a. refused_or (first_of (cause (not (has_file w.files f)) NoEntry ∷ [])) a) (same-info w v f (file_named w.files f) s.names s.seen)
    ∙ rw (same-file s f (itself f), s.file f (itself f)) refl
same-answer (command.Add b t p u) narrow passes s = rw (same-buffer s b, same-timeline s t) refl
same-answer (command.Import b f flags) narrow passes s = rw (same-buffer s b, same-file s f (itself f)) refl
same-answer (command.Export f b flags) narrow passes s = rw (same-buffer s b, same-file s f (itself f), s.room) refl
same-answer (command.Test b u) {w} {v} narrow passes s =
    rw (same-all_reached w.timelines v.timelines (usage_number u) (buffer_put_set w.buffers b) s.seen, same-buffer s b, s.buffer b (itself b)) refl
same-answer (command.Trim b) narrow passes s = rw (same-buffer s b) refl
same-answer (command.Show b) {w} {v} narrow passes s =
    rw (same-show_rows w.timelines v.timelines s.names (buffer_put_set w.buffers b) s.seen, same-buffer s b, s.buffer b (itself b)) refl

-- what a command leaves alone is the same after it

or-none : (o : Option MadeFile) → option_or o None ≡ o
or-none None = refl
or-none (Some f) = refl

pub file-made : (fs : List MadeFile) (g : MadeFile) (name : List ℕ) → same_name g.name name ≡ false → file_named fs name ≡ file_named (fs ++ g ∷ []) name
file-made fs g name isnt =
    sym (or-none (file_named fs name)) ∙ ap (λ b. option_or (file_named fs name) (cond b (Some g) None)) (sym isnt) ∙ sym (named-push name_of fs g name)

pub file-closed : (fs : List MadeFile) (f name : List ℕ) → same_name f name ≡ false → file_named fs name ≡ file_named (files_without fs f) name
file-closed fs f name isnt = ap (λ b. cond b None (file_named fs name)) (sym isnt) ∙ sym (named-without_named name_of fs f name)

put-elsewhere : (bs : List MadeBuffer) (b other : List ℕ) (es : List Entry) → same_name b other ≡ false → buffer_put_set bs other ≡ buffer_put_set (put_into bs b es) other
put-elsewhere bs b other es isnt = sym (buffer_put_set-other bs b other es (λ is. false≢true (sym isnt ∙ ap (same_name b) is ∙ itself b)))

module _ (w : World) where
  pub names-after : (d : Command) → IsNarrow d → names_of w.timelines ≡ names_of (after w d).timelines
  names-after (command.Timeline t) narrow = absurd narrow
  names-after (command.Inc t n) narrow = sym (names_of-raised w.timelines t n)
  names-after (command.Shut t) narrow = sym (names_of-shut w.timelines t)
  names-after _ narrow = refl

  pub buffer_names-after : (d : Command) → IsNarrow d → map buffer_name w.buffers ≡ map buffer_name (after w d).buffers
  buffer_names-after (command.Buffer b) narrow = absurd narrow
  buffer_names-after (command.Add b t p u) narrow = sym (names-put_into w.buffers b (entry_of (point_of (context_of w.timelines t) p) u ∷ []))
  buffer_names-after (command.Import b f flags) narrow = sym (names-put_into w.buffers b (imported flags (put_set w.files f)))
  buffer_names-after _ narrow = refl

  pub watches-after : (d : Command) → IsNarrow d → w.watches ≡ [] → (after w d).watches ≡ []
  watches-after (command.Inc t n) narrow none = rw none refl
  watches-after (command.Shut t) narrow none = rw none refl
  watches-after (command.Watch f cookie) narrow none = absurd narrow
  watches-after (command.Unwatch cookie) narrow none = absurd narrow
  watches-after _ narrow none = none

  files-after : (d : Command) → length (after w d).files ≤ length w.files + 1
  files-after (command.Fence f t p) = omega (arith, length-append {A = MadeFile})
  files-after (command.Merge f a b) = omega (arith, length-append {A = MadeFile})
  files-after (command.Export f b flags) = omega (arith, length-append {A = MadeFile})
  files-after (command.Close f) = omega (arith, length-without_named name_of w.files f)
  files-after _ = omega arith

  room-after : (d : Command) → length w.files + 2 ≤ FILES → nat_le FILES (length w.files) ≡ nat_le FILES (length (after w d).files)
  room-after d room =
      let more : length (after w d).files ≤ length w.files + 1 = files-after d in
      lt-leb FILES (length w.files) (omega (arith, room)) ∙ sym (lt-leb FILES (length (after w d).files) (omega (arith, room, more)))

  rises-after : (d : Command) → IsNarrow d → IsSound w → IsAtLeast (reach_of (after w d).timelines) (reach_of w.timelines)
  rises-after (command.Timeline t) narrow sound = absurd narrow
  rises-after (command.Inc t n) narrow sound = IsAtLeast-raised w.timelines t n
  rises-after (command.Shut t) narrow sound = IsAtLeast-shut w.timelines t sound.values
  rises-after _ narrow sound = IsAtLeast-refl (reach_of w.timelines)

  module _ (asked : List ℕ → Bool) (bounds : Bounds) (c : Command) where
    value-after : (d : Command) → IsNarrow d → LeavesAlone asked bounds d c → (t : List ℕ) → reads_value c t ≡ true → has_timeline w.timelines t ≡ true → value_of w.timelines t ≡ value_of (after w d).timelines t
    value-after (command.Timeline x) narrow leaves t reads has = absurd narrow
    value-after (command.Inc x n) narrow leaves t reads has = sym (value-raised w.timelines x t n has (apart (reads_value c) x t leaves.0 reads))
    value-after (command.Shut x) narrow leaves t reads has = sym (value-shut w.timelines x t has)
    value-after _ narrow leaves t reads has = refl

    closed-after : (d : Command) → IsNarrow d → LeavesAlone asked bounds d c → (t : List ℕ) → reads_open c t ≡ true → is_closed w.timelines t ≡ is_closed (after w d).timelines t
    closed-after (command.Timeline x) narrow leaves t reads = absurd narrow
    closed-after (command.Inc x n) narrow leaves t reads = sym (closed-raised w.timelines x t n)
    closed-after (command.Shut x) narrow leaves t reads = sym (closed-shut w.timelines x t (apart (reads_open c) x t leaves.0 reads))
    closed-after _ narrow leaves t reads = refl

    file-after : (d : Command) → LeavesAlone asked bounds d c → (f : List ℕ) → reads_file c f ≡ true → file_named w.files f ≡ file_named (after w d).files f
    file-after (command.Fence g t p) leaves f reads = file-made w.files _ f (apart (reads_file c) g f leaves reads)
    file-after (command.Merge g a b) leaves f reads = file-made w.files _ f (apart (reads_file c) g f leaves reads)
    file-after (command.Export g b flags) leaves f reads = file-made w.files _ f (apart (reads_file c) g f leaves reads)
    file-after (command.Close g) leaves f reads = file-closed w.files g f (apart (reads_file c) g f leaves reads)
    file-after _ leaves f reads = refl

    buffer-after : (d : Command) → IsNarrow d → LeavesAlone asked bounds d c → (b : List ℕ) → reads_buffer c b ≡ true → buffer_put_set w.buffers b ≡ buffer_put_set (after w d).buffers b
    buffer-after (command.Buffer a) narrow leaves b reads = absurd narrow
    buffer-after (command.Add a t p u) narrow leaves b reads = put-elsewhere w.buffers a b _ (apart (reads_buffer c) a b leaves reads)
    buffer-after (command.Import a f flags) narrow leaves b reads = put-elsewhere w.buffers a b _ (apart (reads_buffer c) a b leaves reads)
    buffer-after _ narrow leaves b reads = refl

    module _ (roomy : IsRoomy w) (within : IsWithin bounds w) where
      files-known : (f : List ℕ) → All (λ (e : Entry). 1 ≤ e.point.ctx) (put_set w.files f)
      files-known f =
          All-weaker (IsFilePoint (length w.timelines)) (λ (e : Entry). 1 ≤ e.point.ctx) (λ e point. point.timeline.0) (put_set w.files f) (put_set-made w.timelines w.files f roomy.sound.made)

      buffers-known : (b : List ℕ) → All (λ (e : Entry). 1 ≤ e.point.ctx) (buffer_put_set w.buffers b)
      buffers-known b =
          All-weaker (IsOfMade (length w.timelines)) (λ (e : Entry). 1 ≤ e.point.ctx) (λ e made. made.0) (buffer_put_set w.buffers b)
          (buffer_put_set-All (IsOfMade (length w.timelines)) w.buffers b roomy.sound.buffers)

      module _ (us : List Timeline) (name : List ℕ)
          (all : (es : List Entry) → All (λ (e : Entry). 1 ≤ e.point.ctx) es → AreReached (reach_of w.timelines) es (context_of w.timelines name) → AreSeenSame w.timelines us es) where
        seen-file : (f : List ℕ) → bounds.file f name ≡ false → AreSeenSame w.timelines us (put_set w.files f)
        seen-file f isnt = all (put_set w.files f) (files-known f) (within.files f name isnt)

        seen-buffer : (b : List ℕ) → bounds.buffer b name ≡ false → AreSeenSame w.timelines us (buffer_put_set w.buffers b)
        seen-buffer b isnt = all (buffer_put_set w.buffers b) (buffers-known b) (within.buffers b name isnt)

        sees-by : (e : Command) → reads_reach asked bounds e name ≡ false → SeesSame asked w us e
        sees-by (command.Merge f a b) isnt = λ is.
            let neither = or_neither (bounds.file a name) (bounds.file b name) (and_rest (asked f) (bounds.file a name || bounds.file b name) isnt is) in
            All-append (λ (e : Entry). IsSeenSame w.timelines us e.point) (put_set w.files a) (put_set w.files b) (seen-file a neither.0) (seen-file b neither.1)
        sees-by (command.Export f b flags) isnt = λ is. seen-buffer b (and_rest (asked f) (bounds.buffer b name) isnt is)
        sees-by (command.Info f) isnt = seen-file f isnt
        sees-by (command.Test b u) isnt = seen-buffer b isnt
        sees-by (command.Show b) isnt = seen-buffer b isnt
        sees-by _ isnt = tt

      seen-raised : (t : List ℕ) (n : ℕ) → first_of (causes w (command.Inc t n)) ≡ None → (es : List Entry)
          → All (λ (e : Entry). 1 ≤ e.point.ctx) es → AreReached (reach_of w.timelines) es (context_of w.timelines t) → AreSeenSame w.timelines (raised w.timelines t n) es
      seen-raised t n made es known reached =
          let there = first_of-none (not (has_timeline w.timelines t)) NoEntry (cause (is_closed w.timelines t) AlreadyClosed ∷ cause (nat_le (2 ^ 64) (value_of w.timelines t + n)) Overflow ∷ []) made in
          let has = not-false (has_timeline w.timelines t) there.0 in
          let isnt = (first_of-none (is_closed w.timelines t) AlreadyClosed (cause (nat_le (2 ^ 64) (value_of w.timelines t + n)) Overflow ∷ []) there.1).0 in
          let higher : value_of (raised w.timelines t n) t ≡ value_of w.timelines t + n = value-risen w.timelines t n has in
          seen-all w.timelines (raised w.timelines t n) t _ (clocks_of-raised w.timelines t n roomy.sound.timelines has)
          (context-same w.timelines (raised w.timelines t n) (sym (names_of-raised w.timelines t n)) t) (IsAtLeast-raised w.timelines t n) (omega (arith, higher))
          (value_at-open w.timelines t (sym (is_closed-open w.timelines t has) ∙ isnt)) es (context_of-made w.timelines t has).0 known reached

      seen-shut : (t : List ℕ) → first_of (causes w (command.Shut t)) ≡ None → (es : List Entry)
          → All (λ (e : Entry). 1 ≤ e.point.ctx) es → AreReached (reach_of w.timelines) es (context_of w.timelines t) → AreSeenSame w.timelines (shut w.timelines t) es
      seen-shut t made es known reached =
          let there = first_of-none (not (has_timeline w.timelines t)) NoEntry (cause (is_closed w.timelines t) AlreadyClosed ∷ []) made in
          let has = not-false (has_timeline w.timelines t) there.0 in
          let isnt = (first_of-none (is_closed w.timelines t) AlreadyClosed [] there.1).0 in
          let same : value_of (shut w.timelines t) t ≡ value_of w.timelines t = value-shut w.timelines t t has in
          seen-all w.timelines (shut w.timelines t) t _ (clocks_of-shut w.timelines t roomy.sound.timelines has)
          (context-same w.timelines (shut w.timelines t) (sym (names_of-shut w.timelines t)) t) (IsAtLeast-shut w.timelines t roomy.sound.values) (omega (arith, same))
          (value_at-open w.timelines t (sym (is_closed-open w.timelines t has) ∙ isnt)) es (context_of-made w.timelines t has).0 known reached

      sees-after : (d : Command) → IsNarrow d → LeavesAlone asked bounds d c → first_of (causes w d) ≡ None → SeesSame asked w (after w d).timelines c
      sees-after (command.Timeline t) narrow leaves made = absurd narrow
      sees-after (command.Inc t n) narrow leaves made = sees-by (raised w.timelines t n) t (seen-raised t n made) c leaves.1
      sees-after (command.Shut t) narrow leaves made = sees-by (shut w.timelines t) t (seen-shut t made) c leaves.1
      sees-after _ narrow leaves made = sees-itself asked w c

      pub finds-after : (d : Command) → IsNarrow d → LeavesAlone asked bounds d c → first_of (causes w d) ≡ None → FindsSame asked c w (after w d)
      finds-after d narrow leaves made = record {
        names = names-after d narrow;
        buffer_names = buffer_names-after d narrow;
        value = value-after d narrow leaves;
        closed = closed-after d narrow leaves;
        seen = sees-after d narrow leaves made;
        rises = rises-after d narrow roomy.sound;
        file = file-after d leaves;
        buffer = buffer-after d narrow leaves;
        room = room-after d roomy.files;
        watches = roomy.watches;
        watches_later = watches-after d narrow roomy.watches;
      }
