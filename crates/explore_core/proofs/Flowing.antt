-- What commands put into files and buffers stays within bounds.
use Rattle.std.proofs.Common.{◌≡◌, ℕ, ◌+◌, ◌<◌, ◌≤◌, Bool, true, false, not, ◌&&◌, cond, refl, sym, ap, ◌∙◌, subst, List, [], ◌∷◌, ◌++◌, length, filter, slice_get, Option, None, Some, option_map, unwrap_or, arith, if◌then◌else◌, inl, inr}
use Rattle.std.specs.Prelude.{All, Contains}
use Rattle.std.specs.List.{position_from}
use Rattle.std.specs.Option.{option_or}
use Rattle.std.specs.Cmp.Lexicographic.{same_text}
use Rattle.std.proofs.lemmas.Bool.{cases_Bool, false≢true, and_parts}
use Rattle.std.proofs.lemmas.List.Elements.{All-nil, All-cons, All-append, All-map, All-filter, All-weaker, All-contains, All-contains_itself}
use Rattle.std.proofs.lemmas.Option.{same_Some}
use Rattle.point_core.specs.declared.context.TheConstants.{CONTEXTS}
use Rattle.point_core.specs.declared.entry.Entry.{Entry}
use Rattle.point_core.specs.declared.refusal.Refusal.TheVariants.{NoEntry, Exists, Limit, Flags, Cancelled as AlreadyClosed}
use Rattle.point_core.specs.declared.refusal.LimitKind.TheVariants.{Timelines}
use Rattle.std.proofs.Common.{nat_le}
use Rattle.std.proofs.lemmas.Bool.{leb-false}
use Rattle.point_core.specs.Agreement.{as_entry, point_of}
use Rattle.point_core.specs.Named.{same_name}
use Rattle.point_core.specs.Reach.{IsAtLeast, value_at}
use Rattle.resv_core.specs.Resv.{entry_of}
use Rattle.dmabuf_core.specs.Flags.{imported, export_usage, import_usage, is_sync_flags, is_within, at_strongest, with_usage}
use Rattle.timeline_core.specs.Timeline.{Timeline, new_timeline, names_of, has_timeline, context_of, reach_of, is_named, is_closed, raised, shut}
use Rattle.timeline_core.proofs.Lookups.{position_from-more}
use Rattle.timeline_core.proofs.Places.{IsPlace, place_from-has_timeline, context_of-place, name-place}
use Rattle.timeline_core.proofs.Raising.{names_of-raised, names_of-shut}
use Rattle.timeline_core.proofs.Storing.{reach_of-new}
use Rattle.command_core.specs.declared.command.Command.{Command}
use Rattle.command_core.specs.declared.command.Command.TheVariants as command
use Rattle.desk_core.specs.theorem.World.{World, MadeFile, MadeBuffer, after, file_named, files_without, has_file, put_set, has_made_buffer, buffer_put_set, put_into, with_put}
use Rattle.desk_core.specs.theorem.Answer.{answer_to, causes, cause, first_of, is_refused, making_file}
use Rattle.desk_core.specs.theorem.History.{world_of}
use Rattle.desk_core.specs.Sound.{IsSound, IsFilePoint, IsOfMade}
use Rattle.desk_core.proofs.Buffers.{buffer_put_set-All, buffer_put_set-new, buffer_put_set-other, buffer_put_set-put, same_or_other}
use Rattle.desk_core.proofs.Keeping.{put_set-made}
use Rattle.desk_core.proofs.Sound.{IsAtLeast-raised, IsAtLeast-shut, causes-accepted, context_of-made, first_of-none, not-false}
use Rattle.explore_core.specs.Alike.{after_answer}
use Rattle.explore_core.specs.Flow.{AllowsAll, RespectsBounds}
use Rattle.explore_core.specs.Independence.{AreReached, Bounds, IsWithin}
use Rattle.explore_core.specs.Schedule.{history_with}
use Rattle.explore_core.proofs.Covering.{world-with}
use Rattle.explore_core.proofs.Leaving.{context-same}
use Rattle.explore_core.proofs.Naming.{named-push, named-without_named}

-- contexts and names

pub no-place : (ts : List Timeline) (name : List ℕ) → position_from (is_named name) 0 ts ≡ None → context_of ts name ≡ 0
no-place ts name is = ap (λ o. unwrap_or o 0) (position_from-more (is_named name) 0 ts ∙ ap (option_map (λ k. k + 1)) is)

-- two names of one context are the same
one-name : (ts : List Timeline) (name other : List ℕ) → has_timeline ts other ≡ true → context_of ts name ≡ context_of ts other → name ≡ other
one-name ts name other has same = by (position_from (is_named name) 0 ts) refl
  where
    there : (j : ℕ) × IsPlace ts other j
    there = place_from-has_timeline ts other 0 has

    by : (o : Option ℕ) → position_from (is_named name) 0 ts ≡ o → name ≡ other
    by None is =
        let none = no-place ts name is in
        let low = (context_of-made ts other has).0 in
        absurd (omega (arith, none, low, same))
    by (Some k) is =
        let mine : context_of ts name ≡ k + 1 = context_of-place ts name k is in
        let others : context_of ts other ≡ there.0 + 1 = context_of-place ts other there.0 there.1 in
        let at : k ≡ there.0 = omega (arith, mine, others, same) in
        same_Some name other (sym (name-place ts name k is) ∙ ap (λ i. option_map (λ (t : Timeline). t.name) (slice_get ts i)) at ∙ name-place ts other there.0 there.1)

-- a context that was made has the name that it had before the new timeline
position-before : (test : Timeline → Bool) (i : ℕ) (ts : List Timeline) (t : Timeline) (c : ℕ) → unwrap_or (position_from test i (ts ++ t ∷ [])) 0 ≡ c → 1 ≤ c → c < i + length ts → unwrap_or (position_from test i ts) 0 ≡ c
position-before test i [] t c is low high = by (test t) is
  where
    by : (b : Bool) → unwrap_or (cond b (Some i) None) 0 ≡ c → 0 ≡ c
    by true is = absurd (omega (arith, is, high))
    by false is = is
position-before test i (u ∷ ts) t c is low high = by (test u) is (λ is'. position-before test (i + 1) ts t c is' low (omega (arith, high)))
  where
    by : (b : Bool) → unwrap_or (cond b (Some i) (position_from test (i + 1) (ts ++ t ∷ []))) 0 ≡ c → (unwrap_or (position_from test (i + 1) (ts ++ t ∷ [])) 0 ≡ c → unwrap_or (position_from test (i + 1) ts) 0 ≡ c)
        → unwrap_or (cond b (Some i) (position_from test (i + 1) ts)) 0 ≡ c
    by true is rest = is
    by false is rest = rest is

context-before : (ts : List Timeline) (t : Timeline) (name : List ℕ) (c : ℕ) → context_of (ts ++ t ∷ []) name ≡ c → 1 ≤ c → c ≤ length ts → context_of ts name ≡ c
context-before ts t name c is low high = position-before (is_named name) 1 ts t c is low (omega (arith, high))

-- what is pending

abbrev Reached : List ℕ → ℕ → Entry → Type 0
Reached reach ctx e = e.point.ctx ≡ ctx → e.point.value ≤ value_at reach ctx

all-reached : (reach : List ℕ) (es : List Entry) (ctx : ℕ) → AreReached reach es ctx → All (Reached reach ctx) es
all-reached reach es ctx reached = All-weaker (Contains es) (Reached reach ctx) (λ e among. reached e among) es (All-contains_itself es)

are-reached : (reach : List ℕ) (es : List Entry) (ctx : ℕ) → All (Reached reach ctx) es → AreReached reach es ctx
are-reached reach es ctx all = λ e among. All-contains (Reached reach ctx) es e all among

reached-later : (ts us : List Timeline) (es : List Entry) (name : List ℕ) → names_of ts ≡ names_of us → IsAtLeast (reach_of us) (reach_of ts) → AreReached (reach_of ts) es (context_of ts name) → AreReached (reach_of us) es (context_of us name)
reached-later ts us es name names rises reached = λ e among of.
    let same = context-same ts us names name in
    let low : e.point.value ≤ value_at (reach_of ts) (context_of ts name) = reached e among (of ∙ sym same) in
    let up : value_at (reach_of ts) (context_of ts name) ≤ value_at (reach_of us) (context_of ts name) = rises.values (context_of ts name) in
    subst (λ c. e.point.value ≤ value_at (reach_of us) c) same (omega (arith, low, up))

reached-new : (ts : List Timeline) (t : List ℕ) (es : List Entry) (name : List ℕ) → length ts < CONTEXTS → All (IsOfMade (length ts)) es → AreReached (reach_of ts) es (context_of ts name)
    → AreReached (reach_of (ts ++ new_timeline t ∷ [])) es (context_of (ts ++ new_timeline t ∷ []) name)
reached-new ts t es name low made reached = λ e among of.
    let one = All-contains (IsOfMade (length ts)) es e made among in
    let same : context_of ts name ≡ e.point.ctx = context-before ts (new_timeline t) name e.point.ctx (sym of) one.0 one.1 in
    let is : e.point.value ≤ value_at (reach_of ts) (context_of ts name) = reached e among (sym same) in
    subst (λ c. e.point.value ≤ value_at (reach_of (ts ++ new_timeline t ∷ [])) c) (same ∙ of)
    (subst (λ reach. e.point.value ≤ value_at reach (context_of ts name)) (sym (reach_of-new ts t low)) is)

-- what is put into files and buffers

abbrev put_of : Option MadeFile → List Entry
put_of o = unwrap_or (option_map (λ (f : MadeFile). f.put) o) []

put-made : (P : Entry → Type 0) (fs : List MadeFile) (f : MadeFile) (name : List ℕ) → All P (put_set fs name) → (same_name f.name name ≡ true → All P f.put) → All P (put_set (fs ++ f ∷ []) name)
put-made P fs f name old new =
    subst (λ o. All P (put_of o)) (sym (named-push (λ (f : MadeFile). f.name) fs f name)) (by (file_named fs name) (same_name f.name name) refl old)
  where
    by : (o : Option MadeFile) (b : Bool) → same_name f.name name ≡ b → All P (put_of o) → All P (put_of (option_or o (cond b (Some f) None)))
    by (Some g) b is old = old
    by None true is old = new is
    by None false is old = All-nil P

put-closed : (P : Entry → Type 0) (fs : List MadeFile) (closed name : List ℕ) → All P (put_set fs name) → All P (put_set (files_without fs closed) name)
put-closed P fs closed name old =
    subst (λ o. All P (put_of o)) (sym (named-without_named (λ (f : MadeFile). f.name) fs closed name)) (by (same_name closed name))
  where
    by : (b : Bool) → All P (put_of (cond b None (file_named fs name)))
    by true = All-nil P
    by false = old

put-more : (P : Entry → Type 0) (bs : List MadeBuffer) (b : List ℕ) (es : List Entry) (name : List ℕ) → has_made_buffer bs b ≡ true → All P (buffer_put_set bs name) → (b ≡ name → All P es) → All P (buffer_put_set (put_into bs b es) name)
put-more P bs b es name has old new = elim (same_or_other name b) [
  | inl is ↦
      subst (λ n. All P (buffer_put_set (put_into bs b es) n)) (sym is)
      (subst (All P) (sym (buffer_put_set-put bs b es has)) (All-append P (buffer_put_set bs b) es (subst (λ n. All P (buffer_put_set bs n)) is old) (new (sym is))))
  | inr apart ↦ subst (All P) (sym (buffer_put_set-other bs b name es apart)) old
]

not-allowed : (one other : List ℕ → Bool) (name : List ℕ) → AllowsAll one other → other name ≡ false → one name ≡ false
not-allowed one other name all isnt = elim (cases_Bool (one name)) [
  | inl is ↦ absurd (false≢true (sym isnt ∙ all name is))
  | inr is ↦ is
]

-- one command

module _ (bounds : Bounds) (w : World) (sound : IsSound w) (within : IsWithin bounds w) where
  abbrev reach : List ℕ
  reach = reach_of w.timelines

  abbrev P : List ℕ → Entry → Type 0
  P name = Reached reach (context_of w.timelines name)

  file-put : (f name : List ℕ) → bounds.file f name ≡ false → All (P name) (put_set w.files f)
  file-put f name isnt = all-reached reach (put_set w.files f) (context_of w.timelines name) (within.files f name isnt)

  buffer-put : (b name : List ℕ) → bounds.buffer b name ≡ false → All (P name) (buffer_put_set w.buffers b)
  buffer-put b name isnt = all-reached reach (buffer_put_set w.buffers b) (context_of w.timelines name) (within.buffers b name isnt)

  within-made : (f : MadeFile) → ((name : List ℕ) → bounds.file f.name name ≡ false → All (P name) f.put) → IsWithin bounds (record w { files = w.files ++ f ∷ [] })
  within-made f new = record {
    files = λ file name isnt. are-reached reach (put_set (w.files ++ f ∷ []) file) (context_of w.timelines name)
        (put-made (P name) w.files f file (file-put file name isnt) (λ is. new name (ap (λ n. bounds.file n name) (same_text f.name file (sym is)) ∙ isnt)));
    buffers = within.buffers;
  }

  within-put : (b : List ℕ) (es : List Entry) → has_made_buffer w.buffers b ≡ true → ((name : List ℕ) → bounds.buffer b name ≡ false → All (P name) es) → IsWithin bounds (with_put w b es)
  within-put b es has new = record {
    files = within.files;
    buffers = λ buffer name isnt. are-reached reach (buffer_put_set (put_into w.buffers b es) buffer) (context_of w.timelines name)
        (put-more (P name) w.buffers b es buffer has (buffer-put buffer name isnt) (λ is. new name (ap (λ n. bounds.buffer n name) is ∙ isnt)));
  }

  -- a point of a timeline that is allowed
  one-allowed : (e : Entry) (t name : List ℕ) (allowed : List ℕ → Bool) → has_timeline w.timelines t ≡ true → e.point.ctx ≡ context_of w.timelines t → allowed t ≡ true → allowed name ≡ false → All (P name) (e ∷ [])
  one-allowed e t name allowed has of is isnt =
      All-cons (P name) e [] (λ of'. absurd (false≢true (sym isnt ∙ ap allowed (one-name w.timelines name t has (sym of' ∙ of)) ∙ is))) (All-nil (P name))

  has-both : (a b : Bool) → not (a && b) ≡ false → (a ≡ true) × (b ≡ true)
  has-both a b is = and_parts a b (not-false (a && b) is)

  within-after : (c : Command) → RespectsBounds bounds c → first_of (causes w c) ≡ None → IsWithin bounds (after w c)
  within-after (command.Timeline t) respects made =
      let free = first_of-none (has_timeline w.timelines t) Exists (cause (nat_le CONTEXTS (length w.timelines)) (Limit Timelines) ∷ []) made in
      let low : length w.timelines < CONTEXTS = leb-false CONTEXTS (length w.timelines) (first_of-none (nat_le CONTEXTS (length w.timelines)) (Limit Timelines) [] free.1).0 in
      record {
        files = λ file name isnt. reached-new w.timelines t (put_set w.files file) name low
            (All-weaker (IsFilePoint (length w.timelines)) (IsOfMade (length w.timelines)) (λ e point. point.timeline) (put_set w.files file) (put_set-made w.timelines w.files file sound.made))
            (within.files file name isnt);
        buffers = λ buffer name isnt. reached-new w.timelines t (buffer_put_set w.buffers buffer) name low
            (buffer_put_set-All (IsOfMade (length w.timelines)) w.buffers buffer sound.buffers)
            (within.buffers buffer name isnt);
      }
  within-after (command.Inc t n) respects made =
      let names = sym (names_of-raised w.timelines t n) in
      let rises = IsAtLeast-raised w.timelines t n in
      record {
        files = λ file name isnt. reached-later w.timelines (raised w.timelines t n) (put_set w.files file) name names rises (within.files file name isnt);
        buffers = λ buffer name isnt. reached-later w.timelines (raised w.timelines t n) (buffer_put_set w.buffers buffer) name names rises (within.buffers buffer name isnt);
      }
  within-after (command.Shut t) respects made =
      let names = sym (names_of-shut w.timelines t) in
      let rises = IsAtLeast-shut w.timelines t sound.values in
      record {
        files = λ file name isnt. reached-later w.timelines (shut w.timelines t) (put_set w.files file) name names rises (within.files file name isnt);
        buffers = λ buffer name isnt. reached-later w.timelines (shut w.timelines t) (buffer_put_set w.buffers buffer) name names rises (within.buffers buffer name isnt);
      }
  within-after (command.Fence f t p) respects made =
      let has = not-false (has_timeline w.timelines t) (first_of-none (not (has_timeline w.timelines t)) NoEntry (making_file w f ++ cause (is_closed w.timelines t) AlreadyClosed ∷ []) made).0 in
      within-made _ (λ name isnt. one-allowed (as_entry (point_of (context_of w.timelines t) p)) t name (bounds.file f) has refl respects isnt)
  within-after (command.Merge f a b) respects made =
      within-made _ (λ name isnt. All-append (P name) (put_set w.files a) (put_set w.files b)
      (file-put a name (not-allowed (bounds.file a) (bounds.file f) name respects.0 isnt))
      (file-put b name (not-allowed (bounds.file b) (bounds.file f) name respects.1 isnt)))
  within-after (command.Close f) respects made = record {
    files = λ file name isnt. are-reached reach (put_set (files_without w.files f) file) (context_of w.timelines name)
        (put-closed (P name) w.files f file (file-put file name isnt));
    buffers = within.buffers;
  }
  within-after (command.Buffer b) respects made = record {
    files = within.files;
    buffers = λ buffer name isnt.
        subst (λ es. AreReached reach es (context_of w.timelines name)) (sym (buffer_put_set-new w.buffers b buffer)) (within.buffers buffer name isnt);
  }
  within-after (command.Add b t p u) respects made =
      let there = has-both (has_made_buffer w.buffers b) (has_timeline w.timelines t) (first_of-none (not (has_made_buffer w.buffers b && has_timeline w.timelines t)) NoEntry [] made).0 in
      within-put b (entry_of (point_of (context_of w.timelines t) p) u ∷ []) there.0
      (λ name isnt. one-allowed (entry_of (point_of (context_of w.timelines t) p) u) t name (bounds.buffer b) there.1 refl respects isnt)
  within-after (command.Import b f flags) respects made =
      let there = has-both (has_made_buffer w.buffers b) (has_file w.files f) (first_of-none (not (has_made_buffer w.buffers b && has_file w.files f)) NoEntry (cause (not (is_sync_flags flags)) Flags ∷ []) made).0 in
      within-put b (imported flags (put_set w.files f)) there.0
      (λ name isnt. All-map (P name) (with_usage (import_usage flags)) (put_set w.files f) (file-put f name (not-allowed (bounds.file f) (bounds.buffer b) name respects isnt)))
  within-after (command.Export f b flags) respects made =
      within-made _ (λ name isnt. All-map (P name) at_strongest (filter (is_within (export_usage flags)) (buffer_put_set w.buffers b))
      (All-filter (is_within (export_usage flags)) (P name) (buffer_put_set w.buffers b) (buffer-put b name (not-allowed (bounds.buffer b) (bounds.file f) name respects isnt))))
  within-after _ respects made = record { files = within.files; buffers = within.buffers }

  within-answered : (c : Command) → RespectsBounds bounds c → IsWithin bounds (after_answer w c)
  within-answered c respects = by (is_refused (answer_to w c)) refl
    where
      by : (r : Bool) → is_refused (answer_to w c) ≡ r → IsWithin bounds (if r then w else after w c)
      by true is = within
      by false is = within-after c respects (causes-accepted w c is)

pub within-with : (bounds : Bounds) (history : List Command) (c : Command) → IsSound (world_of history) → IsWithin bounds (world_of history) → RespectsBounds bounds c → IsWithin bounds (world_of (history_with history c))
within-with bounds history c sound within respects = subst (IsWithin bounds) (sym (world-with history c)) (within-answered bounds (world_of history) sound within c respects)
