-- Worlds that are alike are alike after a command.
use Rattle.std.proofs.Common.{◌≡◌, ℕ, ◌+◌, ◌<◌, Bool, true, false, not, ◌&&◌, cond, nat_le, nat_eq, is_some, refl, sym, ap, ◌∙◌, subst, List, [], ◌∷◌, ◌++◌, length, length-append, map, Option, None, Some, option_map, unwrap_or, arith, filter, if◌then◌else◌, inl, inr}
use Rattle.std.specs.List.{AllZip}
use Rattle.std.proofs.lemmas.Bool.{cases_Bool, leb-false, false≢true, le-leb}
use Rattle.std.specs.List.{All}
use Rattle.std.proofs.lemmas.List.{map-append}
use Rattle.std.proofs.lemmas.List.Elements.{All-head, All-tail}
use Rattle.std.proofs.lemmas.List.Sums.{sum_by_push}
use Rattle.point_core.specs.declared.context.TheConstants.{CONTEXTS}
use Rattle.point_core.specs.declared.entry.Entry.{Entry}
use Rattle.point_core.specs.declared.entry.Usage.{Usage}
use Rattle.point_core.specs.declared.refusal.Refusal.TheVariants.{NoEntry, Exists, Flags, Limit}
use Rattle.point_core.specs.declared.refusal.LimitKind.TheVariants.{Timelines}
use Rattle.point_core.specs.Agreement.{AgreesAbove, as_entry, point_of, listing, pending, top, later}
use Rattle.point_core.specs.Named.{is_named, same_name}
use Rattle.point_core.specs.Reach.{IsAtLeast, value_at}
use Rattle.point_core.specs.Usage.{usage_number}
use Rattle.point_core.proofs.Agreement.{AgreesAbove-later, AgreesAbove-refl, AgreesAbove-same, AgreesAbove-append, listing-AgreesAbove}
use Rattle.point_core.proofs.Named.{is_some-named}
use Rattle.resv_core.specs.Resv.{entry_of}
use Rattle.dmabuf_core.specs.Flags.{exported, imported, export_usage, is_within, at_strongest, is_sync_flags}
use Rattle.dmabuf_core.proofs.Putting.{AgreesAbove-imported}
use Rattle.timeline_core.specs.Timeline.{Timeline, new_timeline, has_timeline, context_of, reach_of, raised, shut}
use Rattle.timeline_core.proofs.Storing.{reach_of-new}
use Rattle.command_core.specs.declared.command.Command.{Command}
use Rattle.command_core.specs.declared.command.Command.TheVariants as command
use Rattle.desk_core.specs.theorem.World.{World, MadeFile, MadeBuffer, MadeWatch, after, with_file, with_put, has_file, file_named, put_set, has_made_buffer, buffer_put_set, buffer_of, other_watches, is_due, watch_made}
use Rattle.desk_core.specs.theorem.Answer.{answer_to, causes, cause, first_of, is_refused, listed_points}
use Rattle.desk_core.specs.Sound.{IsSound}
use Rattle.desk_core.proofs.Buffers.{same_or_other, buffer_put_set-new, buffer_put_set-put, buffer_put_set-other, names-put_into}
use Rattle.desk_core.proofs.Sound.{IsAtLeast-raised, IsAtLeast-shut, IsSound-after, first_of-none, not-false, causes-accepted}
use Rattle.explore_core.specs.Alike.{AsksOnly, AreAlike, IsSameWatch, after_answer, answers_along}
use Rattle.explore_core.proofs.Answering.{same_answer, same_has_file, same_has_buffer, is_due-same}
use Rattle.explore_core.proofs.Naming.{or-same, named-push, named-without_named, count_by-without_named, length-without_named}

abbrev name_of : MadeFile → List ℕ
name_of f = f.name

abbrev put_in : Option MadeFile → List Entry
put_in o = unwrap_or (option_map (λ (f : MadeFile). f.put) o) []

abbrev made : List ℕ → List Entry → Bool → List ℕ → MadeFile
made name put one reach = record { name = name; put = put; is_one_point = one; made_at = reach }

made-agree : (reach : List ℕ) (f g : MadeFile) (b : Bool) → AgreesAbove reach f.put g.put → AgreesAbove reach (put_in (cond b (Some f) None)) (put_in (cond b (Some g) None))
made-agree reach f g true agree = agree
made-agree reach f g false agree = AgreesAbove-refl reach []

made-lists : (f g : MadeFile) (b : Bool) → (b ≡ true → listed_points f ≡ listed_points g) → option_map listed_points (cond b (Some f) None) ≡ option_map listed_points (cond b (Some g) None)
made-lists f g true lists = ap Some (lists refl)
made-lists f g false lists = refl

closed-agree : (reach : List ℕ) (b : Bool) (o p : Option MadeFile) → AgreesAbove reach (put_in o) (put_in p) → AgreesAbove reach (put_in (cond b None o)) (put_in (cond b None p))
closed-agree reach true o p agree = AgreesAbove-refl reach []
closed-agree reach false o p agree = agree

closed-lists : (b : Bool) (o p : Option MadeFile) → option_map listed_points o ≡ option_map listed_points p → option_map listed_points (cond b None o) ≡ option_map listed_points (cond b None p)
closed-lists true o p same = refl
closed-lists false o p same = same

-- watches, if more is reached, if one is registered, and if one is removed

left-by : (reach : List ℕ) (s t : Bool) (x y : MadeWatch) (xs ys : List MadeWatch) → s ≡ t → IsSameWatch reach x y → AllZip (IsSameWatch reach) xs ys → AllZip (IsSameWatch reach) (cond s (x ∷ xs) xs) (cond t (y ∷ ys) ys)
left-by reach true true x y xs ys e is rest = (is, rest)
left-by reach false false x y xs ys e is rest = rest
left-by reach true false x y xs ys e is rest = absurd (cc)
left-by reach false true x y xs ys e is rest = absurd (cc)

left-same : {reach : List ℕ} (later : List ℕ) (xs ys : List MadeWatch) → IsAtLeast later reach → AllZip (IsSameWatch reach) xs ys → AllZip (IsSameWatch later) (filter (λ x. not (is_due later x)) xs) (filter (λ y. not (is_due later y)) ys)
left-same later [] [] rises h = tt
left-same later [] (y ∷ ys) rises h = absurd h
left-same later (x ∷ xs) [] rises h = absurd h
left-same later (x ∷ xs) (y ∷ ys) rises h =
    left-by later (not (is_due later x)) (not (is_due later y)) x y (filter (λ z. not (is_due later z)) xs) (filter (λ z. not (is_due later z)) ys)
    (ap not (is_due-same x y rises h.0)) (record { cookie = h.0.cookie; put = AgreesAbove-later rises h.0.put }) (left-same later xs ys rises h.1)

watches-push : (reach : List ℕ) (xs ys : List MadeWatch) (x y : MadeWatch) → AllZip (IsSameWatch reach) xs ys → IsSameWatch reach x y → AllZip (IsSameWatch reach) (xs ++ x ∷ []) (ys ++ y ∷ [])
watches-push reach [] [] x y h is = (is, tt)
watches-push reach [] (z ∷ ys) x y h is = absurd h
watches-push reach (z ∷ xs) [] x y h is = absurd h
watches-push reach (u ∷ xs) (z ∷ ys) x y h is = (h.0, watches-push reach xs ys x y h.1 is)

watches-without : (reach : List ℕ) (cookie : ℕ) (xs ys : List MadeWatch) → AllZip (IsSameWatch reach) xs ys → AllZip (IsSameWatch reach) (filter (λ x. not (nat_eq x.cookie cookie)) xs) (filter (λ y. not (nat_eq y.cookie cookie)) ys)
watches-without reach cookie [] [] h = tt
watches-without reach cookie [] (y ∷ ys) h = absurd h
watches-without reach cookie (x ∷ xs) [] h = absurd h
watches-without reach cookie (x ∷ xs) (y ∷ ys) h =
    left-by reach (not (nat_eq x.cookie cookie)) (not (nat_eq y.cookie cookie)) x y (filter (λ z. not (nat_eq z.cookie cookie)) xs) (filter (λ z. not (nat_eq z.cookie cookie)) ys)
    (ap (λ k. not (nat_eq k cookie)) h.0.cookie) h.0 (watches-without reach cookie xs ys h.1)

-- what is exported agrees
top_more : Bool → ℕ → Option ℕ → Option ℕ
top_more at p t = if at then later p t else t

top-within : (usage : Usage) (es : List Entry) (level ctx : ℕ) → top (map at_strongest (filter (is_within usage) es)) level ctx ≡ top es (usage_number usage) ctx
unfolding top_more
top-within usage [] level ctx = refl
top-within usage (e ∷ es) level ctx =
    let rest = top-within usage es level ctx in
    elim (cases_Bool (is_within usage e)) [
      | inl is ↦ rw (is, le-leb 0 level (omega arith)) (ap (top_more (nat_eq e.point.ctx ctx) e.point.value) rest)
      | inr isnt ↦ rw isnt rest
    ]

exported-agree : {reach : List ℕ} {es fs : List Entry} (flags : ℕ) → AgreesAbove reach es fs → AgreesAbove reach (exported flags es) (exported flags fs)
exported-agree {reach} {es} {fs} flags agree = record {
  tops = λ usage ctx.
      ap (pending (value_at reach ctx)) (top-within (export_usage flags) es usage ctx)
      ∙ agree.tops (usage_number (export_usage flags)) ctx
      ∙ ap (pending (value_at reach ctx)) (sym (top-within (export_usage flags) fs usage ctx));
}

-- a file of that name is made in both, of what agrees
module _ {asked : List ℕ → Bool} {w v : World} (a : AreAlike asked w v) where
  found-same : (name : List ℕ) → is_some (file_named w.files name) ≡ is_some (file_named v.files name)
  found-same name = is_some-named name_of w.files name ∙ same_has_file a name ∙ sym (is_some-named name_of v.files name)

  pub alike-file : (name : List ℕ) (p q : List Entry) (one : Bool) → AgreesAbove (reach_of w.timelines) p q
      → listed_points (made name p one (reach_of w.timelines)) ≡ listed_points (made name q one (reach_of v.timelines))
      → AreAlike asked (with_file w name p one) (with_file v name q one)
  alike-file name p q one agree lists =
      let f = made name p one (reach_of w.timelines) in
      let g = made name q one (reach_of v.timelines) in
      let Agree : Option MadeFile → Option MadeFile → Type 0 = λ o o'. AgreesAbove (reach_of w.timelines) (put_in o) (put_in o') in
      let List-same : Option MadeFile → Option MadeFile → Type 0 = λ o o'. option_map listed_points o ≡ option_map listed_points o' in
      record {
        timelines = a.timelines;
        file_counts = λ n.
            sum_by_push (λ x. cond (is_named name_of n x) 1 0) w.files f
            ∙ ap (λ k. k + cond (same_name name n) 1 0) (a.file_counts n)
            ∙ sym (sum_by_push (λ x. cond (is_named name_of n x) 1 0) v.files g);
        files_made = omega (arith, a.files_made, length-append {A = MadeFile});
        files = λ n.
            rw (named-push name_of w.files f n, named-push name_of v.files g n)
            (or-same Agree (file_named w.files n) (file_named v.files n) (cond (same_name name n) (Some f) None) (cond (same_name name n) (Some g) None)
            (found-same n) (a.files n) (made-agree (reach_of w.timelines) f g (same_name name n) agree));
        lists = λ n is.
            rw (named-push name_of w.files f n, named-push name_of v.files g n)
            (or-same List-same (file_named w.files n) (file_named v.files n) (cond (same_name name n) (Some f) None) (cond (same_name name n) (Some g) None)
            (found-same n) (a.lists n is) (made-lists f g (same_name name n) (λ b. lists)));
        buffer_names = a.buffer_names;
        buffers = a.buffers;
        watches = a.watches;
        watches_made = a.watches_made;
      }

  pub alike-close : (name : List ℕ) → AreAlike asked (after w (command.Close name)) (after v (command.Close name))
  alike-close name = record {
    timelines = a.timelines;
    file_counts = λ n.
        count_by-without_named name_of w.files name n ∙ ap (cond (same_name name n) 0) (a.file_counts n) ∙ sym (count_by-without_named name_of v.files name n);
    files_made = omega (arith, a.files_made, a.file_counts name, length-without_named name_of w.files name, length-without_named name_of v.files name);
    files = λ n.
        rw (named-without_named name_of w.files name n, named-without_named name_of v.files name n)
        (closed-agree (reach_of w.timelines) (same_name name n) (file_named w.files n) (file_named v.files n) (a.files n));
    lists = λ n is.
        rw (named-without_named name_of w.files name n, named-without_named name_of v.files name n)
        (closed-lists (same_name name n) (file_named w.files n) (file_named v.files n) (a.lists n is));
    buffer_names = a.buffer_names;
    buffers = a.buffers;
    watches = a.watches;
    watches_made = a.watches_made;
  }

  pub alike-timeline : (name : List ℕ) → length w.timelines < CONTEXTS → AreAlike asked (after w (command.Timeline name)) (after v (command.Timeline name))
  alike-timeline name low =
      let reach = reach_of-new w.timelines name low in
      record {
        timelines = ap (λ ts. ts ++ new_timeline name ∷ []) a.timelines;
        file_counts = a.file_counts;
        files_made = a.files_made;
        files = λ n. rw reach (a.files n);
        lists = a.lists;
        buffer_names = a.buffer_names;
        buffers = λ n. rw reach (a.buffers n);
        watches = rw reach a.watches;
        watches_made = a.watches_made;
      }

  alike-later : (ts : List Timeline) → IsAtLeast (reach_of ts) (reach_of w.timelines) → AreAlike asked (record w { timelines = ts; watches = other_watches w (reach_of ts) }) (record v { timelines = ts; watches = other_watches v (reach_of ts) })
  alike-later ts rises = record {
    timelines = refl;
    file_counts = a.file_counts;
    files_made = a.files_made;
    files = λ n. AgreesAbove-later rises (a.files n);
    lists = a.lists;
    buffer_names = a.buffer_names;
    buffers = λ n. AgreesAbove-later rises (a.buffers n);
    watches = left-same (reach_of ts) w.watches v.watches rises a.watches;
    watches_made = a.watches_made;
  }

  pub alike-inc : (t : List ℕ) (n : ℕ) → AreAlike asked (after w (command.Inc t n)) (after v (command.Inc t n))
  alike-inc t n =
      let P : List Timeline → Type 0 = λ ts. AreAlike asked (after w (command.Inc t n)) (record v { timelines = raised ts t n; watches = other_watches v (reach_of (raised ts t n)) }) in
      subst P a.timelines (alike-later (raised w.timelines t n) (IsAtLeast-raised w.timelines t n))

  pub alike-shut : (t : List ℕ) → IsSound w → AreAlike asked (after w (command.Shut t)) (after v (command.Shut t))
  alike-shut t sound =
      let P : List Timeline → Type 0 = λ ts. AreAlike asked (after w (command.Shut t)) (record v { timelines = shut ts t; watches = other_watches v (reach_of (shut ts t)) }) in
      subst P a.timelines (alike-later (shut w.timelines t) (IsAtLeast-shut w.timelines t sound.values))

  pub alike-buffer : (b : List ℕ) → AreAlike asked (after w (command.Buffer b)) (after v (command.Buffer b))
  alike-buffer b = record {
    timelines = a.timelines;
    file_counts = a.file_counts;
    files_made = a.files_made;
    files = a.files;
    lists = a.lists;
    buffer_names =
        map-append (λ (c : MadeBuffer). c.name) w.buffers (buffer_of b [] ∷ []) ∙ ap (λ ns. ns ++ b ∷ []) a.buffer_names
        ∙ sym (map-append (λ (c : MadeBuffer). c.name) v.buffers (buffer_of b [] ∷ []));
    buffers = λ n. rw (buffer_put_set-new w.buffers b n, buffer_put_set-new v.buffers b n) (a.buffers n);
    watches = a.watches;
    watches_made = a.watches_made;
  }

  pub alike-put : (b : List ℕ) (p q : List Entry) → has_made_buffer w.buffers b ≡ true → AgreesAbove (reach_of w.timelines) p q → AreAlike asked (with_put w b p) (with_put v b q)
  alike-put b p q has agree =
      let has' : has_made_buffer v.buffers b ≡ true = sym (same_has_buffer a b) ∙ has in
      record {
        timelines = a.timelines;
        file_counts = a.file_counts;
        files_made = a.files_made;
        files = a.files;
        lists = a.lists;
        buffer_names = names-put_into w.buffers b p ∙ a.buffer_names ∙ sym (names-put_into v.buffers b q);
        buffers = λ n. elim (same_or_other n b) [
          | inl is ↦ rw is (rw (buffer_put_set-put w.buffers b p has, buffer_put_set-put v.buffers b q has') (AgreesAbove-append (a.buffers b) agree))
          | inr apart ↦ rw (buffer_put_set-other w.buffers b n p apart, buffer_put_set-other v.buffers b n q apart) (a.buffers n)
        ];
        watches = a.watches;
        watches_made = a.watches_made;
      }

  pub alike-watch : (f : List ℕ) (cookie : ℕ) → AreAlike asked (after w (command.Watch f cookie)) (after v (command.Watch f cookie))
  alike-watch f cookie = record {
    timelines = a.timelines;
    file_counts = a.file_counts;
    files_made = a.files_made;
    files = a.files;
    lists = a.lists;
    buffer_names = a.buffer_names;
    buffers = a.buffers;
    watches = watches-push (reach_of w.timelines) w.watches v.watches (watch_made cookie (put_set w.files f) w.watches_made) (watch_made cookie (put_set v.files f) v.watches_made)
        a.watches (record { cookie = refl; put = a.files f });
    watches_made = ap (λ k. k + 1) a.watches_made;
  }

  pub alike-unwatch : (cookie : ℕ) → AreAlike asked (after w (command.Unwatch cookie)) (after v (command.Unwatch cookie))
  alike-unwatch cookie = record {
    timelines = a.timelines;
    file_counts = a.file_counts;
    files_made = a.files_made;
    files = a.files;
    lists = a.lists;
    buffer_names = a.buffer_names;
    buffers = a.buffers;
    watches = watches-without (reach_of w.timelines) cookie w.watches v.watches a.watches;
    watches_made = a.watches_made;
  }

  -- what the tests of a command say that has no cause to be refused

  room-accepted : (t : List ℕ) → first_of (causes w (command.Timeline t)) ≡ None → length w.timelines < CONTEXTS
  room-accepted t is =
      let free = first_of-none (has_timeline w.timelines t) Exists (cause (nat_le CONTEXTS (length w.timelines)) (Limit Timelines) ∷ []) is in
      leb-false CONTEXTS (length w.timelines) (first_of-none (nat_le CONTEXTS (length w.timelines)) (Limit Timelines) [] free.1).0

  first-true : (x y : Bool) → (x && y) ≡ true → x ≡ true
  first-true true y is = refl
  first-true false y is = absurd (false≢true is)

  pub alike-after : (c : Command) → IsSound w → first_of (causes w c) ≡ None → AreAlike asked (after w c) (after v c)
  alike-after (command.Timeline t) sound is = alike-timeline t (room-accepted t is)
  alike-after (command.Inc t n) sound is = alike-inc t n
  alike-after (command.Shut t) sound is = alike-shut t sound
  alike-after (command.Fence f t p) sound is =
      let one : List Timeline → List Entry = λ ts. as_entry (point_of (context_of ts t) p) ∷ [] in
      alike-file f (one w.timelines) (one v.timelines) true (AgreesAbove-same (reach_of w.timelines) (ap one a.timelines)) (ap (λ ts. point_of (context_of ts t) p ∷ []) a.timelines)
  alike-after (command.Merge f x y) sound is =
      let agree = AgreesAbove-append (a.files x) (a.files y) in
      alike-file f (put_set w.files x ++ put_set w.files y) (put_set v.files x ++ put_set v.files y) false agree
      (listing-AgreesAbove 0 agree ∙ ap (λ ts. listing (put_set v.files x ++ put_set v.files y) 0 (reach_of ts)) a.timelines)
  alike-after (command.Close f) sound is = alike-close f
  alike-after (command.Buffer b) sound is = alike-buffer b
  alike-after (command.Add b t p u) sound is =
      let one : List Timeline → List Entry = λ ts. entry_of (point_of (context_of ts t) p) u ∷ [] in
      let has = not-false (has_made_buffer w.buffers b && has_timeline w.timelines t) (first_of-none (not (has_made_buffer w.buffers b && has_timeline w.timelines t)) NoEntry [] is).0 in
      alike-put b (one w.timelines) (one v.timelines) (first-true (has_made_buffer w.buffers b) (has_timeline w.timelines t) has) (AgreesAbove-same (reach_of w.timelines) (ap one a.timelines))
  alike-after (command.Import b f flags) sound is =
      let has = not-false (has_made_buffer w.buffers b && has_file w.files f) (first_of-none (not (has_made_buffer w.buffers b && has_file w.files f)) NoEntry (cause (not (is_sync_flags flags)) Flags ∷ []) is).0 in
      alike-put b (imported flags (put_set w.files f)) (imported flags (put_set v.files f)) (first-true (has_made_buffer w.buffers b) (has_file w.files f) has) (AgreesAbove-imported flags (a.files f))
  alike-after (command.Export f b flags) sound is =
      let agree = exported-agree flags (a.buffers b) in
      alike-file f (exported flags (buffer_put_set w.buffers b)) (exported flags (buffer_put_set v.buffers b)) false agree
      (listing-AgreesAbove 0 agree ∙ ap (λ ts. listing (exported flags (buffer_put_set v.buffers b)) 0 (reach_of ts)) a.timelines)
  alike-after (command.Watch f cookie) sound is = alike-watch f cookie
  alike-after (command.Unwatch cookie) sound is = alike-unwatch cookie
  alike-after _ sound is = a

  -- refused or not
  by-answer : (c : Command) (r s : Bool) → is_refused (answer_to w c) ≡ r → r ≡ s → IsSound w → AreAlike asked (if r then w else after w c) (if s then v else after v c)
  by-answer c true true is same sound = a
  by-answer c false false is same sound = alike-after c sound (causes-accepted w c is)
  by-answer c true false is same sound = absurd (false≢true (sym same))
  by-answer c false true is same sound = absurd (false≢true same)

  pub alike-answered : (c : Command) → AsksOnly asked c → IsSound w → AreAlike asked (after_answer w c) (after_answer v c)
  alike-answered c asks sound = by-answer c (is_refused (answer_to w c)) (is_refused (answer_to v c)) refl (ap is_refused (same_answer a c asks sound)) sound

sound-by : (w : World) (c : Command) (r : Bool) → is_refused (answer_to w c) ≡ r → IsSound w → IsSound (if r then w else after w c)
sound-by w c true is sound = sound
sound-by w c false is sound = IsSound-after w c sound (causes-accepted w c is)

pub IsSound-answered : (w : World) (c : Command) → IsSound w → IsSound (after_answer w c)
IsSound-answered w c sound = sound-by w c (is_refused (answer_to w c)) refl sound

-- so they answer alike for ever
pub alike-ever : {asked : List ℕ → Bool} (w v : World) (cs : List Command) → IsSound w → AreAlike asked w v → All (AsksOnly asked) cs → answers_along w cs ≡ answers_along v cs
alike-ever w v [] sound a asks = refl
alike-ever {asked} w v (c ∷ cs) sound a asks =
    let one = All-head (AsksOnly asked) c cs asks in
    let rest = alike-ever (after_answer w c) (after_answer v c) cs (IsSound-answered w c sound) (alike-answered a c one sound) (All-tail (AsksOnly asked) c cs asks) in
    ap (λ r. r ∷ answers_along (after_answer w c) cs) (same_answer a c one sound) ∙ ap (λ rs. answer_to v c ∷ rs) rest
