-- The world of a history is sound.
use Rattle.std.proofs.Common.{◌≡◌, ℕ, ◌-◌, ◌<◌, ◌≤◌, Bool, true, false, not, suc, zero, refl, sym, subst, List, [], ◌∷◌, ◌++◌, length, get_or, replicate, Option, None, Some, arith, length-append, All, ◌&&◌, filter}
use Rattle.std.specs.Prelude.{if◌then◌else◌, nat_le}
use Rattle.std.proofs.lemmas.Bool.{leb-false, and_parts}
use Rattle.std.proofs.lemmas.List.{length-map}
use Rattle.std.proofs.lemmas.List.Elements.{All-nil, All-cons, All-head, All-tail, All-push, All-weaker, All-append, All-filter, All-map}
use Rattle.point_core.specs.declared.context.TheConstants.{CONTEXTS}
use Rattle.point_core.specs.declared.entry.Entry.{Entry}
use Rattle.point_core.specs.declared.refusal.Refusal.{Refusal}
use Rattle.point_core.specs.declared.refusal.Refusal.TheVariants.{NoEntry, Exists, Limit, Overflow, Cancelled as AlreadyClosed}
use Rattle.point_core.specs.declared.refusal.LimitKind.TheVariants.{Timelines}
use Rattle.point_core.specs.Agreement.{as_entry, point_of}
use Rattle.point_core.specs.Reach.{GREATEST, IsAtLeast}
use Rattle.point_core.proofs.Values.{IsAtLeast-refl, IsAtLeast-trans}
use Rattle.std.specs.List.{IsDistinct, AllByRecursion}
use Rattle.std.specs.Cmp.Lexicographic.{nat_list_eq_equiv}
use Rattle.std.proofs.Common.{◌+◌, ◌^◌, nat_eq, cond, ap, ◌∙◌}
use Rattle.std.proofs.lemmas.Bool.{false≢true}
use Rattle.std.proofs.lemmas.Option.{same_Some}
use Rattle.std.proofs.lemmas.List.{map-append}
use Rattle.std.proofs.lemmas.Map.Keys.{IsDistinct-head, IsDistinct-tail, IsDistinct-push}
use Rattle.point_core.specs.declared.clocks.Clock.{Clock}
use Rattle.point_core.specs.Clocks.{clock_of, new_clock, reached_by, reach_of_clocks}
use Rattle.point_core.specs.Named.{HasDistinctNames}
use Rattle.timeline_core.specs.Timeline.{Timeline, timeline_of, new_timeline, own_clock, own_clocks, names_of, has_timeline, timeline_at, context_of, reach_of, clock_named, value_of, is_closed, raised, shut, is_named, raised_by, closed_timeline, AreTimelines}
use Rattle.timeline_core.proofs.Lookups.{has_timeline-names_of}
use Rattle.timeline_core.proofs.Raising.{AreTimelines-raised, AreTimelines-shut}
use lib.Pointwise.{pointwise}
use Rattle.timeline_core.proofs.Places.{place_from-has_timeline, place-within, context_of-place, timeline_at-clock_named}
use Rattle.timeline_core.proofs.Storing.{reach_of-new, AreTimelines-new}
use Rattle.command_core.specs.declared.answer.Answer.{Answer}
use Rattle.command_core.specs.declared.command.Command.{Command}
use Rattle.command_core.specs.declared.command.Command.TheVariants as command
use Rattle.desk_core.specs.theorem.World.{World, MadeFile, MadeBuffer, put_set, has_made_buffer, buffer_put_set, buffer_of, with_put, after, empty_world}
use Rattle.point_core.specs.Named.{same_name}
use Rattle.resv_core.specs.Resv.{entry_of}
use Rattle.dmabuf_core.specs.Flags.{exported, imported, export_usage, import_usage, is_within, at_strongest, with_usage}
use Rattle.desk_core.specs.theorem.Answer.{first_of, cause, making_file, causes, refused_or, is_refused, reported}
use Rattle.desk_core.specs.theorem.History.{world_from, world_of, AreAccepted, IsHistory}
use Rattle.desk_core.specs.Sound.{WasMade, IsFilePoint, IsOfMade, IsOfTimelines, IsSound}
use Rattle.desk_core.proofs.Buffers.{put_into-All, buffer_put_set-All}
use Rattle.desk_core.proofs.Keeping.{put_set-made}

-- what is accepted

pub first_of-none : (b : Bool) (r : Refusal) (rest : List (Bool × Refusal)) → first_of (cause b r ∷ rest) ≡ None → (b ≡ false) × (first_of rest ≡ None)
first_of-none true r rest is = absurd (cc)
first_of-none false r rest is = (refl, is)

accepted-None : (o : Option Refusal) (a : Answer) → is_refused (refused_or o a) ≡ false → o ≡ None
accepted-None None a is = refl
accepted-None (Some r) a is = absurd (cc)

-- an accepted command has no cause to be refused
pub causes-accepted : (w : World) (c : Command) → is_refused (refused_or (first_of (causes w c)) (reported w c)) ≡ false → first_of (causes w c) ≡ None
causes-accepted w c is = accepted-None (first_of (causes w c)) (reported w c) is

pub not-false : (b : Bool) → not b ≡ false → b ≡ true
not-false true is = refl
not-false false is = absurd (cc)

-- timelines

IsFilePoint-more : (made made' : ℕ) → made ≤ made' → (e : Entry) → IsFilePoint made e → IsFilePoint made' e
IsFilePoint-more made made' more e h = let within = h.timeline.1 in record { usage = h.usage; timeline = (h.timeline.0, omega arith) }

WasMade-new : (ts : List Timeline) (name : List ℕ) → length ts < CONTEXTS → (f : MadeFile) → WasMade ts f → WasMade (ts ++ new_timeline name ∷ []) f
WasMade-new ts name low f h = record {
  since = let P : List ℕ → Type 0 = λ reach. IsAtLeast reach f.made_at in subst P (sym (reach_of-new ts name low)) h.since;
  put = All-weaker (IsFilePoint (length ts)) (IsFilePoint (length (ts ++ new_timeline name ∷ []))) (IsFilePoint-more (length ts) (length (ts ++ new_timeline name ∷ [])) (omega (arith, length-append {A = Timeline}))) f.put h.put;
}

-- as many timelines as before
pub length-raised : (ts : List Timeline) (name : List ℕ) (n : ℕ) → length (raised ts name n) ≡ length ts
length-raised ts name n = length-map ts (λ t. if is_named name t then raised_by n t else t)

pub length-shut : (ts : List Timeline) (name : List ℕ) → length (shut ts name) ≡ length ts
length-shut ts name = length-map ts (λ t. if is_named name t then closed_timeline t else t)

reached-raised_by : (n value : ℕ) (closed : Bool) → reached_by (clock_of value closed) ≤ reached_by (clock_of (value + n) closed)
reached-raised_by n value true = omega arith
reached-raised_by n value false = omega arith

reached-raised_if : (b : Bool) (n : ℕ) (t : Timeline) → reached_by (own_clock t) ≤ reached_by (own_clock (if b then raised_by n t else t))
reached-raised_if true n t = reached-raised_by n t.value t.closed
reached-raised_if false n t = omega arith

reached-raised : (ts : List Timeline) (zs : List Clock) (name : List ℕ) (n k : ℕ) → get_or (reach_of_clocks (own_clocks ts ++ zs)) k 0 ≤ get_or (reach_of_clocks (own_clocks (raised ts name n) ++ zs)) k 0
reached-raised [] zs name n k = omega arith
reached-raised (t ∷ ts) zs name n zero = reached-raised_if (is_named name t) n t
reached-raised (t ∷ ts) zs name n (suc k) = reached-raised ts zs name n k

-- no value falls
pub IsAtLeast-raised : (ts : List Timeline) (name : List ℕ) (n : ℕ) → IsAtLeast (reach_of (raised ts name n)) (reach_of ts)
IsAtLeast-raised ts name n =
    rw (length-raised ts name n)
    (record { values = λ ctx. reached-raised ts (replicate (CONTEXTS - length ts) new_clock) name n (ctx - 1) })

abbrev pub IsWithin : Timeline → Type 0
IsWithin t = t.value ≤ GREATEST

reached-closed : (value : ℕ) (closed : Bool) → value ≤ GREATEST → reached_by (clock_of value closed) ≤ GREATEST
reached-closed value true low = omega arith
reached-closed value false low = low

reached-shut_if : (b : Bool) (t : Timeline) → IsWithin t → reached_by (own_clock t) ≤ reached_by (own_clock (if b then closed_timeline t else t))
reached-shut_if true t low = reached-closed t.value t.closed low
reached-shut_if false t low = omega arith

reached-shut : (ts : List Timeline) (zs : List Clock) (name : List ℕ) (k : ℕ) → All IsWithin ts → get_or (reach_of_clocks (own_clocks ts ++ zs)) k 0 ≤ get_or (reach_of_clocks (own_clocks (shut ts name) ++ zs)) k 0
reached-shut [] zs name k low = omega arith
reached-shut (t ∷ ts) zs name zero low = reached-shut_if (is_named name t) t (All-head IsWithin t ts low)
reached-shut (t ∷ ts) zs name (suc k) low = reached-shut ts zs name k (All-tail IsWithin t ts low)

-- nor if a timeline is closed, since no value passes the greatest
pub IsAtLeast-shut : (ts : List Timeline) (name : List ℕ) → All IsWithin ts → IsAtLeast (reach_of (shut ts name)) (reach_of ts)
IsAtLeast-shut ts name low =
    rw (length-shut ts name)
    (record { values = λ ctx. reached-shut ts (replicate (CONTEXTS - length ts) new_clock) name (ctx - 1) low })

-- the values stay within

All-both : {X : Type 0} (P Q : X → Type 0) (xs : List X) → All P xs → All Q xs → All (λ x. P x × Q x) xs
All-both P Q [] ps qs = All-nil (λ x. P x × Q x)
All-both P Q (x ∷ xs) ps qs = All-cons (λ x. P x × Q x) x xs (All-head P x xs ps, All-head Q x xs qs) (All-both P Q xs (All-tail P x xs ps) (All-tail Q x xs qs))

IsWithin-shut : (ts : List Timeline) (name : List ℕ) → All IsWithin ts → All IsWithin (shut ts name)
IsWithin-shut ts name low = All-map IsWithin (λ t. if is_named name t then closed_timeline t else t) ts (All-weaker IsWithin (λ t. IsWithin (if is_named name t then closed_timeline t else t)) (λ t h. by (is_named name t) t h) ts low)
  where
    by : (b : Bool) (t : Timeline) → IsWithin t → IsWithin (if b then closed_timeline t else t)
    by true t h = h
    by false t h = h

-- it is the one timeline of that name, so its clock is that of the name
abbrev HasClockIf : List ℕ → Clock → Timeline → Type 0
HasClockIf name clock t = is_named name t ≡ true → t.value ≡ clock.value

others_named : (ts : List Timeline) (name other : List ℕ) (clock : Clock) → same_name other name ≡ true → AllByRecursion (λ m. same_name other m ≡ false) (names_of ts) → All (HasClockIf name clock) ts
others_named [] name other clock is apart = All-nil (HasClockIf name clock)
others_named (t ∷ ts) name other clock is apart =
    let isnt : is_named name t ≡ false = nat_list_eq_equiv.symm t.name name ∙ sym (nat_list_eq_equiv.congr other name t.name is) ∙ apart.0 in
    All-cons (HasClockIf name clock) t ts (λ same. absurd (false≢true (sym isnt ∙ same))) (others_named ts name other clock is apart.1)

own_value : (ts : List Timeline) (name : List ℕ) (clock : Clock) → HasDistinctNames (λ (t : Timeline). t.name) ts → timeline_at ts name ≡ Some (timeline_of name clock) → All (HasClockIf name clock) ts
own_value [] name clock distinct at = All-nil (HasClockIf name clock)
own_value (t ∷ ts) name clock distinct at = by (own_value ts name clock (IsDistinct-tail same_name t.name (names_of ts) distinct)) (is_named name t) refl
  where
    by : (timeline_at ts name ≡ Some (timeline_of name clock) → All (HasClockIf name clock) ts) → (b : Bool) → is_named name t ≡ b → All (HasClockIf name clock) (t ∷ ts)
    by rest true is =
        let same = same_Some t (timeline_of name clock) (sym (ap (λ b. cond b (Some t) (timeline_at ts name)) is) ∙ at) in
        All-cons (HasClockIf name clock) t ts (λ _. ap (λ (u : Timeline). u.value) same)
        (others_named ts name t.name clock is (IsDistinct-head same_name t.name (names_of ts) distinct))
    by rest false isnt =
        All-cons (HasClockIf name clock) t ts (λ is. absurd (false≢true (sym isnt ∙ is)))
        (rest (sym (ap (λ b. cond b (Some t) (timeline_at ts name)) isnt) ∙ at))

IsWithin-raised : (ts : List Timeline) (name : List ℕ) (n : ℕ) → AreTimelines ts → has_timeline ts name ≡ true → value_of ts name + n < 2 ^ 64 → All IsWithin ts → All IsWithin (raised ts name n)
IsWithin-raised ts name n kept has fits low =
    let own = own_value ts name (clock_named ts name) kept.distinct (timeline_at-clock_named ts name has) in
    All-map IsWithin (λ t. if is_named name t then raised_by n t else t) ts
    (All-weaker (λ t. IsWithin t × HasClockIf name (clock_named ts name) t) (λ t. IsWithin (if is_named name t then raised_by n t else t)) (λ t h. by (is_named name t) t refl h) ts (All-both IsWithin (HasClockIf name (clock_named ts name)) ts low own))
  where
    by : (b : Bool) (t : Timeline) → is_named name t ≡ b → IsWithin t × HasClockIf name (clock_named ts name) t → IsWithin (if b then raised_by n t else t)
    by true t is h = let same = h.1 is in omega (arith, same, fits)
    by false t is h = h.0

-- a file stays made while no value falls
WasMade-later : (ts later : List Timeline) → length later ≡ length ts → IsAtLeast (reach_of later) (reach_of ts) → (f : MadeFile) → WasMade ts f → WasMade later f
WasMade-later ts later same rises f h = record {
  since = IsAtLeast-trans rises h.since;
  put = rw same h.put;
}

-- the context of a name is one that was made
pub context_of-made : (ts : List Timeline) (name : List ℕ) → has_timeline ts name ≡ true → (1 ≤ context_of ts name) × (context_of ts name ≤ length ts)
context_of-made ts name has =
    let place = place_from-has_timeline ts name 0 has in
    let low = place-within ts name place.0 place.1 in
    let is = context_of-place ts name place.0 place.1 in
    (omega arith, omega arith)

-- each accepted command keeps a world sound

IsOfTimelines-more : (made made' : ℕ) → made ≤ made' → (bs : List MadeBuffer) → All (IsOfTimelines made) bs → All (IsOfTimelines made') bs
IsOfTimelines-more made made' more bs all =
    All-weaker (IsOfTimelines made) (IsOfTimelines made') (λ b put. All-weaker (IsOfMade made) (IsOfMade made') (λ e h. (h.0, let within = h.1 in omega arith)) b.put put) bs all

IsSound-file : (w : World) → IsSound w → (f : MadeFile) → WasMade w.timelines f → IsSound (record w { files = w.files ++ f ∷ [] })
IsSound-file w s f made = record { made = All-push (WasMade w.timelines) w.files f s.made made; buffers = s.buffers; timelines = s.timelines; values = s.values }

IsSound-put : (w : World) → IsSound w → (b : List ℕ) (es : List Entry) → All (IsOfMade (length w.timelines)) es → IsSound (with_put w b es)
IsSound-put w s b es more = record { made = s.made; buffers = put_into-All (IsOfMade (length w.timelines)) w.buffers b es more s.buffers; timelines = s.timelines; values = s.values }

-- what is exported, and what is imported

IsFilePoint-exported : (made : ℕ) (flags : ℕ) (es : List Entry) → All (IsOfMade made) es → All (IsFilePoint made) (exported flags es)
IsFilePoint-exported made flags es all =
    All-map (IsFilePoint made) at_strongest (filter (is_within (export_usage flags)) es)
    (All-weaker (IsOfMade made) (λ e. IsFilePoint made (at_strongest e)) (λ e h. record { usage = refl; timeline = h }) (filter (is_within (export_usage flags)) es)
    (All-filter (is_within (export_usage flags)) (IsOfMade made) es all))

IsOfMade-imported : (made : ℕ) (flags : ℕ) (es : List Entry) → All (IsFilePoint made) es → All (IsOfMade made) (imported flags es)
IsOfMade-imported made flags es all =
    All-map (IsOfMade made) (with_usage (import_usage flags)) es
    (All-weaker (IsFilePoint made) (λ e. IsOfMade made (with_usage (import_usage flags) e)) (λ e h. h.timeline) es all)

distinct-new : (ts : List Timeline) (name : List ℕ) → has_timeline ts name ≡ false → AreTimelines ts → IsDistinct (pointwise nat_eq) (names_of (ts ++ new_timeline name ∷ []))
distinct-new ts name absent kept =
    subst (IsDistinct (pointwise nat_eq)) (sym (map-append (λ (t : Timeline). t.name) ts (new_timeline name ∷ [])))
    (IsDistinct-push nat_list_eq_equiv (names_of ts) name kept.distinct (has_timeline-names_of ts name ∙ absent))

pub IsSound-after : (w : World) (c : Command) → IsSound w → first_of (causes w c) ≡ None → IsSound (after w c)
IsSound-after w (command.Timeline t) s is =
    let free = first_of-none (has_timeline w.timelines t) Exists (cause (nat_le CONTEXTS (length w.timelines)) (Limit Timelines) ∷ []) is in
    let low : length w.timelines < CONTEXTS = leb-false CONTEXTS (length w.timelines) (first_of-none (nat_le CONTEXTS (length w.timelines)) (Limit Timelines) [] free.1).0 in
    record {
      made = All-weaker (WasMade w.timelines) (WasMade (w.timelines ++ new_timeline t ∷ [])) (WasMade-new w.timelines t low) w.files s.made;
      buffers = IsOfTimelines-more (length w.timelines) (length (w.timelines ++ new_timeline t ∷ [])) (omega (arith, length-append {A = Timeline})) w.buffers s.buffers;
      timelines = AreTimelines-new w.timelines t low refl (distinct-new w.timelines t free.0 s.timelines);
      values = All-push IsWithin w.timelines (new_timeline t) s.values (omega arith);
    }
IsSound-after w (command.Inc t n) s is =
    let there = first_of-none (not (has_timeline w.timelines t)) NoEntry (cause (is_closed w.timelines t) AlreadyClosed ∷ cause (nat_le (2 ^ 64) (value_of w.timelines t + n)) Overflow ∷ []) is in
    let still_open = first_of-none (is_closed w.timelines t) AlreadyClosed (cause (nat_le (2 ^ 64) (value_of w.timelines t + n)) Overflow ∷ []) there.1 in
    let fits = leb-false (2 ^ 64) (value_of w.timelines t + n) (first_of-none (nat_le (2 ^ 64) (value_of w.timelines t + n)) Overflow [] still_open.1).0 in
    let has = not-false (has_timeline w.timelines t) there.0 in
    record {
      made = All-weaker (WasMade w.timelines) (WasMade (raised w.timelines t n)) (WasMade-later w.timelines (raised w.timelines t n) (length-raised w.timelines t n) (IsAtLeast-raised w.timelines t n)) w.files s.made;
      buffers = rw (length-raised w.timelines t n) s.buffers;
      timelines = AreTimelines-raised w.timelines t n s.timelines;
      values = IsWithin-raised w.timelines t n s.timelines has fits s.values;
    }
IsSound-after w (command.Shut t) s is = record {
  made = All-weaker (WasMade w.timelines) (WasMade (shut w.timelines t)) (WasMade-later w.timelines (shut w.timelines t) (length-shut w.timelines t) (IsAtLeast-shut w.timelines t s.values)) w.files s.made;
  buffers = rw (length-shut w.timelines t) s.buffers;
  timelines = AreTimelines-shut w.timelines t s.timelines;
  values = IsWithin-shut w.timelines t s.values;
}
IsSound-after w (command.Fence f t p) s is =
    let has = not-false (has_timeline w.timelines t) (first_of-none (not (has_timeline w.timelines t)) NoEntry (making_file w f ++ cause (is_closed w.timelines t) AlreadyClosed ∷ []) is).0 in
    IsSound-file w s _ (record {
      since = IsAtLeast-refl (reach_of w.timelines);
      put = All-cons (IsFilePoint (length w.timelines)) (as_entry (point_of (context_of w.timelines t) p)) [] (record { usage = refl; timeline = context_of-made w.timelines t has }) (All-nil (IsFilePoint (length w.timelines)));
    })
IsSound-after w (command.Merge f a b) s is = IsSound-file w s _ (record {
  since = IsAtLeast-refl (reach_of w.timelines);
  put = All-append (IsFilePoint (length w.timelines)) (put_set w.files a) (put_set w.files b) (put_set-made w.timelines w.files a s.made) (put_set-made w.timelines w.files b s.made);
})
IsSound-after w (command.Close f) s is = record { made = All-filter (λ (g : MadeFile). not (same_name g.name f)) (WasMade w.timelines) w.files s.made; buffers = s.buffers; timelines = s.timelines; values = s.values }
IsSound-after w (command.Buffer b) s is = record {
  made = s.made;
  buffers = All-push (IsOfTimelines (length w.timelines)) w.buffers (buffer_of b []) s.buffers (All-nil (IsOfMade (length w.timelines)));
  timelines = s.timelines;
  values = s.values;
}
IsSound-after w (command.Add b t p u) s is =
    let both = not-false (has_made_buffer w.buffers b && has_timeline w.timelines t) (first_of-none (not (has_made_buffer w.buffers b && has_timeline w.timelines t)) NoEntry [] is).0 in
    let has = (and_parts (has_made_buffer w.buffers b) (has_timeline w.timelines t) both).1 in
    IsSound-put w s b (entry_of (point_of (context_of w.timelines t) p) u ∷ [])
    (All-cons (IsOfMade (length w.timelines)) (entry_of (point_of (context_of w.timelines t) p) u) [] (context_of-made w.timelines t has) (All-nil (IsOfMade (length w.timelines))))
IsSound-after w (command.Import b f flags) s is =
    IsSound-put w s b (imported flags (put_set w.files f)) (IsOfMade-imported (length w.timelines) flags (put_set w.files f) (put_set-made w.timelines w.files f s.made))
IsSound-after w (command.Export f b flags) s is = IsSound-file w s _ (record {
  since = IsAtLeast-refl (reach_of w.timelines);
  put = IsFilePoint-exported (length w.timelines) flags (buffer_put_set w.buffers b) (buffer_put_set-All (IsOfMade (length w.timelines)) w.buffers b s.buffers);
})
IsSound-after w _ s is = record { made = s.made; buffers = s.buffers; timelines = s.timelines; values = s.values }

IsSound-from : (w : World) (history : List Command) → IsSound w → AreAccepted w history → IsSound (world_from w history)
IsSound-from w [] s accepted = s
IsSound-from w (c ∷ history) s accepted = IsSound-from (after w c) history (IsSound-after w c s (causes-accepted w c accepted.0)) accepted.1

pub none_distinct : IsDistinct same_name []
unfolding IsDistinct
none_distinct = tt

pub IsSound-history : (history : List Command) → IsHistory history → IsSound (world_of history)
IsSound-history history accepted = IsSound-from empty_world history (record { made = All-nil (WasMade []); buffers = All-nil (IsOfTimelines 0); timelines = record { distinct = none_distinct; room = omega arith }; values = All-nil IsWithin }) accepted
