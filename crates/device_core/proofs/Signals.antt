-- The signals of files' fences along a history, and whether they are cancellations.
use Rattle.std.proofs.Common.{◌≡◌, ℕ, ◌+◌, ◌<◌, ◌≤◌, ◌⊎◌, inl, inr, Bool, true, false, not, ◌&&◌, cond, nat_eq, nat_le, nat_lt, refl, sym, ap, ◌∙◌, subst, List, [], ◌∷◌, ◌++◌, append_assoc, append-nil, map, Option, None, Some, is_some, option_map, Result, Ok, Err, All, if◌then◌else◌, arith}
use Rattle.std.proofs.lemmas.Bool.{and_parts, cases_Bool, cases_eq, cases_lt, eq-eqb, eqb-true, ne_eqb, false≢true, le-leb, le-ltb, leb-true, lt-leb, lt-ltb, ltb-true, ltb-false}
use Rattle.std.proofs.lemmas.List.Elements.{All-nil, All-cons, All-head, All-tail, All-weaker, filter_passes}
use Rattle.point_core.specs.declared.entry.Point.{Point}
use Rattle.point_core.specs.declared.entry.Usage.{Usage}
use Rattle.point_core.specs.declared.status.Status.{Status}
use Rattle.point_core.specs.declared.status.Status.TheVariants.{Active, Signalled, Cancelled}
use Rattle.point_core.specs.Reach.{GREATEST, is_reached, value_at}
use Rattle.device_core.specs.declared.fence.Fence.{Fence}
use Rattle.device_core.specs.declared.fence.Signal.{Signal}
use Rattle.device_core.specs.declared.text.Text.{Text}
use Rattle.device_core.specs.declared.fence.Timeline.{Timeline}
use Rattle.device_core.specs.declared.errno.Errno.{Errno}
use Rattle.device_core.specs.declared.request.Request.{Request}
use Rattle.device_core.specs.declared.request.Request.TheVariants as request
use Rattle.device_core.specs.theorem.Wrapping.{unwrapped}
use Rattle.device_core.specs.theorem.Fences.{all_signalled_by, is_due, is_pending, merged, pending_of, point_in, signal_at, signalled_by, status_before, status_of}
use Rattle.device_core.specs.theorem.Buffers.{BufferState, export_usage}
use Rattle.device_core.specs.theorem.State.{FileState, Objects, export_of, fence_at, file_signalled, merged_files, missing_timeline, one_fence_file}
use Rattle.device_core.specs.theorem.Request.{cause_of, closed_timeline, dropped, overflow, value_in, with_at}
use Rattle.device_core.specs.theorem.History.{AreAccepted, World, added_by, empty_world, reach_of, sum_of, world_after, world_from, world_of}
use Rattle.device_core.specs.Sound.{IsFence, IsSound, is_above}
use Rattle.device_core.specs.theorem.Signals.{first_status, point_status, time_in}
use Rattle.device_core.proofs.Placed.{fold-All}
use Rattle.device_core.proofs.Histories.{world_from-push}
use Rattle.device_core.proofs.Sound.{with_at-same, with_at-other, fence-reached}
use Rattle.device_core.proofs.Pending.{exported-pending, fence-above}
use Rattle.device_core.proofs.Reporting.{HasSums, HasSums-after, HasSums-empty, HasSums-history, sum-push}
use Rattle.device_core.proofs.Stepping.{same_Some, None≢Some, no_cause, numbered, IsSound-after, IsSound-empty, IsSound-history}

-- there is a file of that number, and its timeline has reached the point
abbrev pub has_reached_in : ℕ → Point → World → Bool
has_reached_in file p w = is_some (w.objects.files file) && is_reached (reach_of w.objects) p

-- the time of the first request after which that holds, along the worlds of a history
abbrev pub reached_in : ℕ → Point → World → List Request → Option ℕ
reached_in file p w [] = None
reached_in file p w (r ∷ rs) =
    if has_reached_in file p (world_after w r) then Some (time_in r) else reached_in file p (world_after w r) rs

-- the earlier of two times
abbrev or_time : Option ℕ → Option ℕ → Option ℕ
or_time None later = later
or_time (Some t) later = Some t

reached_in-push : (rs : List Request) (w : World) (r : Request) (n : ℕ) (p : Point) → reached_in n p w (rs ++ r ∷ []) ≡ or_time (reached_in n p w rs) (if has_reached_in n p (world_after (world_from w rs) r) then Some (time_in r) else None)
reached_in-push [] w r n p = refl
reached_in-push (x ∷ xs) w r n p = go (cases_Bool (has_reached_in n p (world_after w x))) (reached_in-push xs (world_after w x) r n p)
  where
    go : (has_reached_in n p (world_after w x) ≡ true) ⊎ (has_reached_in n p (world_after w x) ≡ false) → reached_in n p (world_after w x) (xs ++ r ∷ []) ≡ or_time (reached_in n p (world_after w x) xs) (if has_reached_in n p (world_after (world_from (world_after w x) xs) r) then Some (time_in r) else None) → reached_in n p w (x ∷ xs ++ r ∷ []) ≡ or_time (reached_in n p w (x ∷ xs)) (if has_reached_in n p (world_after (world_from w (x ∷ xs)) r) then Some (time_in r) else None)
    go (inl is) rest = rw is refl
    go (inr not) rest = rw not rest

-- the facts about a fence of a file after a history
record IsTold (before : List Request) (n : ℕ) (g : Fence) : Type 0 where
  pub time : option_map (λ (s : Signal). s.at) g.signal ≡ reached_in n (point_in g) empty_world before
  pub cancelled : (s : Signal) → g.signal ≡ Some s → s.is_cancelled ≡ nat_lt (sum_of g.timeline before) g.value

record HasSignals (w : World) (before : List Request) : Type 0 where
  pub files : (n : ℕ) (f : FileState) → w.objects.files n ≡ Some f → All (IsTold before n) f.fences
  pub none : (n : ℕ) (p : Point) → w.objects.next ≤ n → reached_in n p empty_world before ≡ None

-- a fence that is pending is not reached, and one that has signalled is
pending-none : (g : Fence) → is_pending g ≡ true → g.signal ≡ None
pending-none g is = go g.signal is
  where
    go : (o : Option Signal) → not (is_some o) ≡ true → o ≡ None
    go None h = refl
    go (Some s) h = absurd (false≢true h)

reached-test : (v : World) (n : ℕ) (f : FileState) (g : Fence) → v.objects.files n ≡ Some f → IsFence v.objects g → has_reached_in n (point_in g) v ≡ not (is_pending g)
reached-test v n f g there is =
    let here : is_some (v.objects.files n) ≡ true = ap is_some there in
    rw here (elim (cases_Bool (is_pending g)) [
      | inl waits ↦ rw waits (lt-leb g.value (value_at (reach_of v.objects) g.timeline) (fence-above v.objects g is waits))
      | inr not ↦ rw not (le-leb g.value (value_at (reach_of v.objects) g.timeline) (fence-reached v.objects g is not))
    ])

-- its time after another request: its signal is unchanged, or came with that request
abbrev Came : Request → Option Signal → Option Signal → Type 0
Came r old new = (new ≡ old) ⊎ ((old ≡ None) × ((s : Signal) → new ≡ Some s → s.at ≡ time_in r))

time-after : (r : Request) (old new : Option Signal) (seen : Option ℕ) → Came r old new → option_map (λ (s : Signal). s.at) old ≡ seen → option_map (λ (s : Signal). s.at) new ≡ or_time seen (if not (not (is_some new)) then Some (time_in r) else None)
time-after r None None seen how was = ap (λ o. or_time o None) was
time-after r (Some s) None seen (inl same) was = None≢Some s same
time-after r (Some s) None seen (inr came) was = None≢Some s (sym came.0)
time-after r None (Some s) seen (inl same) was = None≢Some s (sym same)
time-after r None (Some s) seen (inr came) was = ap Some (came.1 s refl) ∙ ap (λ o. or_time o (Some (time_in r))) was
time-after r (Some x) (Some s) seen (inl same) was = ap (λ (o : Option Signal). option_map (λ (y : Signal). y.at) o) same ∙ ap (λ o. or_time o (Some (time_in r))) was
time-after r (Some x) (Some s) seen (inr came) was = None≢Some x (sym came.0)

-- a fence after another request
told-after : (before : List Request) (w : World) (r : Request) (n : ℕ) (f : FileState) (g h : Fence) → w ≡ world_of before → (world_after w r).objects.files n ≡ Some f → IsFence (world_after w r).objects h → point_in h ≡ point_in g → Came r g.signal h.signal
    → ((s : Signal) → h.signal ≡ Some s → s.is_cancelled ≡ nat_lt (sum_of h.timeline (before ++ r ∷ [])) h.value)
    → option_map (λ (s : Signal). s.at) g.signal ≡ reached_in n (point_in g) empty_world before
    → IsTold (before ++ r ∷ []) n h
told-after before w r n f g h is there fence same how cancelled time = record {
  time =
      time-after r g.signal h.signal (reached_in n (point_in g) empty_world before) how time
      ∙ ap (λ b. or_time (reached_in n (point_in g) empty_world before) (if b then Some (time_in r) else None)) (sym (reached-test (world_after w r) n f h there fence))
      ∙ ap (λ (x : World). or_time (reached_in n (point_in g) empty_world before) (if has_reached_in n (point_in h) (world_after x r) then Some (time_in r) else None)) is
      ∙ ap (λ (p : Point). or_time (reached_in n p empty_world before) (if has_reached_in n (point_in h) (world_after (world_of before) r) then Some (time_in r) else None)) (sym same)
      ∙ sym (reached_in-push before empty_world r n (point_in h));
  cancelled = cancelled;
}

-- the sum of a timeline to which a request adds nothing
sum-same : (t : ℕ) (before : List Request) (r : Request) → added_by t r ≡ 0 → sum_of t (before ++ r ∷ []) ≡ sum_of t before
sum-same t before r idle = let push = sum-push t before r in omega (arith, push, idle)

cancelled-same : (before : List Request) (r : Request) (g : Fence) → added_by g.timeline r ≡ 0 → ((s : Signal) → g.signal ≡ Some s → s.is_cancelled ≡ nat_lt (sum_of g.timeline before) g.value) → (s : Signal) → g.signal ≡ Some s → s.is_cancelled ≡ nat_lt (sum_of g.timeline (before ++ r ∷ [])) g.value
cancelled-same before r g idle was s is = was s is ∙ ap (λ k. nat_lt k g.value) (sym (sum-same g.timeline before r idle))

-- fences of a file that is unchanged
all-same : (before : List Request) (w : World) (r : Request) (n : ℕ) (f : FileState) (fs : List Fence) → w ≡ world_of before → (world_after w r).objects.files n ≡ Some f → ((t : ℕ) → added_by t r ≡ 0) → All (IsFence (world_after w r).objects) fs → All (IsTold before n) fs → All (IsTold (before ++ r ∷ []) n) fs
all-same before w r n f [] is there idle each told = All-nil (IsTold (before ++ r ∷ []) n)
all-same before w r n f (g ∷ gs) is there idle each told =
    let was = All-head (IsTold before n) g gs told in
    let fence = All-head (IsFence (world_after w r).objects) g gs each in
    All-cons (IsTold (before ++ r ∷ []) n) g gs
    (told-after before w r n f g g is there fence refl (inl refl) (cancelled-same before r g (idle g.timeline) was.cancelled) was.time)
    (all-same before w r n f gs is there idle (All-tail (IsFence (world_after w r).objects) g gs each) (All-tail (IsTold before n) g gs told))

-- no file has a number that was not given
none-after : (before : List Request) (w : World) (r : Request) → w ≡ world_of before → IsSound (world_after w r) → w.objects.next ≤ (world_after w r).objects.next → HasSignals w before → (n : ℕ) (p : Point) → (world_after w r).objects.next ≤ n → reached_in n p empty_world (before ++ r ∷ []) ≡ None
none-after before w r is sound more h n p past =
    let gone : is_some ((world_after w r).objects.files n) ≡ false = ap is_some (sound.files n past) in
    let test : has_reached_in n p (world_after w r) ≡ false = ap (λ b. b && is_reached (reach_of (world_after w r).objects) p) gone in
    reached_in-push before empty_world r n p
    ∙ ap (λ (x : World). or_time (reached_in n p empty_world before) (if has_reached_in n p (world_after x r) then Some (time_in r) else None)) (sym is)
    ∙ ap (λ b. or_time (reached_in n p empty_world before) (if b then Some (time_in r) else None)) test
    ∙ ap (λ o. or_time o None) (h.none n p (omega arith))

HasSignals-same : (before : List Request) (w : World) (r : Request) → w ≡ world_of before → IsSound (world_after w r) → w.objects.next ≤ (world_after w r).objects.next → (world_after w r).objects.files ≡ w.objects.files → ((t : ℕ) → added_by t r ≡ 0) → HasSignals w before → HasSignals (world_after w r) (before ++ r ∷ [])
HasSignals-same before w r is sound more same idle h = record {
  files = λ n f there. all-same before w r n f f.fences is there idle (sound.fences n f there).each (h.files n f (sym (ap (λ fs. fs n) same) ∙ there));
  none = λ n p past. none-after before w r is sound more h n p past;
}

-- a fence that signals with a timeline
signal-came : (t v : ℕ) (s : Signal) (g : Fence) → ((signalled_by t v s g).signal ≡ g.signal) ⊎ ((is_due t v g ≡ true) × ((signalled_by t v s g).signal ≡ Some s))
signal-came t v s g = elim (cases_Bool (is_due t v g)) [
  | inl due ↦ inr (due, ap (λ b. (cond b (record g { signal = Some s }) g).signal) due)
  | inr not ↦ inl (ap (λ b. (cond b (record g { signal = Some s }) g).signal) not)
]

due-pending : (t v : ℕ) (g : Fence) → is_due t v g ≡ true → (is_pending g ≡ true) × (g.timeline ≡ t) × (g.value ≤ v)
due-pending t v g due =
    let parts = and_parts (is_pending g && nat_eq g.timeline t) (nat_le g.value v) due in
    let front = and_parts (is_pending g) (nat_eq g.timeline t) parts.0 in
    (front.0, eqb-true g.timeline t front.1, leb-true g.value v parts.1)

same-point : (t v : ℕ) (s : Signal) (g : Fence) → point_in (signalled_by t v s g) ≡ point_in g
same-point t v s g = elim (cases_Bool (is_due t v g)) [
  | inl due ↦ ap (λ b. point_in (cond b (record g { signal = Some s }) g)) due
  | inr not ↦ ap (λ b. point_in (cond b (record g { signal = Some s }) g)) not
]

-- an open timeline is at the sum of its increments, and its signalled fences are not above it
settled-low : (w : World) (before : List Request) (g : Fence) (t : ℕ) (k : Timeline) → HasSums w before → IsFence w.objects g → w.objects.timelines t ≡ Some k → g.timeline ≡ t → is_pending g ≡ false → g.value ≤ sum_of g.timeline before
settled-low w before g t k sums fence there its not =
    let here : w.objects.timelines g.timeline ≡ Some k = ap w.objects.timelines its ∙ there in
    let sum = sums.values g.timeline k here in
    let low = ltb-false k.value g.value (sym (ap (λ o. is_above o g.value) here) ∙ sym fence.pending ∙ not) in
    omega (arith, sum, low)

pending-high : (w : World) (before : List Request) (g : Fence) (t : ℕ) (k : Timeline) → HasSums w before → IsFence w.objects g → w.objects.timelines t ≡ Some k → g.timeline ≡ t → is_pending g ≡ true → sum_of g.timeline before < g.value
pending-high w before g t k sums fence there its waits =
    let here : w.objects.timelines g.timeline ≡ Some k = ap w.objects.timelines its ∙ there in
    let sum = sums.values g.timeline k here in
    let high = ltb-true k.value g.value (sym (ap (λ o. is_above o g.value) here) ∙ sym fence.pending ∙ waits) in
    omega (arith, sum, high)

-- how a request signals: with its time, and as cancelled exactly if the sum is below the point
record IsSignalling (before : List Request) (w : World) (r : Request) (t v : ℕ) (s : Signal) : Type 0 where
  pub time : s.at ≡ time_in r
  -- a fence that is due
  pub due : (g : Fence) → IsFence w.objects g → is_due t v g ≡ true → s.is_cancelled ≡ nat_lt (sum_of g.timeline (before ++ r ∷ [])) g.value
  -- a fence that had signalled
  pub settled : (g : Fence) → IsFence w.objects g → is_pending g ≡ false → nat_lt (sum_of g.timeline before) g.value ≡ nat_lt (sum_of g.timeline (before ++ r ∷ [])) g.value

signalled-pending : (g : Fence) (s : Signal) → g.signal ≡ Some s → is_pending g ≡ false
signalled-pending g s is = ap (λ (o : Option Signal). not (is_some o)) is

cancelled-after : (before : List Request) (w : World) (r : Request) (t v : ℕ) (s : Signal) (g : Fence) → IsSignalling before w r t v s → IsFence w.objects g → ((x : Signal) → g.signal ≡ Some x → x.is_cancelled ≡ nat_lt (sum_of g.timeline before) g.value)
    → (x : Signal) → (signalled_by t v s g).signal ≡ Some x → x.is_cancelled ≡ nat_lt (sum_of g.timeline (before ++ r ∷ [])) g.value
cancelled-after before w r t v s g how fence was x is = elim (signal-came t v s g) [
  | inl same ↦
      let its = sym same ∙ is in
      was x its ∙ how.settled g fence (signalled-pending g x its)
  | inr came ↦ ap (λ (y : Signal). y.is_cancelled) (sym (same_Some (sym came.1 ∙ is))) ∙ how.due g fence came.0
]

signals-how : (r : Request) (t v : ℕ) (s : Signal) (g : Fence) → s.at ≡ time_in r → Came r g.signal (signalled_by t v s g).signal
signals-how r t v s g time = elim (signal-came t v s g) [
  | inl same ↦ inl same
  | inr came ↦ inr (pending-none g (due-pending t v g came.0).0, λ x is. ap (λ (y : Signal). y.at) (sym (same_Some (sym came.1 ∙ is))) ∙ time)
]

all-signalled : (before : List Request) (w : World) (r : Request) (n t v : ℕ) (s : Signal) (f : FileState) (fs : List Fence) → w ≡ world_of before → (world_after w r).objects.files n ≡ Some f → IsSignalling before w r t v s → All (IsFence w.objects) fs → All (IsFence (world_after w r).objects) (all_signalled_by t v s fs) → All (IsTold before n) fs → All (IsTold (before ++ r ∷ []) n) (all_signalled_by t v s fs)
all-signalled before w r n t v s f [] is there how old new told = All-nil (IsTold (before ++ r ∷ []) n)
all-signalled before w r n t v s f (g ∷ gs) is there how old new told =
    let was = All-head (IsTold before n) g gs told in
    let h = signalled_by t v s g in
    let rest = all_signalled_by t v s gs in
    let fence = All-head (IsFence w.objects) g gs old in
    let P : Point → Type 0 = λ p. (x : Signal) → h.signal ≡ Some x → x.is_cancelled ≡ nat_lt (sum_of p.ctx (before ++ r ∷ [])) p.value in
    All-cons (IsTold (before ++ r ∷ []) n) h rest
    (told-after before w r n f g h is there (All-head (IsFence (world_after w r).objects) h rest new) (same-point t v s g) (signals-how r t v s g how.time)
    (subst P (sym (same-point t v s g)) (cancelled-after before w r t v s g how fence was.cancelled)) was.time)
    (all-signalled before w r n t v s f gs is there how (All-tail (IsFence w.objects) g gs old) (All-tail (IsFence (world_after w r).objects) h rest new) (All-tail (IsTold before n) g gs told))

file-signals : (before : List Request) (w : World) (r : Request) (n t v : ℕ) (s : Signal) (o : Option FileState) (f : FileState) → w ≡ world_of before → IsSound w → IsSound (world_after w r) → w.objects.files n ≡ o → (world_after w r).objects.files n ≡ Some f → option_map (file_signalled t v s) o ≡ Some f → IsSignalling before w r t v s → HasSignals w before → All (IsTold (before ++ r ∷ []) n) f.fences
file-signals before w r n t v s None f is sound later was there its how h = None≢Some f its
file-signals before w r n t v s (Some g) f is sound later was there its how h =
    let fs : all_signalled_by t v s g.fences ≡ f.fences = ap (λ (x : FileState). x.fences) (same_Some its) in
    subst (All (IsTold (before ++ r ∷ []) n)) fs
    (all-signalled before w r n t v s f g.fences is there how (sound.fences n g was).each
    (subst (All (IsFence (world_after w r).objects)) (sym fs) (later.fences n f there).each) (h.files n g was))

HasSignals-signals : (before : List Request) (w : World) (r : Request) (t v : ℕ) (s : Signal) → w ≡ world_of before → IsSound w → IsSound (world_after w r) → w.objects.next ≤ (world_after w r).objects.next → ((n : ℕ) → (world_after w r).objects.files n ≡ option_map (file_signalled t v s) (w.objects.files n)) → IsSignalling before w r t v s → HasSignals w before → HasSignals (world_after w r) (before ++ r ∷ [])
HasSignals-signals before w r t v s is sound later more files how h = record {
  files = λ n f there. file-signals before w r n t v s (w.objects.files n) f is sound later refl there (sym (files n) ∙ there) how h;
  none = λ n p past. none-after before w r is later more h n p past;
}

-- an increment
inc-signals : (before : List Request) (w : World) (t n now : ℕ) (k : Timeline) → HasSums w before → w.objects.timelines t ≡ Some k → IsSignalling before w (request.Inc t n now) t (k.value + n) (signal_at now false)
inc-signals before w t n now k sums there = record {
  time = refl;
  due = λ g fence due.
      let parts = due-pending t (k.value + n) g due in
      let low = parts.2 in
      let sum : k.value ≡ sum_of g.timeline before = sums.values g.timeline k (ap w.objects.timelines parts.1 ∙ there) in
      let push = sum-push g.timeline before (request.Inc t n now) in
      let adds : added_by g.timeline (request.Inc t n now) ≡ n = ap (λ b. cond b n 0) (eq-eqb t g.timeline (sym parts.1)) in
      sym (le-ltb (sum_of g.timeline (before ++ request.Inc t n now ∷ [])) g.value (omega (arith, low, sum, push, adds)));
  settled = λ g fence not. elim (cases_eq t g.timeline) [
    | inl same ↦
        let low = settled-low w before g t k sums fence there (sym same) not in
        let push = sum-push g.timeline before (request.Inc t n now) in
        le-ltb (sum_of g.timeline before) g.value low ∙ sym (le-ltb (sum_of g.timeline (before ++ request.Inc t n now ∷ [])) g.value (omega (arith, low, push)))
    | inr apart ↦ ap (λ m. nat_lt m g.value) (sym (sum-same g.timeline before (request.Inc t n now) (ap (λ b. cond b n 0) (ne_eqb t g.timeline apart))))
  ];
}

-- the closing of a timeline
close-signals : (before : List Request) (w : World) (t now : ℕ) (k : Timeline) → HasSums w before → w.objects.timelines t ≡ Some k → IsSignalling before w (request.Close t now) t GREATEST (signal_at now true)
close-signals before w t now k sums there = record {
  time = refl;
  due = λ g fence due.
      let parts = due-pending t GREATEST g due in
      let high = pending-high w before g t k sums fence there parts.1 parts.0 in
      let same = sum-same g.timeline before (request.Close t now) refl in
      sym (lt-ltb (sum_of g.timeline (before ++ request.Close t now ∷ [])) g.value (omega (arith, high, same)));
  settled = λ g fence not. ap (λ m. nat_lt m g.value) (sym (sum-same g.timeline before (request.Close t now) refl));
}

-- a number whose file is closed
HasSignals-dropped : (before : List Request) (w : World) (number now : ℕ) → w ≡ world_of before → IsSound (world_after w (request.Close number now)) → w.objects.timelines number ≡ None → HasSignals w before → HasSignals (world_after w (request.Close number now)) (before ++ request.Close number now ∷ [])
HasSignals-dropped before w number now is sound gone h =
    let r = request.Close number now in
    let v = world_after w r in
    let files : (n : ℕ) → v.objects.files n ≡ with_at w.objects.files number None n = λ n. ap (λ o. (cond (is_some o) (closed_timeline w.objects number now) (dropped w.objects number)).files n) gone in
    let next : v.objects.next ≡ w.objects.next = ap (λ o. (cond (is_some o) (closed_timeline w.objects number now) (dropped w.objects number)).next) gone in
    record {
      files = λ n f there. elim (cases_eq number n) [
        | inl same ↦ None≢Some f (sym (with_at-same w.objects.files number None) ∙ ap (with_at w.objects.files number None) same ∙ sym (files n) ∙ there)
        | inr apart ↦
            all-same before w r n f f.fences is there (λ t. refl) (sound.fences n f there).each
            (h.files n f (sym (with_at-other w.objects.files number None n apart) ∙ sym (files n) ∙ there))
      ];
      none = λ n p past. none-after before w r is sound (omega (arith, next)) h n p past;
    }

-- a new file: its fences signalled with the request that made it, if at all
told-new : (before : List Request) (w : World) (r : Request) (n : ℕ) (f : FileState) (g : Fence) → w ≡ world_of before → (world_after w r).objects.files n ≡ Some f → IsFence (world_after w r).objects g → w.objects.next ≤ n → HasSignals w before
    → ((s : Signal) → g.signal ≡ Some s → (s.at ≡ time_in r) × (s.is_cancelled ≡ nat_lt (sum_of g.timeline (before ++ r ∷ [])) g.value)) → IsTold (before ++ r ∷ []) n g
told-new before w r n f g is there fence new h how =
    told-after before w r n f (record g { signal = None }) g is there fence refl (inr (refl, λ s its. (how s its).0)) (λ s its. (how s its).1) (sym (h.none n (point_in g) new))

all-new : (before : List Request) (w : World) (r : Request) (n : ℕ) (f : FileState) (fs : List Fence) → w ≡ world_of before → (world_after w r).objects.files n ≡ Some f → w.objects.next ≤ n → HasSignals w before → All (IsFence (world_after w r).objects) fs → All (λ (g : Fence). is_pending g ≡ true) fs → All (IsTold (before ++ r ∷ []) n) fs
all-new before w r n f [] is there new h each waits = All-nil (IsTold (before ++ r ∷ []) n)
all-new before w r n f (g ∷ gs) is there new h each waits =
    let P : Fence → Type 0 = λ x. is_pending x ≡ true in
    let none = pending-none g (All-head P g gs waits) in
    All-cons (IsTold (before ++ r ∷ []) n) g gs
    (told-new before w r n f g is there (All-head (IsFence (world_after w r).objects) g gs each) new h (λ s its. None≢Some s (sym none ∙ its)))
    (all-new before w r n f gs is there new h (All-tail (IsFence (world_after w r).objects) g gs each) (All-tail P g gs waits))

HasSignals-new : (before : List Request) (w : World) (r : Request) (file : Option FileState) → w ≡ world_of before → IsSound (world_after w r) → (world_after w r).objects.next ≡ w.objects.next + 1 → ((n : ℕ) → (world_after w r).objects.files n ≡ with_at w.objects.files w.objects.next file n) → ((t : ℕ) → added_by t r ≡ 0) → HasSignals w before
    → ((f : FileState) → (world_after w r).objects.files w.objects.next ≡ Some f → file ≡ Some f → All (IsTold (before ++ r ∷ []) w.objects.next) f.fences) → HasSignals (world_after w r) (before ++ r ∷ [])
HasSignals-new before w r file is sound next files idle h new = record {
  files = λ n f there. elim (cases_eq w.objects.next n) [
    | inl same ↦
        let here = ap (world_after w r).objects.files same ∙ there in
        subst (λ m. All (IsTold (before ++ r ∷ []) m) f.fences) same (new f here (sym (with_at-same w.objects.files w.objects.next file) ∙ sym (files w.objects.next) ∙ here))
    | inr apart ↦ all-same before w r n f f.fences is there idle (sound.fences n f there).each (h.files n f (sym (with_at-other w.objects.files w.objects.next file n apart) ∙ sym (files n) ∙ there))
  ];
  none = λ n p past. none-after before w r is sound (omega (arith, next)) h n p past;
}

-- the fence of a point that is asked for
fence-new : (before : List Request) (w : World) (t point now : ℕ) (k : Timeline) → HasSums w before → w.objects.timelines t ≡ Some k → (s : Signal) → (fence_at t k point now).signal ≡ Some s → (s.at ≡ now) × (s.is_cancelled ≡ nat_lt (sum_of t (before ++ request.Fence t point now ∷ [])) (unwrapped k.value point))
fence-new before w t point now k sums there s is = elim (cases_lt k.value (unwrapped k.value point)) [
  | inl above ↦ None≢Some s (sym (ap (λ b. cond b (Some (signal_at now false)) None) (lt-leb (unwrapped k.value point) k.value above)) ∙ is)
  | inr low ↦
      let came : signal_at now false ≡ s = same_Some (sym (ap (λ b. cond b (Some (signal_at now false)) None) (le-leb (unwrapped k.value point) k.value low)) ∙ is) in
      let sum : k.value ≡ sum_of t before = sums.values t k there in
      let same = sum-same t before (request.Fence t point now) refl in (
        sym (ap (λ (x : Signal). x.at) came),
        sym (ap (λ (x : Signal). x.is_cancelled) came) ∙ sym (le-ltb (sum_of t (before ++ request.Fence t point now ∷ [])) (unwrapped k.value point) (omega (arith, low, sum, same))),
      )
]

one-told : (before : List Request) (w : World) (t point now : ℕ) (f : FileState) → w ≡ world_of before → (k : Timeline) → w.objects.timelines t ≡ Some k → HasSums w before → HasSignals w before → (world_after w (request.Fence t point now)).objects.files w.objects.next ≡ Some f → option_map (λ j. one_fence_file t j point now) (w.objects.timelines t) ≡ Some f → All (IsFence (world_after w (request.Fence t point now)).objects) f.fences → All (IsTold (before ++ request.Fence t point now ∷ []) w.objects.next) f.fences
one-told before w t point now f is k there sums h made its each =
    let r = request.Fence t point now in
    let fs : fence_at t k point now ∷ [] ≡ f.fences = ap (λ (x : FileState). x.fences) (same_Some (sym (ap (option_map (λ j. one_fence_file t j point now)) there) ∙ its)) in
    let all : All (IsFence (world_after w r).objects) (fence_at t k point now ∷ []) = subst (All (IsFence (world_after w r).objects)) (sym fs) each in
    subst (All (IsTold (before ++ r ∷ []) w.objects.next)) fs
    (All-cons (IsTold (before ++ r ∷ []) w.objects.next) (fence_at t k point now) []
    (told-new before w r w.objects.next f (fence_at t k point now) is made (All-head (IsFence (world_after w r).objects) (fence_at t k point now) [] all) (omega arith) h (fence-new before w t point now k sums there))
    (All-nil (IsTold (before ++ r ∷ []) w.objects.next)))

-- the fences of a merge and of an export are pending
pub merged-pending : (fs gs : List Fence) → All (λ (g : Fence). is_pending g ≡ true) (merged fs gs)
merged-pending fs gs = fold-All (λ (g : Fence). is_pending g ≡ true) (pending_of gs) (pending_of fs) (filter_passes is_pending fs) (filter_passes is_pending gs)

merge-pending : (name : Text) (o p : Option FileState) (f : FileState) → merged_files name o p ≡ Some f → All (λ (g : Fence). is_pending g ≡ true) f.fences
merge-pending name None p f is = None≢Some f is
merge-pending name (Some a) None f is = None≢Some f is
merge-pending name (Some a) (Some b) f is = subst (All (λ (g : Fence). is_pending g ≡ true)) (ap (λ (x : FileState). x.fences) (same_Some is)) (merged-pending a.fences b.fences)

export-waits : (timelines : ℕ → Option Timeline) (u : Result Usage Errno) (o : Option BufferState) (f : FileState) → export_of timelines u o ≡ Some f → All (λ (g : Fence). is_pending g ≡ true) f.fences
export-waits timelines (Err e) o f is = None≢Some f is
export-waits timelines (Ok usage) None f is = None≢Some f is
export-waits timelines (Ok usage) (Some b) f is = subst (All (λ (g : Fence). is_pending g ≡ true)) (ap (λ (x : FileState). x.fences) (same_Some is)) (exported-pending timelines usage b.fences)

HasSignals-after : (before : List Request) (w : World) (r : Request) → w ≡ world_of before → IsSound w → cause_of w.objects r ≡ None → HasSums w before → HasSignals w before → IsSound (world_after w r) → HasSignals (world_after w r) (before ++ r ∷ [])
HasSignals-after before w (request.Open name) is sound none sums h later = HasSignals-same before w (request.Open name) is later (omega arith) refl (λ t. refl) h
HasSignals-after before w (request.Fence t point now) is sound none sums h later =
    let r = request.Fence t point now in
    let cause = overflow (unwrapped (value_in (w.objects.timelines t)) point) in
    let there = no_cause (w.objects.timelines t) cause (missing_timeline w.objects t) (numbered w.objects (cond (is_some (w.objects.timelines t)) cause (Some (missing_timeline w.objects t))) none) in
    HasSignals-new before w r (option_map (λ j. one_fence_file t j point now) (w.objects.timelines t)) is later refl (λ n. refl) (λ q. refl) h
    (λ f made its. one-told before w t point now f is there.0 there.1 sums h made its (later.fences w.objects.next f made).each)
HasSignals-after before w (request.Inc t n now) is sound none sums h later =
    let r = request.Inc t n now in
    let there = no_cause (w.objects.timelines t) (overflow (value_in (w.objects.timelines t) + n)) (missing_timeline w.objects t) none in
    let k = there.0 in
    HasSignals-signals before w r t (k.value + n) (signal_at now false) is sound later (omega arith)
    (λ q. ap (λ o. option_map (file_signalled t (value_in o + n) (signal_at now false)) (w.objects.files q)) there.1)
    (inc-signals before w t n now k sums there.1) h
HasSignals-after before w (request.Merge a b name) is sound none sums h later =
    let r = request.Merge a b name in
    HasSignals-new before w r (merged_files name (w.objects.files a) (w.objects.files b)) is later refl (λ n. refl) (λ q. refl) h
    (λ f made its. all-new before w r w.objects.next f f.fences is made (omega arith) h (later.fences w.objects.next f made).each (merge-pending name (w.objects.files a) (w.objects.files b) f its))
HasSignals-after before w (request.Status file) is sound none sums h later = HasSignals-same before w (request.Status file) is later (omega arith) refl (λ t. refl) h
HasSignals-after before w (request.IsSignalled file) is sound none sums h later = HasSignals-same before w (request.IsSignalled file) is later (omega arith) refl (λ t. refl) h
HasSignals-after before w (request.Info file) is sound none sums h later = HasSignals-same before w (request.Info file) is later (omega arith) refl (λ t. refl) h
HasSignals-after before w (request.Close number now) is sound none sums h later = go (w.objects.timelines number) refl
  where
    go : (o : Option Timeline) → w.objects.timelines number ≡ o → HasSignals (world_after w (request.Close number now)) (before ++ request.Close number now ∷ [])
    go None gone = HasSignals-dropped before w number now is later gone h
    go (Some k) there =
        let r = request.Close number now in
        let objects : (world_after w r).objects ≡ closed_timeline w.objects number now = ap (λ o. cond (is_some o) (closed_timeline w.objects number now) (dropped w.objects number)) there in
        let next : (world_after w r).objects.next ≡ w.objects.next = ap (λ (d : Objects). d.next) objects in
        HasSignals-signals before w r number GREATEST (signal_at now true) is sound later (omega (arith, next))
        (λ n. ap (λ (d : Objects). d.files n) objects)
        (close-signals before w number now k sums there) h
HasSignals-after before w (request.Buffer now) is sound none sums h later = HasSignals-same before w (request.Buffer now) is later (omega arith) refl (λ t. refl) h
HasSignals-after before w (request.Export buffer flags) is sound none sums h later =
    let r = request.Export buffer flags in
    HasSignals-new before w r (export_of w.objects.timelines (export_usage flags) (w.objects.buffers buffer)) is later refl (λ n. refl) (λ q. refl) h
    (λ f made its. all-new before w r w.objects.next f f.fences is made (omega arith) h (later.fences w.objects.next f made).each (export-waits w.objects.timelines (export_usage flags) (w.objects.buffers buffer) f its))
HasSignals-after before w (request.Import buffer file flags) is sound none sums h later = HasSignals-same before w (request.Import buffer file flags) is later (omega arith) refl (λ t. refl) h
HasSignals-after before w (request.Test buffer usage) is sound none sums h later = HasSignals-same before w (request.Test buffer usage) is later (omega arith) refl (λ t. refl) h

HasSignals-from : (history : List Request) (w : World) (before : List Request) → w ≡ world_of before → IsSound w → AreAccepted w history → HasSums w before → HasSignals w before → HasSignals (world_from w history) (before ++ history)
HasSignals-from [] w before is sound accepted sums h = subst (HasSignals w) (sym (append-nil before)) h
HasSignals-from (r ∷ rs) w before is sound accepted sums h =
    let later = IsSound-after w r sound accepted.0 in
    let next : world_after w r ≡ world_of (before ++ r ∷ []) = ap (λ x. world_after x r) is ∙ sym (world_from-push before empty_world r) in
    subst (HasSignals (world_from (world_after w r) rs)) (append_assoc before (r ∷ []) rs)
    (HasSignals-from rs (world_after w r) (before ++ r ∷ []) next later accepted.1 (HasSums-after w before r sound accepted.0 sums) (HasSignals-after before w r is sound accepted.0 sums h later))

-- the status that such a fence has
told-status : (w : World) (history : List Request) (n : ℕ) (g : Fence) → HasSums w history → IsFence w.objects g → IsTold history n g → status_before g.signal Signalled ≡ point_status w.objects.timelines history (point_in g)
told-status w history n g sums fence told = go g.signal refl (w.objects.timelines g.timeline) refl
  where
    go : (o : Option Signal) → g.signal ≡ o → (p : Option Timeline) → w.objects.timelines g.timeline ≡ p → status_before o Signalled ≡ point_status w.objects.timelines history (point_in g)
    go None is None gone = absurd (false≢true (sym (ap (λ q. is_above q g.value) gone) ∙ sym fence.pending ∙ ap (λ (o : Option Signal). not (is_some o)) is))
    go None is (Some k) there =
        let high = pending-high w history g g.timeline k sums fence there refl (ap (λ (o : Option Signal). not (is_some o)) is) in
        rw (lt-leb g.value (sum_of g.timeline history) high, there) refl
    go (Some s) is p there = elim (cases_lt (sum_of g.timeline history) g.value) [
      | inl high ↦
          let cancelled : s.is_cancelled ≡ true = told.cancelled s is ∙ lt-ltb (sum_of g.timeline history) g.value high in
          rw (cancelled, lt-leb g.value (sum_of g.timeline history) high) (closed p there high)
      | inr low ↦
          let reached : s.is_cancelled ≡ false = told.cancelled s is ∙ le-ltb (sum_of g.timeline history) g.value low in
          rw (reached, le-leb g.value (sum_of g.timeline history) low) refl
    ]
      where
        closed : (q : Option Timeline) → w.objects.timelines g.timeline ≡ q → sum_of g.timeline history < g.value → Cancelled ≡ (if is_some (w.objects.timelines g.timeline) then Active else Cancelled)
        closed None gone high = rw gone refl
        closed (Some k) kept high =
            let low = settled-low w history g g.timeline k sums fence kept refl (signalled-pending g s is) in
            absurd (omega (arith, low, high))

all-statuses : (w : World) (history : List Request) (n : ℕ) (fs : List Fence) → HasSums w history → All (IsFence w.objects) fs → All (IsTold history n) fs → All (λ (g : Fence). status_before g.signal Signalled ≡ point_status w.objects.timelines history (point_in g)) fs
all-statuses w history n [] sums each told = All-nil (λ (g : Fence). status_before g.signal Signalled ≡ point_status w.objects.timelines history (point_in g))
all-statuses w history n (g ∷ gs) sums each told =
    All-cons (λ (x : Fence). status_before x.signal Signalled ≡ point_status w.objects.timelines history (point_in x)) g gs
    (told-status w history n g sums (All-head (IsFence w.objects) g gs each) (All-head (IsTold history n) g gs told))
    (all-statuses w history n gs sums (All-tail (IsFence w.objects) g gs each) (All-tail (IsTold history n) g gs told))

first-of : (o : Option Signal) (rest : List Status) → first_status (status_before o Signalled ∷ rest) ≡ status_before o (first_status rest)
first-of None rest = refl
first-of (Some s) rest = elim (cases_Bool s.is_cancelled) [
  | inl is ↦ rw is refl
  | inr not ↦ rw not refl
]

pub file-status : (told : Fence → Status) (fs : List Fence) → All (λ (g : Fence). status_before g.signal Signalled ≡ told g) fs → status_of fs ≡ first_status (map told fs)
file-status told [] all = refl
file-status told (g ∷ gs) all =
    let P : Fence → Type 0 = λ x. status_before x.signal Signalled ≡ told x in
    ap (status_before g.signal) (file-status told gs (All-tail P g gs all))
    ∙ sym (first-of g.signal (map told gs))
    ∙ ap (λ s. first_status (s ∷ map told gs)) (All-head P g gs all)

-- the fences of a file after a history
pub record HaveSignalled (history : List Request) (n : ℕ) (f : FileState) : Type 0 where
  pub statuses : All (λ (g : Fence). status_before g.signal Signalled ≡ point_status (world_of history).objects.timelines history (point_in g)) f.fences
  pub times : All (λ (g : Fence). option_map (λ (s : Signal). s.at) g.signal ≡ reached_in n (point_in g) empty_world history) f.fences

pub signals-history : (history : List Request) → AreAccepted empty_world history → (n : ℕ) (f : FileState) → (world_of history).objects.files n ≡ Some f → HaveSignalled history n f
signals-history history accepted n f there =
    let w = world_of history in
    let told = (HasSignals-from history empty_world [] refl IsSound-empty accepted HasSums-empty (record { files = λ m g is. None≢Some g is; none = λ m p low. refl })).files n f there in
    record {
      statuses = all-statuses w history n f.fences (HasSums-history history accepted) ((IsSound-history history accepted).fences n f there).each told;
      times = All-weaker (IsTold history n) (λ (g : Fence). option_map (λ (s : Signal). s.at) g.signal ≡ reached_in n (point_in g) empty_world history) (λ g its. its.time) f.fences told;
    }
