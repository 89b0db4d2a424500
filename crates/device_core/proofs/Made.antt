-- Files are what they were made as.
use Rattle.std.proofs.Common.{◌≡◌, ◌≢◌, ℕ, ◌+◌, ◌%◌, ◌^◌, ◌<◌, ◌≤◌, ◌==◌, max, inl, inr, Bool, true, false, not, cond, refl, sym, ap, ◌∙◌, subst, List, [], ◌∷◌, ◌++◌, append_assoc, append-nil, length, map, fold, unwrap_or, Option, None, Some, is_some, option_map, Result, Ok, Err, All, arith}
use Rattle.std.proofs.lemmas.Bool.{cases_Bool, cases_eq, false≢true, ltb-true}
use Rattle.std.proofs.lemmas.List.{length-map}
use Rattle.std.proofs.lemmas.List.Elements.{All-nil, All-cons, All-head, All-tail, All-map, All-weaker}
use Rattle.std.proofs.lemmas.Simd.{map-map}
use Rattle.point_core.specs.declared.entry.Entry.{Entry}
use Rattle.point_core.specs.declared.entry.Point.{Point}
use Rattle.point_core.specs.declared.entry.Usage.{Usage}
use Rattle.point_core.specs.Agreement.{AgreesAbove, point_of}
use Rattle.point_core.specs.Reach.{GREATEST}
use Rattle.device_core.specs.declared.buffer_fence.BufferFence.{BufferFence}
use Rattle.device_core.specs.declared.fence.Fence.{Fence}
use Rattle.device_core.specs.declared.fence.Signal.{Signal}
use Rattle.device_core.specs.declared.text.Text.{Text}
use Rattle.device_core.specs.declared.fence.Timeline.{Timeline}
use Rattle.device_core.specs.declared.errno.Errno.{Errno}
use Rattle.device_core.specs.declared.request.Request.{Request}
use Rattle.device_core.specs.declared.request.Request.TheVariants as request
use Rattle.device_core.specs.theorem.Wrapping.{unwrapped}
use Rattle.device_core.specs.theorem.Fences.{all_signalled_by, are_signalled, entries_in, is_due, is_pending, latest_time, merged, point_in, signal_at, signalled_by, time_of}
use Rattle.device_core.specs.theorem.Buffers.{BufferState, IsWaitingAt, empty_buffer, export_usage, exported, has_grown, import_into, import_usage}
use Rattle.device_core.specs.theorem.State.{FileState, Objects, empty_text, export_of, exported_file, fence_at, file_signalled, import_of, merged_file, merged_files, merged_time, missing_timeline, one_fence_file}
use Rattle.device_core.specs.theorem.Request.{after, cause_of, closed_timeline, dropped, overflow, value_in, with_at, with_file, with_signals}
use Rattle.device_core.specs.theorem.History.{AreAccepted, World, empty_world, put_by_export, reach_of, sum_of, world_of}
use Rattle.device_core.specs.theorem.Listing.{pending_points}
use Rattle.device_core.specs.theorem.Put.{put_into, reach_after}
use Rattle.device_core.specs.theorem.Signals.{reached_from}
use Rattle.device_core.specs.Sound.{AreFences, IsSound}
use Rattle.device_core.specs.theorem.Requests.{Has32Bits, Have32Bits, kinds}
use Rattle.device_core.specs.theorem.Making.{Listed, Making, last_signal, listing_file, low_half, made_as, made_in, making, makings_after, makings_from, time_reached}
use Rattle.device_core.proofs.LowHalf.{low_half as low_half-is}
use Rattle.device_core.proofs.Placed.{Rising-from, merged-All}
use Rattle.device_core.proofs.Sound.{with_at-same, with_at-other}
use Rattle.device_core.proofs.Exports.{exported-waits}
use Rattle.device_core.proofs.Pending.{exported-pending, points-are}
use Rattle.device_core.proofs.Histories.{AreAccepted-push, world_from-push}
use Rattle.device_core.proofs.Reporting.{HasSums, HasSums-history}
use Rattle.device_core.proofs.Signals.{merged-pending}
use Rattle.device_core.proofs.Stepping.{same_Some, None≢Some, no_cause, numbered, signal_pending, IsSound-exported, IsSound-merged, IsSound-history}
use Rattle.device_core.proofs.OpenKinds.{HasKinds-history}
use Rattle.device_core.proofs.Said.{said, times-said}

abbrev pub listed : Fence → Listed
listed g = record { point = point_in g; low = g.point }

-- the file is what it was made as
pub record IsMadeAs (f : FileState) (m : Making) : Type 0 where
  pub name : f.name ≡ m.name
  pub points : map listed f.fences ≡ m.points
  pub stub_at : f.stub_at ≡ m.stub_at

-- a pending fence has the low half of its point
abbrev IsLow : Fence → Type 0
IsLow g = is_pending g ≡ true → g.point ≡ g.value % 2 ^ 32

pub record HasMakings (d : Objects) (made : ℕ → Making) : Type 0 where
  pub files : (n : ℕ) (f : FileState) → d.files n ≡ Some f → IsMadeAs f (made n)
  pub lows : (n : ℕ) (f : FileState) → d.files n ≡ Some f → All IsLow f.fences
  pub buffers : (n : ℕ) (b : BufferState) → d.buffers n ≡ Some b → b.stub_at ≡ (made n).stub_at

-- signals
listed-signalled : (t v : ℕ) (s : Signal) (fs : List Fence) → map listed (all_signalled_by t v s fs) ≡ map listed fs
listed-signalled t v s [] = refl
listed-signalled t v s (g ∷ gs) = ap (λ x. x ∷ map listed (all_signalled_by t v s gs)) one ∙ ap (λ xs. listed g ∷ xs) (listed-signalled t v s gs)
  where
    one : listed (signalled_by t v s g) ≡ listed g
    one = elim (cases_Bool (is_due t v g)) [
      | inl due ↦ ap (λ b. listed (cond b (record g { signal = Some s }) g)) due
      | inr not ↦ ap (λ b. listed (cond b (record g { signal = Some s }) g)) not
    ]

low-signalled : (t v : ℕ) (s : Signal) (g : Fence) → IsLow g → IsLow (signalled_by t v s g)
low-signalled t v s g low = elim (cases_Bool (is_due t v g)) [
  | inl due ↦ subst IsLow (sym (ap (λ b. cond b (record g { signal = Some s }) g) due)) (λ waits. absurd (false≢true waits))
  | inr not ↦ subst IsLow (sym (ap (λ b. cond b (record g { signal = Some s }) g) not)) low
]

lows-signalled : (t v : ℕ) (s : Signal) (fs : List Fence) → All IsLow fs → All IsLow (all_signalled_by t v s fs)
lows-signalled t v s fs all = All-map IsLow (signalled_by t v s) fs (All-weaker IsLow (λ g. IsLow (signalled_by t v s g)) (λ g low. low-signalled t v s g low) fs all)

-- a file before it is signalled
signalled-from : {P : Type 0} (t v : ℕ) (s : Signal) (o : Option FileState) (f : FileState) → option_map (file_signalled t v s) o ≡ Some f → ((g : FileState) → o ≡ Some g → file_signalled t v s g ≡ f → P) → P
signalled-from t v s None f is told = None≢Some f is
signalled-from t v s (Some g) f is told = told g refl (same_Some is)

makings-signals : (d : Objects) (made : ℕ → Making) (t v : ℕ) (s : Signal) (new : Option Timeline) → HasMakings d made → HasMakings (with_signals d t new v s) made
makings-signals d made t v s new h = record {
  files = λ n f is. signalled-from t v s (d.files n) f is (λ g its same.
      let was = h.files n g its in
      subst (λ x. IsMadeAs x (made n)) same (record { name = was.name; points = listed-signalled t v s g.fences ∙ was.points; stub_at = was.stub_at }));
  lows = λ n f is. signalled-from t v s (d.files n) f is (λ g its same.
      subst (λ (x : FileState). All IsLow x.fences) same (lows-signalled t v s g.fences (h.lows n g its)));
  buffers = h.buffers;
}

makings-dropped : (d : Objects) (made : ℕ → Making) (number : ℕ) → HasMakings d made → HasMakings (dropped d number) made
makings-dropped d made number h = record {
  files = λ n f is. h.files n f (left d.files n f is);
  lows = λ n f is. h.lows n f (left d.files n f is);
  buffers = λ n b is. h.buffers n b (left d.buffers n b is);
}
  where
    left : {X : Type 0} (kept : ℕ → Option X) (n : ℕ) (x : X) → with_at kept number None n ≡ Some x → kept n ≡ Some x
    left kept n x is = elim (cases_eq number n) [
      | inl same ↦ None≢Some x (sym (with_at-same kept number None) ∙ ap (with_at kept number None) same ∙ is)
      | inr apart ↦ sym (with_at-other kept number None n apart) ∙ is
    ]

-- a new file
makings-new : (d : Objects) (made : ℕ → Making) (file : Option FileState) (m : Making) (number : ℕ) → d.next ≡ number → ((b : BufferState) → d.buffers d.next ≡ Some b → ⊥)
    → ((f : FileState) → file ≡ Some f → IsMadeAs f m × All IsLow f.fences) → HasMakings d made → HasMakings (with_file d file) (with_at made number m)
makings-new d made file m number at none new h =
    let here : with_at made number m d.next ≡ m = ap (with_at made number m) at ∙ with_at-same made number m in
    let other : (n : ℕ) → d.next ≢ n → with_at made number m n ≡ made n = λ n apart. with_at-other made number m n (λ is. apart (at ∙ is)) in
    record {
      files = λ n f is. elim (cases_eq d.next n) [
        | inl same ↦
            let its : file ≡ Some f = sym (with_at-same d.files d.next file) ∙ ap (with_at d.files d.next file) same ∙ is in
            subst (λ q. IsMadeAs f (with_at made number m q)) same (subst (IsMadeAs f) (sym here) (new f its).0)
        | inr apart ↦
            subst (IsMadeAs f) (sym (other n apart)) (h.files n f (sym (with_at-other d.files d.next file n apart) ∙ is))
      ];
      lows = λ n f is. elim (cases_eq d.next n) [
        | inl same ↦
            let its : file ≡ Some f = sym (with_at-same d.files d.next file) ∙ ap (with_at d.files d.next file) same ∙ is in
            (new f its).1
        | inr apart ↦ h.lows n f (sym (with_at-other d.files d.next file n apart) ∙ is)
      ];
      buffers = λ n b is. elim (cases_eq d.next n) [
        | inl same ↦ absurd (none b (ap d.buffers same ∙ is))
        | inr apart ↦ h.buffers n b is ∙ ap (λ (x : Making). x.stub_at) (sym (other n apart))
      ];
    }

-- an opened timeline, which is no file and no buffer
makings-other : (d e : Objects) (made : ℕ → Making) (m : Making) (number : ℕ) → e.files ≡ d.files → e.buffers ≡ d.buffers → d.files number ≡ None → d.buffers number ≡ None → HasMakings d made → HasMakings e (with_at made number m)
makings-other d e made m number files buffers no_file no_buffer h = record {
  files = λ n f is.
      let was = sym (ap (λ fs. fs n) files) ∙ is in
      elim (cases_eq number n) [
        | inl same ↦ None≢Some f (sym no_file ∙ ap d.files same ∙ was)
        | inr apart ↦ subst (IsMadeAs f) (sym (with_at-other made number m n apart)) (h.files n f was)
      ];
  lows = λ n f is. h.lows n f (sym (ap (λ fs. fs n) files) ∙ is);
  buffers = λ n b is.
      let was = sym (ap (λ bs. bs n) buffers) ∙ is in
      elim (cases_eq number n) [
        | inl same ↦ None≢Some b (sym no_buffer ∙ ap d.buffers same ∙ was)
        | inr apart ↦ h.buffers n b was ∙ ap (λ (x : Making). x.stub_at) (sym (with_at-other made number m n apart))
      ];
}

-- a buffer that is new, and one that is changed
makings-buffer : (d : Objects) (made : ℕ → Making) (now number : ℕ) → d.next ≡ number → d.files number ≡ None → HasMakings d made → HasMakings (after d (request.Buffer now)) (with_at made number (making empty_text [] now))
makings-buffer d made now number at no_file h =
    let new = Some (empty_buffer now) in
    let m = making empty_text [] now in
    record {
      files = λ n f is. elim (cases_eq number n) [
        | inl same ↦ None≢Some f (sym no_file ∙ ap d.files same ∙ is)
        | inr apart ↦ subst (IsMadeAs f) (sym (with_at-other made number m n apart)) (h.files n f is)
      ];
      lows = h.lows;
      buffers = λ n b is. elim (cases_eq number n) [
        | inl same ↦
            let its : new ≡ Some b = sym (with_at-same d.buffers d.next new) ∙ ap (with_at d.buffers d.next new) (at ∙ same) ∙ is in
            sym (ap (λ (x : BufferState). x.stub_at) (same_Some its)) ∙ ap (λ (x : Making). x.stub_at) (sym (with_at-same made number m) ∙ ap (with_at made number m) same)
        | inr apart ↦
            h.buffers n b (sym (with_at-other d.buffers d.next new n (λ is_next. apart (sym at ∙ is_next))) ∙ is)
            ∙ ap (λ (x : Making). x.stub_at) (sym (with_at-other made number m n apart))
      ];
    }

imported-stub : (timelines : ℕ → Option Timeline) (usage : Usage) (fs : List Fence) (b : BufferState) → (import_into timelines usage fs b).stub_at ≡ b.stub_at
imported-stub timelines usage fs b = elim (cases_Bool (are_signalled fs)) [
  | inl none ↦ rw none refl
  | inr some ↦ rw some (elim (cases_Bool (has_grown b.left (length fs) b.fences)) [
    | inl grown ↦ rw grown refl
    | inr not ↦ rw not refl
  ])
]

import-stub : (timelines : ℕ → Option Timeline) (u : Result Usage Errno) (f : Option FileState) (o : Option BufferState) (b : BufferState) → import_of timelines u f o ≡ Some b → (c : BufferState) × (o ≡ Some c) × (b.stub_at ≡ c.stub_at)
import-stub timelines (Err e) f o b is = (b, is, refl)
import-stub timelines (Ok usage) None o b is = (b, is, refl)
import-stub timelines (Ok usage) (Some f) None b is = None≢Some b is
import-stub timelines (Ok usage) (Some f) (Some c) b is = (c, refl, ap (λ (x : BufferState). x.stub_at) (sym (same_Some is)) ∙ imported-stub timelines usage f.fences c)

makings-imported : (d : Objects) (made : ℕ → Making) (buffer file flags : ℕ) → HasMakings d made → HasMakings (after d (request.Import buffer file flags)) made
makings-imported d made buffer file flags h =
    let new = import_of d.timelines (import_usage flags) (d.files file) (d.buffers buffer) in
    record {
      files = h.files;
      lows = h.lows;
      buffers = λ n b is. elim (cases_eq buffer n) [
        | inl same ↦
            let its : new ≡ Some b = sym (with_at-same d.buffers buffer new) ∙ ap (with_at d.buffers buffer new) same ∙ is in
            let was = import-stub d.timelines (import_usage flags) (d.files file) (d.buffers buffer) b its in
            was.2 ∙ h.buffers buffer was.0 was.1 ∙ ap (λ m. (made m).stub_at) same
        | inr apart ↦ h.buffers n b (sym (with_at-other d.buffers buffer new n apart) ∙ is)
      ];
    }

-- the latest time of several
max-assoc : (x y z : ℕ) → max (max x y) z ≡ max x (max y z)
max-assoc x y z = grind arith

max-comm : (x y : ℕ) → max x y ≡ max y x
max-comm x y = grind arith

fold-max : (x y : ℕ) (ts : List ℕ) → fold max (max x y) ts ≡ max x (fold max y ts)
fold-max x y [] = refl
fold-max x y (t ∷ ts) = ap (λ z. fold max z ts) (max-assoc x y t) ∙ fold-max x (max y t) ts

fold-both : (x y : ℕ) (ts us : List ℕ) → fold max (fold max (max x y) ts) us ≡ max (fold max x ts) (fold max y us)
fold-both x y ts us =
    ap (λ z. fold max (fold max z ts) us) (max-comm x y)
    ∙ ap (λ z. fold max z us) (fold-max y x ts ∙ max-comm y (fold max x ts))
    ∙ fold-max (fold max x ts) y us

latest-is : (time : Fence → ℕ) (fs : List Fence) (s : ℕ) → All (λ (g : Fence). time_of g.signal ≡ time g) fs → latest_time s fs ≡ fold max s (map time fs)
latest-is time [] s all = refl
latest-is time (g ∷ gs) s all =
    let P : Fence → Type 0 = λ x. time_of x.signal ≡ time x in
    ap (λ t. latest_time (max s t) gs) (All-head P g gs all) ∙ latest-is time gs (max s (time g)) (All-tail P g gs all)

time-is : (o : Option Signal) → time_of o ≡ unwrap_or (option_map (λ (s : Signal). s.at) o) 0
time-is None = refl
time-is (Some s) = refl

-- the times at which a file's fences signalled
pub times-are : (h : List Request) → AreAccepted empty_world h → (n : ℕ) (f : FileState) → (world_of h).objects.files n ≡ Some f → All (λ (g : Fence). time_of g.signal ≡ time_reached h n (listed g)) f.fences
times-are h accepted n f there =
    All-weaker (λ (g : Fence). option_map (λ (s : Signal). s.at) g.signal ≡ reached_from n (point_in g) [] h) (λ (g : Fence). time_of g.signal ≡ time_reached h n (listed g))
    (λ g is. time-is g.signal ∙ ap (λ o. unwrap_or o 0) is) f.fences (times-said h accepted n f there)

last-is : (h : List Request) (n : ℕ) (f : FileState) (m : Making) → IsMadeAs f m → fold max f.stub_at (map (λ g. time_reached h n (listed g)) f.fences) ≡ last_signal h n m
last-is h n f m is =
    sym (ap (fold max f.stub_at) (map-map (time_reached h n) listed f.fences))
    ∙ ap (λ ls. fold max f.stub_at (map (time_reached h n) ls)) is.points
    ∙ ap (λ t. fold max t (map (time_reached h n) m.points)) is.stub_at

merged-time : (h : List Request) → AreAccepted empty_world h → (a b : ℕ) (f g : FileState) (made : ℕ → Making) → (world_of h).objects.files a ≡ Some f → (world_of h).objects.files b ≡ Some g → IsMadeAs f (made a) → IsMadeAs g (made b) → merged_time f g ≡ max (last_signal h a (made a)) (last_signal h b (made b))
merged-time h accepted a b f g made left right one two =
    let of_a : Fence → ℕ = λ x. time_reached h a (listed x) in
    let of_b : Fence → ℕ = λ x. time_reached h b (listed x) in
    ap (λ t. latest_time t g.fences) (latest-is of_a f.fences (max f.stub_at g.stub_at) (times-are h accepted a f left))
    ∙ latest-is of_b g.fences (fold max (max f.stub_at g.stub_at) (map of_a f.fences)) (times-are h accepted b g right)
    ∙ fold-both f.stub_at g.stub_at (map of_a f.fences) (map of_b g.fences)
    ∙ ap (λ t. max t (fold max g.stub_at (map of_b g.fences))) (last-is h a f (made a) one)
    ∙ ap (max (last_signal h a (made a))) (last-is h b g (made b) two)

-- a file that lists pending points
listed-low : (g : Fence) → is_pending g ≡ true → IsLow g → listed g ≡ low_half (point_in g)
listed-low g waits low = ap (λ k. record { point = point_in g; low = k }) (low waits)

all-low : (fs : List Fence) → All (λ (g : Fence). is_pending g ≡ true) fs → All IsLow fs → map listed fs ≡ map low_half (map point_in fs)
all-low [] waits lows = refl
all-low (g ∷ gs) waits lows =
    let P : Fence → Type 0 = λ x. is_pending x ≡ true in
    ap (λ x. x ∷ map listed gs) (listed-low g (All-head P g gs waits) (All-head IsLow g gs lows))
    ∙ ap (λ xs. low_half (point_in g) ∷ xs) (all-low gs (All-tail P g gs waits) (All-tail IsLow g gs lows))

if-none : (fs : List Fence) (points : List Point) (stub_at other : ℕ) → map point_in fs ≡ points → stub_at ≡ other → (cond (length fs == 0) stub_at 0) ≡ (cond (length points == 0) other 0)
if-none fs points stub_at other are same =
    ap (λ n. cond (n == 0) stub_at 0) (sym (length-map fs point_in) ∙ ap length are)
    ∙ ap (λ t. cond (length points == 0) t 0) same

made-listing : (d : Objects) (name : Text) (f : FileState) (put : List Entry) (stub_at other : ℕ) → 1 ≤ d.next → f.name ≡ name → f.stub_at ≡ cond (length f.fences == 0) stub_at 0 → stub_at ≡ other → All (λ (g : Fence). is_pending g ≡ true) f.fences → All IsLow f.fences → AreFences d f.fences × AgreesAbove (reach_of d) (entries_in f.fences) put → IsMadeAs f (listing_file name (pending_points (reach_of d) put 0) other)
made-listing d name f put stub_at other first named stub same waits lows are =
    let points = points-are d f.fences put first (Rising-from f.fences are.0.rising) are.0.each waits are.1 in
    record {
      name = named;
      points = all-low f.fences waits lows ∙ ap (map low_half) points;
      stub_at = stub ∙ if-none f.fences (pending_points (reach_of d) put 0) stub_at other points same;
    }

-- a file of one point
made-one : (w : World) (h : List Request) (t point now : ℕ) (f : FileState) → HasSums w h → point < 2 ^ 32 → (k : Timeline) → w.objects.timelines t ≡ Some k → option_map (λ j. one_fence_file t j point now) (w.objects.timelines t) ≡ Some f → IsMadeAs f (making empty_text (record { point = point_of t (unwrapped (sum_of t h) point); low = point } ∷ []) 0) × All IsLow f.fences
made-one w h t point now f sums small k there its =
    let is : one_fence_file t k point now ≡ f = same_Some (sym (ap (option_map (λ j. one_fence_file t j point now)) there) ∙ its) in
    let sum : k.value ≡ sum_of t h = sums.values t k there in
    let m = making empty_text (record { point = point_of t (unwrapped (sum_of t h) point); low = point } ∷ []) 0 in
    let low : IsLow (fence_at t k point now) = λ waits. sym (low_half-is k.value point small (ltb-true k.value (unwrapped k.value point) (sym (signal_pending (unwrapped k.value point) k.value now) ∙ waits))) in (
      subst (λ x. IsMadeAs x m) is (record { name = refl; points = ap (λ v. record { point = point_of t (unwrapped v point); low = point } ∷ []) sum; stub_at = refl }),
      subst (λ (x : FileState). All IsLow x.fences) is (All-cons IsLow (fence_at t k point now) [] low (All-nil IsLow)),
    )

-- a merge
made-merged : (h : List Request) (accepted : AreAccepted empty_world h) (made : ℕ → Making) (a b : ℕ) (name : Text) (o p : Option FileState) (f : FileState) → (world_of h).objects.files a ≡ o → (world_of h).objects.files b ≡ p → HasMakings (world_of h).objects made → merged_files name o p ≡ Some f → IsMadeAs f (made_as made h (request.Merge a b name)) × All IsLow f.fences
made-merged h accepted made a b name None p f left right are is = None≢Some f is
made-merged h accepted made a b name (Some x) None f left right are is = None≢Some f is
made-merged h accepted made a b name (Some x) (Some y) f left right are is =
    let w = world_of h in
    let same : merged_file name x y ≡ f = same_Some is in
    let sound = IsSound-history h accepted in
    let lows : All IsLow (merged x.fences y.fences) = merged-All IsLow x.fences y.fences (are.lows a x left) (are.lows b y right) in
    let time = max (last_signal h a (made a)) (last_signal h b (made b)) in
    subst (λ z. IsMadeAs z (made_as made h (request.Merge a b name)) × All IsLow z.fences) same (
      said h accepted (λ reach put. IsMadeAs (merged_file name x y) (listing_file name (pending_points reach (put a ++ put b) 0) time))
          (made-listing w.objects name (merged_file name x y) (w.put a ++ w.put b) (merged_time x y) time sound.first refl refl
          (merged-time h accepted a b x y made left right (are.files a x left) (are.files b y right))
          (merged-pending x.fences y.fences) lows
          (IsSound-merged w name a b (Some x) (Some y) sound left right (merged_file name x y) refl)),
      lows,
    )

-- an export
waiting-low : (f : Fence) (o : Option Timeline) → IsWaitingAt f o → IsLow f
waiting-low f None is = absurd is
waiting-low f (Some t) is = λ waits. ap (λ (x : Fence). x.point) is.1

exported-low : (timelines : ℕ → Option Timeline) (usage : Usage) (hs : List BufferFence) → All IsLow (exported timelines usage hs)
exported-low timelines usage hs =
    All-weaker (λ (f : Fence). IsWaitingAt f (timelines f.timeline)) IsLow (λ f is. waiting-low f (timelines f.timeline) is) (exported timelines usage hs) (exported-waits timelines usage hs)

made-exported : (h : List Request) (accepted : AreAccepted empty_world h) (made : ℕ → Making) (buffer : ℕ) (u : Result Usage Errno) (o : Option BufferState) (f : FileState) → (world_of h).objects.buffers buffer ≡ o → HasMakings (world_of h).objects made → export_of (world_of h).objects.timelines u o ≡ Some f
    → IsMadeAs f (listing_file empty_text (pending_points (reach_after h) (put_by_export u (put_into h buffer)) 0) (made buffer).stub_at) × All IsLow f.fences
made-exported h accepted made buffer (Err e) o f there are is = None≢Some f is
made-exported h accepted made buffer (Ok usage) None f there are is = None≢Some f is
made-exported h accepted made buffer (Ok usage) (Some b) f there are is =
    let w = world_of h in
    let same : exported_file w.objects.timelines usage b ≡ f = same_Some is in
    let sound = IsSound-history h accepted in
    let lows = exported-low w.objects.timelines usage b.fences in
    let file = exported_file w.objects.timelines usage b in
    let time = (made buffer).stub_at in
    subst (λ z. IsMadeAs z (listing_file empty_text (pending_points (reach_after h) (put_by_export (Ok usage) (put_into h buffer)) 0) time) × All IsLow z.fences) same (
      said h accepted (λ reach put. IsMadeAs file (listing_file empty_text (pending_points reach (put_by_export (Ok usage) (put buffer)) 0) time))
          (made-listing w.objects empty_text file (put_by_export (Ok usage) (w.put buffer)) b.stub_at time sound.first refl refl
          (are.buffers buffer b there)
          (exported-pending w.objects.timelines usage b.fences) lows
          (IsSound-exported w buffer (Ok usage) (Some b) sound there file refl)),
      lows,
    )

no-buffer : (w : World) → IsSound w → (b : BufferState) → w.objects.buffers w.objects.next ≡ Some b → ⊥
no-buffer w sound b is = None≢Some b (sym (sound.buffers w.objects.next (omega arith)) ∙ is)

HasMakings-after : (h : List Request) (accepted : AreAccepted empty_world h) (made : ℕ → Making) (r : Request) → cause_of (world_of h).objects r ≡ None → Has32Bits r → HasMakings (world_of h).objects made → HasMakings (after (world_of h).objects r) (makings_after made h r)
HasMakings-after h accepted made (request.Open name) none small are =
    let w = world_of h in
    let sound = IsSound-history h accepted in
    let next = (HasKinds-history h accepted).next in
    makings-other w.objects (after w.objects (request.Open name)) made (made_as made h (request.Open name)) (length (kinds h) + 1) refl refl
    (sound.files (length (kinds h) + 1) (omega arith)) (sound.buffers (length (kinds h) + 1) (omega arith)) are
HasMakings-after h accepted made (request.Fence t point now) none small are =
    let w = world_of h in
    let r = request.Fence t point now in
    let cause = overflow (unwrapped (value_in (w.objects.timelines t)) point) in
    let there = no_cause (w.objects.timelines t) cause (missing_timeline w.objects t) (numbered w.objects (cond (is_some (w.objects.timelines t)) cause (Some (missing_timeline w.objects t))) none) in
    makings-new w.objects made (option_map (λ j. one_fence_file t j point now) (w.objects.timelines t)) (made_as made h r) (length (kinds h) + 1) (HasKinds-history h accepted).next (no-buffer w (IsSound-history h accepted))
    (λ f its. made-one w h t point now f (HasSums-history h accepted) small there.0 there.1 its) are
HasMakings-after h accepted made (request.Inc t n now) none small are =
    let d = (world_of h).objects in
    makings-signals d made t (value_in (d.timelines t) + n) (signal_at now false) _ are
HasMakings-after h accepted made (request.Merge a b name) none small are =
    let w = world_of h in
    makings-new w.objects made (merged_files name (w.objects.files a) (w.objects.files b)) (made_as made h (request.Merge a b name)) (length (kinds h) + 1) (HasKinds-history h accepted).next (no-buffer w (IsSound-history h accepted))
    (λ f its. made-merged h accepted made a b name (w.objects.files a) (w.objects.files b) f refl refl are its) are
HasMakings-after h accepted made (request.Status file) none small are = are
HasMakings-after h accepted made (request.IsSignalled file) none small are = are
HasMakings-after h accepted made (request.Info file) none small are = are
HasMakings-after h accepted made (request.Close number now) none small are = go (is_some ((world_of h).objects.timelines number))
  where
    d : Objects
    d = (world_of h).objects

    go : (b : Bool) → HasMakings (cond b (closed_timeline d number now) (dropped d number)) made
    go true = makings-signals d made number GREATEST (signal_at now true) None are
    go false = makings-dropped d made number are
HasMakings-after h accepted made (request.Buffer now) none small are =
    let w = world_of h in
    let next = (HasKinds-history h accepted).next in
    makings-buffer w.objects made now (length (kinds h) + 1) next ((IsSound-history h accepted).files (length (kinds h) + 1) (omega arith)) are
HasMakings-after h accepted made (request.Export buffer flags) none small are =
    let w = world_of h in
    makings-new w.objects made (export_of w.objects.timelines (export_usage flags) (w.objects.buffers buffer)) (made_as made h (request.Export buffer flags)) (length (kinds h) + 1) (HasKinds-history h accepted).next (no-buffer w (IsSound-history h accepted))
    (λ f its. made-exported h accepted made buffer (export_usage flags) (w.objects.buffers buffer) f refl are its) are
HasMakings-after h accepted made (request.Import buffer file flags) none small are = makings-imported (world_of h).objects made buffer file flags are
HasMakings-after h accepted made (request.Test buffer usage) none small are = are

HasMakings-from : (made : ℕ → Making) (before rs : List Request) → AreAccepted empty_world before → AreAccepted (world_of before) rs → Have32Bits rs → HasMakings (world_of before).objects made → HasMakings (world_of (before ++ rs)).objects (makings_from made before rs)
HasMakings-from made before [] accepted more small are = subst (λ h. HasMakings (world_of h).objects made) (sym (append-nil before)) are
HasMakings-from made before (r ∷ rs) accepted more small are =
    let pushed = world_from-push before empty_world r in
    let step = HasMakings-after before accepted made r more.0 (All-head Has32Bits r rs small) are in
    subst (λ h. HasMakings (world_of h).objects (makings_from (makings_after made before r) (before ++ r ∷ []) rs)) (append_assoc before (r ∷ []) rs)
    (HasMakings-from (makings_after made before r) (before ++ r ∷ []) rs (AreAccepted-push before empty_world r accepted more.0)
    (subst (λ w. AreAccepted w rs) (sym pushed) more.1) (All-tail Has32Bits r rs small)
    (subst (λ (w : World). HasMakings w.objects (makings_after made before r)) (sym pushed) step))

pub HasMakings-history : (history : List Request) → AreAccepted empty_world history → Have32Bits history → HasMakings (world_of history).objects (made_in history)
HasMakings-history history accepted small =
    HasMakings-from (λ n. making empty_text [] 0) [] history tt accepted small
    (record { files = λ n f is. None≢Some f is; lows = λ n f is. None≢Some f is; buffers = λ n b is. None≢Some b is })
