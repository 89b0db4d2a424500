-- The fences of files have the names with which their timelines were opened.
use Rattle.std.proofs.Common.{◌≡◌, ℕ, ◌+◌, ◌≤◌, inl, inr, Bool, true, false, cond, nat_lt, refl, sym, ap, ◌∙◌, subst, List, [], ◌∷◌, ◌++◌, append_assoc, append-nil, Option, None, Some, is_some, option_map, Result, Ok, Err, All, if◌then◌else◌, arith}
use Rattle.std.specs.List.{filter_map, cons_option}
use Rattle.std.proofs.lemmas.Bool.{cases_Bool, cases_eq, eq-eqb, ne_eqb}
use Rattle.std.proofs.lemmas.List.Elements.{All-nil, All-cons, All-map, All-weaker}
use Rattle.point_core.specs.declared.entry.Usage.{Usage}
use Rattle.point_core.specs.Reach.{GREATEST}
use Rattle.device_core.specs.declared.buffer_fence.BufferFence.{BufferFence}
use Rattle.device_core.specs.declared.fence.Fence.{Fence}
use Rattle.device_core.specs.declared.fence.Signal.{Signal}
use Rattle.device_core.specs.declared.text.Text.{Text}
use Rattle.device_core.specs.declared.fence.Timeline.{Timeline}
use Rattle.device_core.specs.declared.errno.Errno.{Errno}
use Rattle.device_core.specs.declared.request.Request.{Request}
use Rattle.device_core.specs.declared.request.Request.TheVariants as request
use Rattle.device_core.specs.theorem.Fences.{is_due, signal_at, signalled_by}
use Rattle.device_core.specs.theorem.Buffers.{BufferState, export_usage, fence_waiting, is_within, entry_of, waiting_fence}
use Rattle.device_core.specs.theorem.State.{FileState, Objects, export_of, fence_at, file_signalled, merged_files, new_timeline, one_fence_file, raised}
use Rattle.device_core.specs.theorem.Request.{closed_timeline, dropped, value_in, with_at}
use Rattle.device_core.specs.theorem.History.{World, empty_world, world_after, world_from, world_of}
use Rattle.device_core.specs.theorem.Signals.{first_name, name_in}
use Rattle.device_core.proofs.Placed.{fold-All, merged-All}
use Rattle.device_core.proofs.Histories.{world_from-push}
use Rattle.device_core.proofs.Sound.{with_at-same, with_at-other}
use Rattle.device_core.proofs.Stepping.{same_Some, None≢Some}

-- the name with which the timeline of that number was opened, along the worlds of a history
abbrev pub opened_in : ℕ → World → List Request → Option Text
opened_in number w [] = None
opened_in number w (r ∷ rs) = first_name (name_in number w.objects.next r) (opened_in number (world_after w r) rs)

-- the name after another request
first_name-none : (a : Option Text) → first_name a None ≡ a
first_name-none None = refl
first_name-none (Some x) = refl

first_name-assoc : (a b c : Option Text) → first_name a (first_name b c) ≡ first_name (first_name a b) c
first_name-assoc None b c = refl
first_name-assoc (Some x) b c = refl

opened_in-push : (rs : List Request) (w : World) (r : Request) (t : ℕ) → opened_in t w (rs ++ r ∷ []) ≡ first_name (opened_in t w rs) (name_in t (world_from w rs).objects.next r)
opened_in-push [] w r t = first_name-none (name_in t w.objects.next r)
opened_in-push (x ∷ xs) w r t =
    ap (first_name (name_in t w.objects.next x)) (opened_in-push xs (world_after w x) r t)
    ∙ first_name-assoc (name_in t w.objects.next x) (opened_in t (world_after w x) xs) (name_in t (world_from (world_after w x) xs).objects.next r)

stays : (before : List Request) (r : Request) (t : ℕ) (name : Text) → opened_in t empty_world before ≡ Some name → opened_in t empty_world (before ++ r ∷ []) ≡ Some name
stays before r t name is = opened_in-push before empty_world r t ∙ ap (λ o. first_name o (name_in t (world_of before).objects.next r)) is

comes : (before : List Request) (w : World) (r : Request) (t : ℕ) → w ≡ world_of before → opened_in t empty_world before ≡ None → opened_in t empty_world (before ++ r ∷ []) ≡ name_in t w.objects.next r
comes before w r t is none = opened_in-push before empty_world r t ∙ ap (λ o. first_name o (name_in t (world_of before).objects.next r)) none ∙ ap (λ (v : World). name_in t v.objects.next r) (sym is)

-- a fence has the name of its timeline
abbrev IsNamed : List Request → Fence → Type 0
IsNamed before g = opened_in g.timeline empty_world before ≡ Some g.name

abbrev AreNamed : List Request → (ℕ → Option Timeline) → Type 0
AreNamed before timelines = (n : ℕ) (t : Timeline) → timelines n ≡ Some t → opened_in n empty_world before ≡ Some t.name

record HasNames (w : World) (before : List Request) : Type 0 where
  pub timelines : AreNamed before w.objects.timelines
  pub files : (n : ℕ) (f : FileState) → w.objects.files n ≡ Some f → All (IsNamed before) f.fences
  pub none : (n : ℕ) → w.objects.next ≤ n → opened_in n empty_world before ≡ None

all-stay : (before : List Request) (r : Request) (fs : List Fence) → All (IsNamed before) fs → All (IsNamed (before ++ r ∷ [])) fs
all-stay before r fs all = All-weaker (IsNamed before) (IsNamed (before ++ r ∷ [])) (λ g is. stays before r g.timeline g.name is) fs all

names-stay : (before : List Request) (r : Request) (timelines : ℕ → Option Timeline) → AreNamed before timelines → AreNamed (before ++ r ∷ []) timelines
names-stay before r timelines all n t is = stays before r n t.name (all n t is)

-- a number that was not given has no name, until a timeline is opened with it
none-later : (before : List Request) (w : World) (r : Request) → w ≡ world_of before → w.objects.next ≤ (world_after w r).objects.next → ((n : ℕ) → (world_after w r).objects.next ≤ n → name_in n w.objects.next r ≡ None) → HasNames w before → (n : ℕ) → (world_after w r).objects.next ≤ n → opened_in n empty_world (before ++ r ∷ []) ≡ None
none-later before w r is more idle h n past = comes before w r n is (h.none n (omega arith)) ∙ idle n past

-- signals keep names
signalled-named : (before : List Request) (t v : ℕ) (s : Signal) (g : Fence) → IsNamed before g → IsNamed before (signalled_by t v s g)
signalled-named before t v s g is = elim (cases_Bool (is_due t v g)) [
  | inl due ↦ subst (IsNamed before) (sym (ap (λ b. cond b (record g { signal = Some s }) g) due)) is
  | inr not_due ↦ subst (IsNamed before) (sym (ap (λ b. cond b (record g { signal = Some s }) g) not_due)) is
]

signalled-names : (before : List Request) (t v : ℕ) (s : Signal) (o : Option FileState) (f : FileState) → ((g : FileState) → o ≡ Some g → All (IsNamed before) g.fences) → option_map (file_signalled t v s) o ≡ Some f → All (IsNamed before) f.fences
signalled-names before t v s None f all is = None≢Some f is
signalled-names before t v s (Some g) f all is =
    subst (All (IsNamed before)) (ap (λ (x : FileState). x.fences) (same_Some is))
    (All-map (IsNamed before) (signalled_by t v s) g.fences (All-weaker (IsNamed before) (λ x. IsNamed before (signalled_by t v s x)) (λ x its. signalled-named before t v s x its) g.fences (all g refl)))

-- a timeline that is changed
changed-names : (before : List Request) (timelines : ℕ → Option Timeline) (number : ℕ) (new : Option Timeline) → AreNamed before timelines → ((t : Timeline) → new ≡ Some t → opened_in number empty_world before ≡ Some t.name) → AreNamed before (with_at timelines number new)
changed-names before timelines number new all own n t is = elim (cases_eq number n) [
  | inl same ↦ sym (ap (λ m. opened_in m empty_world before) same) ∙ own t (sym (with_at-same timelines number new) ∙ ap (with_at timelines number new) same ∙ is)
  | inr apart ↦ all n t (sym (with_at-other timelines number new n apart) ∙ is)
]

raised-name : (before : List Request) (timelines : ℕ → Option Timeline) (number n : ℕ) (o : Option Timeline) → timelines number ≡ o → AreNamed before timelines → (t : Timeline) → option_map (λ k. raised k n) o ≡ Some t → opened_in number empty_world before ≡ Some t.name
raised-name before timelines number n None there all t is = None≢Some t is
raised-name before timelines number n (Some k) there all t is = all number k there ∙ ap (λ (x : Timeline). Some x.name) (same_Some is)

-- new files
one-named : (before : List Request) (timelines : ℕ → Option Timeline) (t point now : ℕ) (o : Option Timeline) (f : FileState) → timelines t ≡ o → AreNamed before timelines → option_map (λ k. one_fence_file t k point now) o ≡ Some f → All (IsNamed before) f.fences
one-named before timelines t point now None f there all is = None≢Some f is
one-named before timelines t point now (Some k) f there all is =
    subst (All (IsNamed before)) (ap (λ (x : FileState). x.fences) (same_Some is)) (All-cons (IsNamed before) (fence_at t k point now) [] (all t k there) (All-nil (IsNamed before)))

merged-names : (before : List Request) (name : Text) (o p : Option FileState) (f : FileState) → ((g : FileState) → o ≡ Some g → All (IsNamed before) g.fences) → ((g : FileState) → p ≡ Some g → All (IsNamed before) g.fences) → merged_files name o p ≡ Some f → All (IsNamed before) f.fences
merged-names before name None p f left right is = None≢Some f is
merged-names before name (Some g) None f left right is = None≢Some f is
merged-names before name (Some g) (Some k) f left right is =
    subst (All (IsNamed before)) (ap (λ (x : FileState). x.fences) (same_Some is)) (merged-All (IsNamed before) g.fences k.fences (left g refl) (right k refl))

waiting-named : (before : List Request) (h : BufferFence) (gs : List Fence) (within : Bool) (o : Option Timeline) → ((t : Timeline) → o ≡ Some t → opened_in h.timeline empty_world before ≡ Some t.name) → All (IsNamed before) gs → All (IsNamed before) (cons_option (if within then fence_waiting h.timeline h.value o else None) gs)
waiting-named before h gs false o named rest = rest
waiting-named before h gs true None named rest = rest
waiting-named before h gs true (Some t) named rest = elim (cases_Bool (nat_lt t.value h.value)) [
  | inl waits ↦ rw waits (All-cons (IsNamed before) _ gs (named t refl) rest)
  | inr not ↦ rw not rest
]

all_waiting-named : (before : List Request) (timelines : ℕ → Option Timeline) (usage : Usage) (hs : List BufferFence) → AreNamed before timelines → All (IsNamed before) (filter_map (waiting_fence timelines usage) hs)
all_waiting-named before timelines usage [] all = All-nil (IsNamed before)
all_waiting-named before timelines usage (h ∷ hs) all =
    waiting-named before h (filter_map (waiting_fence timelines usage) hs) (is_within usage (entry_of h)) (timelines h.timeline) (λ t is. all h.timeline t is) (all_waiting-named before timelines usage hs all)

exported-names : (before : List Request) (timelines : ℕ → Option Timeline) (u : Result Usage Errno) (o : Option BufferState) (f : FileState) → AreNamed before timelines → export_of timelines u o ≡ Some f → All (IsNamed before) f.fences
exported-names before timelines (Err e) o f all is = None≢Some f is
exported-names before timelines (Ok usage) None f all is = None≢Some f is
exported-names before timelines (Ok usage) (Some b) f all is =
    subst (All (IsNamed before)) (ap (λ (x : FileState). x.fences) (same_Some is))
    (fold-All (IsNamed before) (filter_map (waiting_fence timelines usage) b.fences) [] (All-nil (IsNamed before)) (all_waiting-named before timelines usage b.fences all))

-- after another request
HasNames-same : (before : List Request) (w : World) (r : Request) → w ≡ world_of before → w.objects.next ≤ (world_after w r).objects.next → ((n : ℕ) → (world_after w r).objects.next ≤ n → name_in n w.objects.next r ≡ None) → (world_after w r).objects.timelines ≡ w.objects.timelines → (world_after w r).objects.files ≡ w.objects.files → HasNames w before → HasNames (world_after w r) (before ++ r ∷ [])
HasNames-same before w r is more idle timelines files h = record {
  timelines = subst (AreNamed (before ++ r ∷ [])) (sym timelines) (names-stay before r w.objects.timelines h.timelines);
  files = λ n f there. all-stay before r f.fences (h.files n f (sym (ap (λ fs. fs n) files) ∙ there));
  none = none-later before w r is more idle h;
}

HasNames-new : (before : List Request) (w : World) (r : Request) (file : Option FileState) → w ≡ world_of before → (world_after w r).objects.next ≡ w.objects.next + 1 → ((n : ℕ) → (world_after w r).objects.next ≤ n → name_in n w.objects.next r ≡ None) → (world_after w r).objects.timelines ≡ w.objects.timelines → (world_after w r).objects.files ≡ with_at w.objects.files w.objects.next file → HasNames w before → ((f : FileState) → file ≡ Some f → All (IsNamed before) f.fences) → HasNames (world_after w r) (before ++ r ∷ [])
HasNames-new before w r file is next idle timelines files h new = record {
  timelines = subst (AreNamed (before ++ r ∷ [])) (sym timelines) (names-stay before r w.objects.timelines h.timelines);
  files = λ n f there.
      let here = sym (ap (λ fs. fs n) files) ∙ there in
      all-stay before r f.fences (elim (cases_eq w.objects.next n) [
        | inl same ↦ new f (sym (with_at-same w.objects.files w.objects.next file) ∙ ap (with_at w.objects.files w.objects.next file) same ∙ here)
        | inr apart ↦ h.files n f (sym (with_at-other w.objects.files w.objects.next file n apart) ∙ here)
      ]);
  none = none-later before w r is (omega (arith, next)) idle h;
}

HasNames-signals : (before : List Request) (w : World) (r : Request) (t v : ℕ) (s : Signal) (new : Option Timeline) → w ≡ world_of before → (world_after w r).objects.next ≡ w.objects.next → ((n : ℕ) → (world_after w r).objects.next ≤ n → name_in n w.objects.next r ≡ None) → (world_after w r).objects.timelines ≡ with_at w.objects.timelines t new → ((n : ℕ) → (world_after w r).objects.files n ≡ option_map (file_signalled t v s) (w.objects.files n)) → ((k : Timeline) → new ≡ Some k → opened_in t empty_world before ≡ Some k.name) → HasNames w before → HasNames (world_after w r) (before ++ r ∷ [])
HasNames-signals before w r t v s new is next idle timelines files own h = record {
  timelines = subst (AreNamed (before ++ r ∷ [])) (sym timelines) (names-stay before r (with_at w.objects.timelines t new) (changed-names before w.objects.timelines t new h.timelines own));
  files = λ n f there. all-stay before r f.fences (signalled-names before t v s (w.objects.files n) f (h.files n) (sym (files n) ∙ there));
  none = none-later before w r is (omega (arith, next)) idle h;
}

HasNames-opened : (before : List Request) (w : World) (name : Text) → w ≡ world_of before → HasNames w before → HasNames (world_after w (request.Open name)) (before ++ request.Open name ∷ [])
HasNames-opened before w name is h =
    let r = request.Open name in
    let next = w.objects.next in
    record {
      timelines = changed-names (before ++ r ∷ []) w.objects.timelines next (Some (new_timeline name)) (names-stay before r w.objects.timelines h.timelines)
          (λ t its. comes before w r next is (h.none next (omega arith)) ∙ ap (λ b. if b then Some name else None) (eq-eqb next next refl) ∙ ap (λ (x : Timeline). Some x.name) (same_Some its));
      files = λ n f there. all-stay before r f.fences (h.files n f there);
      none = none-later before w r is (omega arith) (λ n past. ap (λ b. if b then Some name else None) (ne_eqb next n (λ same. omega arith))) h;
    }

HasNames-after : (before : List Request) (w : World) (r : Request) → w ≡ world_of before → HasNames w before → HasNames (world_after w r) (before ++ r ∷ [])
HasNames-after before w (request.Open name) is h = HasNames-opened before w name is h
HasNames-after before w (request.Fence t point now) is h =
    HasNames-new before w (request.Fence t point now) (option_map (λ k. one_fence_file t k point now) (w.objects.timelines t)) is refl (λ n past. refl) refl refl h
    (λ f its. one-named before w.objects.timelines t point now (w.objects.timelines t) f refl h.timelines its)
HasNames-after before w (request.Inc t n now) is h =
    HasNames-signals before w (request.Inc t n now) t (value_in (w.objects.timelines t) + n) (signal_at now false) (option_map (λ k. raised k n) (w.objects.timelines t)) is refl (λ m past. refl) refl (λ m. refl)
    (λ k its. raised-name before w.objects.timelines t n (w.objects.timelines t) refl h.timelines k its) h
HasNames-after before w (request.Merge a b name) is h =
    HasNames-new before w (request.Merge a b name) (merged_files name (w.objects.files a) (w.objects.files b)) is refl (λ n past. refl) refl refl h
    (λ f its. merged-names before name (w.objects.files a) (w.objects.files b) f (h.files a) (h.files b) its)
HasNames-after before w (request.Status file) is h = HasNames-same before w (request.Status file) is (omega arith) (λ n past. refl) refl refl h
HasNames-after before w (request.IsSignalled file) is h = HasNames-same before w (request.IsSignalled file) is (omega arith) (λ n past. refl) refl refl h
HasNames-after before w (request.Info file) is h = HasNames-same before w (request.Info file) is (omega arith) (λ n past. refl) refl refl h
HasNames-after before w (request.Close number now) is h = go (w.objects.timelines number) refl
  where
    r : Request
    r = request.Close number now

    go : (o : Option Timeline) → w.objects.timelines number ≡ o → HasNames (world_after w r) (before ++ r ∷ [])
    go None gone =
        let objects : (world_after w r).objects ≡ dropped w.objects number = ap (λ o. cond (is_some o) (closed_timeline w.objects number now) (dropped w.objects number)) gone in
        let next : (world_after w r).objects.next ≡ w.objects.next = ap (λ (d : Objects). d.next) objects in
        record {
          timelines = subst (AreNamed (before ++ r ∷ [])) (sym (ap (λ (d : Objects). d.timelines) objects)) (names-stay before r w.objects.timelines h.timelines);
          files = λ n f there. elim (cases_eq number n) [
            | inl same ↦ None≢Some f (sym (with_at-same w.objects.files number None) ∙ ap (with_at w.objects.files number None) same ∙ sym (ap (λ (d : Objects). d.files n) objects) ∙ there)
            | inr apart ↦ all-stay before r f.fences (h.files n f (sym (with_at-other w.objects.files number None n apart) ∙ sym (ap (λ (d : Objects). d.files n) objects) ∙ there))
          ];
          none = none-later before w r is (omega (arith, next)) (λ n past. refl) h;
        }
    go (Some k) there =
        let objects : (world_after w r).objects ≡ closed_timeline w.objects number now = ap (λ o. cond (is_some o) (closed_timeline w.objects number now) (dropped w.objects number)) there in
        HasNames-signals before w r number GREATEST (signal_at now true) None is (ap (λ (d : Objects). d.next) objects) (λ n past. refl) (ap (λ (d : Objects). d.timelines) objects) (λ n. ap (λ (d : Objects). d.files n) objects) (λ t its. None≢Some t its) h
HasNames-after before w (request.Buffer now) is h = HasNames-same before w (request.Buffer now) is (omega arith) (λ n past. refl) refl refl h
HasNames-after before w (request.Export buffer flags) is h =
    HasNames-new before w (request.Export buffer flags) (export_of w.objects.timelines (export_usage flags) (w.objects.buffers buffer)) is refl (λ n past. refl) refl refl h
    (λ f its. exported-names before w.objects.timelines (export_usage flags) (w.objects.buffers buffer) f h.timelines its)
HasNames-after before w (request.Import buffer file flags) is h = HasNames-same before w (request.Import buffer file flags) is (omega arith) (λ n past. refl) refl refl h
HasNames-after before w (request.Test buffer usage) is h = HasNames-same before w (request.Test buffer usage) is (omega arith) (λ n past. refl) refl refl h

HasNames-from : (history : List Request) (w : World) (before : List Request) → w ≡ world_of before → HasNames w before → HasNames (world_from w history) (before ++ history)
HasNames-from [] w before is h = subst (HasNames w) (sym (append-nil before)) h
HasNames-from (r ∷ rs) w before is h =
    let next : world_after w r ≡ world_of (before ++ r ∷ []) = ap (λ x. world_after x r) is ∙ sym (world_from-push before empty_world r) in
    subst (HasNames (world_from (world_after w r) rs)) (append_assoc before (r ∷ []) rs)
    (HasNames-from rs (world_after w r) (before ++ r ∷ []) next (HasNames-after before w r is h))

pub names-history : (history : List Request) (n : ℕ) (f : FileState) → (world_of history).objects.files n ≡ Some f → All (λ (g : Fence). opened_in g.timeline empty_world history ≡ Some g.name) f.fences
names-history history n f is =
    let all = HasNames-from history empty_world [] refl (record { timelines = λ m t its. None≢Some t its; files = λ m g its. None≢Some g its; none = λ m past. refl }) in
    all.files n f is
