-- Every fence that a file or a buffer lists was put into it.
use Rattle.std.proofs.Common.{◌≡◌, ℕ, ◌+◌, zero, suc, inl, inr, Bool, true, false, nat_lt, refl, sym, ap, ◌∙◌, subst, List, [], ◌∷◌, ◌++◌, map, filter, Option, None, Some, is_some, option_map, Result, Ok, Err, All, Contains, if◌then◌else◌, arith}
use Rattle.std.specs.List.{filter_map, cons_option}
use Rattle.std.proofs.lemmas.Bool.{cases_Bool, cases_eq}
use Rattle.std.proofs.lemmas.List.Elements.{All-cons, All-nil, All-head, All-tail, All-map, All-weaker, Contains-append_left, Contains-append_right}
use Rattle.point_core.specs.declared.entry.Entry.{Entry}
use Rattle.point_core.specs.declared.entry.Usage.{Usage}
use Rattle.point_core.specs.Agreement.{as_entry}
use Rattle.point_core.specs.Reach.{GREATEST}
use Rattle.device_core.specs.declared.buffer_fence.BufferFence.{BufferFence}
use Rattle.device_core.specs.declared.fence.Fence.{Fence}
use Rattle.device_core.specs.declared.fence.Signal.{Signal}
use Rattle.device_core.specs.declared.text.Text.{Text}
use Rattle.device_core.specs.declared.fence.Timeline.{Timeline}
use Rattle.device_core.specs.declared.errno.Errno.{Errno}
use Rattle.device_core.specs.declared.request.Request.{Request}
use Rattle.device_core.specs.declared.request.Request.TheVariants as request
use Rattle.device_core.specs.theorem.Fences.{all_signalled_by, is_pending, merged, signal_at, signalled_by}
use Rattle.device_core.specs.theorem.Buffers.{BufferState, at_usage, empty_buffer, entry_of, export_usage, exported, fence_waiting, import_into, import_usage, imported, is_within, put_as, waiting_fence}
use Rattle.device_core.specs.theorem.BufferWorld.{put_with}
use Rattle.device_core.specs.theorem.State.{FileState, export_of, fence_at, file_signalled, import_of, merged_files, one_fence_file, raised}
use Rattle.device_core.specs.theorem.Request.{closed, dropped, value_in, with_at}
use Rattle.device_core.specs.theorem.History.{AreAccepted, World, asked, empty_world, put_by_export, put_by_import, world_after, world_from, world_of}
use Rattle.device_core.specs.Sound.{IsSound}
use Rattle.device_core.proofs.Placed.{entry_in, fold-All, merged-All}
use Rattle.device_core.proofs.Signalled.{point-signalled}
use Rattle.device_core.proofs.Sound.{with_at-same, with_at-other}
use Rattle.device_core.proofs.BufferSteps.{import-All}
use Rattle.device_core.proofs.Stepping.{same_Some, None≢Some, buffer_given, file_given, IsSound-after, IsSound-empty}

-- the elements of a list that is mapped or filtered
pub mapped : {X Y : Type 0} (f : X → Y) (xs : List X) (x : X) → Contains xs x → Contains (map f xs) (f x)
mapped f [] x (i, low, is) = absurd (omega arith)
mapped f (y ∷ ys) x (zero, low, is) = (0, omega arith, ap f is)
mapped f (y ∷ ys) x (suc i, low, is) = Contains-append_right (f y ∷ []) (map f ys) (f x) (mapped f ys x (i, omega arith, is))

pub kept : {X : Type 0} (p : X → Bool) (xs : List X) (x : X) → p x ≡ true → Contains xs x → Contains (filter p xs) x
kept p [] x passes (i, low, is) = absurd (omega arith)
kept p (y ∷ ys) x passes (zero, low, is) =
    let first : p y ≡ true = ap p is ∙ passes in
    rw first (0, omega arith, is)
kept p (y ∷ ys) x passes (suc i, low, is) =
    let rest = kept p ys x passes (i, omega arith, is) in
    elim (cases_Bool (p y)) [
      | inl is_kept ↦ rw is_kept (Contains-append_right (y ∷ []) (filter p ys) x rest)
      | inr not ↦ rw not rest
    ]

-- each fence of a file, or of a buffer, is one of the entries
abbrev pub AreIn : List Entry → List Fence → Type 0
AreIn put fs = All (λ (f : Fence). Contains put (entry_in f)) fs

abbrev pub AreAmong : List Entry → List BufferFence → Type 0
AreAmong put hs = All (λ (h : BufferFence). Contains put (entry_of h)) hs

pub record HasListed (w : World) : Type 0 where
  pub files : (n : ℕ) (f : FileState) → w.objects.files n ≡ Some f → AreIn (w.put n) f.fences
  pub buffers : (n : ℕ) (b : BufferState) → w.objects.buffers n ≡ Some b → AreAmong (w.put n) b.fences

-- the fences that an import puts in
imported-among : (usage : Usage) (put : List Entry) (fs : List Fence) → AreIn put fs → AreAmong (put_with usage put) (imported usage fs)
imported-among usage put [] all = All-nil (λ (h : BufferFence). Contains (put_with usage put) (entry_of h))
imported-among usage put (f ∷ fs) all =
    let P : BufferFence → Type 0 = λ h. Contains (put_with usage put) (entry_of h) in
    let rest = imported-among usage put fs (All-tail (λ (g : Fence). Contains put (entry_in g)) f fs all) in
    let here : Contains (put_with usage put) (entry_of (put_as usage f)) = mapped (λ (e : Entry). record { point = e.point; usage = usage }) put (entry_in f) (All-head (λ (g : Fence). Contains put (entry_in g)) f fs all) in
    elim (cases_Bool (is_pending f)) [
      | inl is ↦ rw is (All-cons P (put_as usage f) (imported usage fs) here rest)
      | inr not ↦ rw not rest
    ]

import-among : (timelines : ℕ → Option Timeline) (usage : Usage) (fs : List Fence) (b : BufferState) (put more : List Entry) → AreAmong put b.fences → AreIn more fs → AreAmong (put ++ put_with usage more) (import_into timelines usage fs b).fences
import-among timelines usage fs b put more old new =
    let P : BufferFence → Type 0 = λ h. Contains (put ++ put_with usage more) (entry_of h) in
    import-All P timelines usage fs b
    (All-weaker (λ (h : BufferFence). Contains put (entry_of h)) P (λ h is. Contains-append_left put (put_with usage more) (entry_of h) is) b.fences old)
    (All-weaker (λ (h : BufferFence). Contains (put_with usage more) (entry_of h)) P (λ h is. Contains-append_right put (put_with usage more) (entry_of h) is) (imported usage fs) (imported-among usage more fs new))

-- the fences that an export lists
waiting-in : (usage : Usage) (put : List Entry) (h : BufferFence) (gs : List Fence) (o : Option Timeline) (within : Bool) → is_within usage (entry_of h) ≡ within → Contains put (entry_of h) → AreIn (at_usage usage put) gs → AreIn (at_usage usage put) (cons_option (if within then fence_waiting h.timeline h.value o else None) gs)
waiting-in usage put h gs o false is here rest = rest
waiting-in usage put h gs None true is here rest = rest
waiting-in usage put h gs (Some t) true is here rest =
    let P : Fence → Type 0 = λ g. Contains (at_usage usage put) (entry_in g) in
    let there : Contains (at_usage usage put) (as_entry (entry_of h).point) = mapped (λ (e : Entry). as_entry e.point) (filter (is_within usage) put) (entry_of h) (kept (is_within usage) put (entry_of h) is here) in
    elim (cases_Bool (nat_lt t.value h.value)) [
      | inl waits ↦ rw waits (All-cons P _ gs there rest)
      | inr not ↦ rw not rest
    ]

all_waiting-in : (timelines : ℕ → Option Timeline) (usage : Usage) (put : List Entry) (hs : List BufferFence) → AreAmong put hs → AreIn (at_usage usage put) (filter_map (waiting_fence timelines usage) hs)
all_waiting-in timelines usage put [] all = All-nil (λ (g : Fence). Contains (at_usage usage put) (entry_in g))
all_waiting-in timelines usage put (h ∷ hs) all =
    let P : BufferFence → Type 0 = λ g. Contains put (entry_of g) in
    waiting-in usage put h (filter_map (waiting_fence timelines usage) hs) (timelines h.timeline) (is_within usage (entry_of h)) refl (All-head P h hs all)
    (all_waiting-in timelines usage put hs (All-tail P h hs all))

pub exported-in : (timelines : ℕ → Option Timeline) (usage : Usage) (put : List Entry) (hs : List BufferFence) → AreAmong put hs → AreIn (at_usage usage put) (exported timelines usage hs)
exported-in timelines usage put hs all =
    let P : Fence → Type 0 = λ g. Contains (at_usage usage put) (entry_in g) in
    fold-All P (filter_map (waiting_fence timelines usage) hs) [] (All-nil P) (all_waiting-in timelines usage put hs all)

-- a new object
file-new : (w : World) (file : Option FileState) (put : List Entry) → IsSound w → HasListed w → ((f : FileState) → file ≡ Some f → AreIn put f.fences)
    → HasListed (record { objects = record w.objects { next = w.objects.next + 1; files = with_at w.objects.files w.objects.next file }; put = with_at w.put w.objects.next put })
file-new w file put sound h new =
    let next = w.objects.next in
    record {
      files = λ n f is. elim (cases_eq next n) [
        | inl same ↦
            let its : file ≡ Some f = sym (with_at-same w.objects.files next file) ∙ ap (with_at w.objects.files next file) same ∙ is in
            subst (λ es. AreIn es f.fences) (sym (with_at-same w.put next put) ∙ ap (with_at w.put next put) same) (new f its)
        | inr apart ↦
            subst (λ es. AreIn es f.fences) (sym (with_at-other w.put next put n apart))
            (h.files n f (sym (with_at-other w.objects.files next file n apart) ∙ is))
      ];
      buffers = λ n b is.
          let low = buffer_given w sound n b is in
          subst (λ es. AreAmong es b.fences) (sym (with_at-other w.put next put n (λ same. omega arith))) (h.buffers n b is);
    }

buffer-new : (w : World) (time : ℕ) → IsSound w → HasListed w
    → HasListed (record { objects = record w.objects { next = w.objects.next + 1; buffers = with_at w.objects.buffers w.objects.next (Some (empty_buffer time)) }; put = with_at w.put w.objects.next [] })
buffer-new w time sound h =
    let next = w.objects.next in
    let new = Some (empty_buffer time) in
    record {
      files = λ n f is.
          let low = file_given w sound n f is in
          subst (λ es. AreIn es f.fences) (sym (with_at-other w.put next [] n (λ same. omega arith))) (h.files n f is);
      buffers = λ n b is. elim (cases_eq next n) [
        | inl same ↦
            let its : new ≡ Some b = sym (with_at-same w.objects.buffers next new) ∙ ap (with_at w.objects.buffers next new) same ∙ is in
            let none : [] ≡ b.fences = ap (λ (x : BufferState). x.fences) (same_Some its) in
            subst (AreAmong (with_at w.put next [] n)) none (All-nil (λ (g : BufferFence). Contains (with_at w.put next [] n) (entry_of g)))
        | inr apart ↦
            subst (λ es. AreAmong es b.fences) (sym (with_at-other w.put next [] n apart))
            (h.buffers n b (sym (with_at-other w.objects.buffers next new n apart) ∙ is))
      ];
    }

-- a file that signals lists the same points
signalled-in : (t v : ℕ) (s : Signal) (put : List Entry) (fs : List Fence) → AreIn put fs → AreIn put (all_signalled_by t v s fs)
signalled-in t v s put fs all =
    let P : Fence → Type 0 = λ g. Contains put (entry_in g) in
    All-map P (signalled_by t v s) fs (All-weaker P (λ f. P (signalled_by t v s f)) (λ f is. subst (Contains put) (sym (point-signalled t v s f)) is) fs all)

signalled-file : (t v : ℕ) (s : Signal) (put : List Entry) (o : Option FileState) (f : FileState) → ((g : FileState) → o ≡ Some g → AreIn put g.fences) → option_map (file_signalled t v s) o ≡ Some f → AreIn put f.fences
signalled-file t v s put None f all is = None≢Some f is
signalled-file t v s put (Some g) f all is = subst (AreIn put) (ap (λ (x : FileState). x.fences) (same_Some is)) (signalled-in t v s put g.fences (all g refl))

HasListed-signals : (w : World) (t v : ℕ) (s : Signal) (new : Option Timeline) → HasListed w
    → HasListed (record { objects = record w.objects { timelines = with_at w.objects.timelines t new; files = λ q. option_map (file_signalled t v s) (w.objects.files q) }; put = w.put })
HasListed-signals w t v s new h = record {
  files = λ n f is. signalled-file t v s (w.put n) (w.objects.files n) f (h.files n) is;
  buffers = h.buffers;
}

HasListed-dropped : (w : World) (number : ℕ) → HasListed w → HasListed (record { objects = dropped w.objects number; put = w.put })
HasListed-dropped w number h = record {
  files = λ n f is. elim (cases_eq number n) [
    | inl same ↦ None≢Some f (sym (with_at-same w.objects.files number None) ∙ ap (with_at w.objects.files number None) same ∙ is)
    | inr apart ↦ h.files n f (sym (with_at-other w.objects.files number None n apart) ∙ is)
  ];
  buffers = λ n b is. elim (cases_eq number n) [
    | inl same ↦ None≢Some b (sym (with_at-same w.objects.buffers number None) ∙ ap (with_at w.objects.buffers number None) same ∙ is)
    | inr apart ↦ h.buffers n b (sym (with_at-other w.objects.buffers number None n apart) ∙ is)
  ];
}

-- a file of a point, a merge and an export
one-in : (t : ℕ) (point now : ℕ) (o : Option Timeline) (f : FileState) → option_map (λ k. one_fence_file t k point now) o ≡ Some f → AreIn (asked t (value_in o) point) f.fences
one-in t point now None f is = None≢Some f is
one-in t point now (Some k) f is =
    let put = asked t k.value point in
    let P : Fence → Type 0 = λ g. Contains put (entry_in g) in
    let fs : fence_at t k point now ∷ [] ≡ f.fences = ap (λ (x : FileState). x.fences) (same_Some is) in
    subst (AreIn put) fs (All-cons P (fence_at t k point now) [] (0, omega arith, refl) (All-nil P))

merged-in : (name : Text) (put more : List Entry) (o p : Option FileState) (f : FileState) → ((g : FileState) → o ≡ Some g → AreIn put g.fences) → ((g : FileState) → p ≡ Some g → AreIn more g.fences) → merged_files name o p ≡ Some f → AreIn (put ++ more) f.fences
merged-in name put more None p f left right is = None≢Some f is
merged-in name put more (Some g) None f left right is = None≢Some f is
merged-in name put more (Some g) (Some k) f left right is =
    let P : Fence → Type 0 = λ x. Contains (put ++ more) (entry_in x) in
    let fs : merged g.fences k.fences ≡ f.fences = ap (λ (x : FileState). x.fences) (same_Some is) in
    subst (AreIn (put ++ more)) fs (merged-All P g.fences k.fences
    (All-weaker (λ (x : Fence). Contains put (entry_in x)) P (λ x its. Contains-append_left put more (entry_in x) its) g.fences (left g refl))
    (All-weaker (λ (x : Fence). Contains more (entry_in x)) P (λ x its. Contains-append_right put more (entry_in x) its) k.fences (right k refl)))

export-in : (timelines : ℕ → Option Timeline) (u : Result Usage Errno) (put : List Entry) (o : Option BufferState) (f : FileState) → ((b : BufferState) → o ≡ Some b → AreAmong put b.fences) → export_of timelines u o ≡ Some f → AreIn (put_by_export u put) f.fences
export-in timelines (Err e) put o f all is = None≢Some f is
export-in timelines (Ok usage) put None f all is = None≢Some f is
export-in timelines (Ok usage) put (Some b) f all is =
    let fs : exported timelines usage b.fences ≡ f.fences = ap (λ (x : FileState). x.fences) (same_Some is) in
    subst (AreIn (at_usage usage put)) fs (exported-in timelines usage put b.fences (all b refl))

-- a buffer before and after an import
import-in : (timelines : ℕ → Option Timeline) (u : Result Usage Errno) (put more : List Entry) (o : Option FileState) (p : Option BufferState) (b : BufferState) → ((g : FileState) → o ≡ Some g → AreIn more g.fences) → ((c : BufferState) → p ≡ Some c → AreAmong put c.fences) → import_of timelines u o p ≡ Some b → AreAmong (put_by_import u put more) b.fences
import-in timelines (Err e) put more o p b file was is = was b is
import-in timelines (Ok usage) put more None p b file was is =
    All-weaker (λ (h : BufferFence). Contains put (entry_of h)) (λ (h : BufferFence). Contains (put ++ put_with usage more) (entry_of h)) (λ h its. Contains-append_left put (put_with usage more) (entry_of h) its) b.fences (was b is)
import-in timelines (Ok usage) put more (Some g) None b file was is = None≢Some b is
import-in timelines (Ok usage) put more (Some g) (Some c) b file was is =
    subst (AreAmong (put ++ put_with usage more)) (ap (λ (x : BufferState). x.fences) (same_Some is)) (import-among timelines usage g.fences c put more (was c refl) (file g refl))

extended : (u : Result Usage Errno) (put more : List Entry) (fs : List Fence) → AreIn put fs → AreIn (put_by_import u put more) fs
extended (Err e) put more fs all = all
extended (Ok usage) put more fs all =
    All-weaker (λ (f : Fence). Contains put (entry_in f)) (λ (f : Fence). Contains (put ++ put_with usage more) (entry_in f)) (λ f its. Contains-append_left put (put_with usage more) (entry_in f) its) fs all

HasListed-imported : (w : World) (buffer file : ℕ) (u : Result Usage Errno) → IsSound w → HasListed w
    → HasListed (record { objects = record w.objects { buffers = with_at w.objects.buffers buffer (import_of w.objects.timelines u (w.objects.files file) (w.objects.buffers buffer)) }; put = with_at w.put buffer (put_by_import u (w.put buffer) (w.put file)) })
HasListed-imported w buffer file u sound h =
    let new = import_of w.objects.timelines u (w.objects.files file) (w.objects.buffers buffer) in
    let put = put_by_import u (w.put buffer) (w.put file) in
    record {
      files = λ n f is. elim (cases_eq buffer n) [
        | inl same ↦
            subst (λ es. AreIn es f.fences) (sym (with_at-same w.put buffer put) ∙ ap (with_at w.put buffer put) same)
            (extended u (w.put buffer) (w.put file) f.fences (subst (λ m. AreIn (w.put m) f.fences) (sym same) (h.files n f is)))
        | inr apart ↦ subst (λ es. AreIn es f.fences) (sym (with_at-other w.put buffer put n apart)) (h.files n f is)
      ];
      buffers = λ n b is. elim (cases_eq buffer n) [
        | inl same ↦
            let its : new ≡ Some b = sym (with_at-same w.objects.buffers buffer new) ∙ ap (with_at w.objects.buffers buffer new) same ∙ is in
            subst (λ es. AreAmong es b.fences) (sym (with_at-same w.put buffer put) ∙ ap (with_at w.put buffer put) same)
            (import-in w.objects.timelines u (w.put buffer) (w.put file) (w.objects.files file) (w.objects.buffers buffer) b (h.files file) (h.buffers buffer) its)
        | inr apart ↦
            subst (λ es. AreAmong es b.fences) (sym (with_at-other w.put buffer put n apart))
            (h.buffers n b (sym (with_at-other w.objects.buffers buffer new n apart) ∙ is))
      ];
    }

HasListed-closed : (w : World) (number now : ℕ) → HasListed w → HasListed (record { objects = closed w.objects number now; put = w.put })
HasListed-closed w number now h = elim (cases_Bool (is_some (w.objects.timelines number))) [
  | inl timeline ↦ rw timeline (HasListed-signals w number GREATEST (signal_at now true) None h)
  | inr other ↦ rw other (HasListed-dropped w number h)
]

pub HasListed-after : (w : World) (r : Request) → IsSound w → HasListed w → HasListed (world_after w r)
HasListed-after w (request.Open name) sound h = record { files = h.files; buffers = h.buffers }
HasListed-after w (request.Fence t point now) sound h =
    file-new w (option_map (λ k. one_fence_file t k point now) (w.objects.timelines t)) (asked t (value_in (w.objects.timelines t)) point) sound h
    (λ f is. one-in t point now (w.objects.timelines t) f is)
HasListed-after w (request.Inc t n now) sound h =
    HasListed-signals w t (value_in (w.objects.timelines t) + n) (signal_at now false) (option_map (λ k. raised k n) (w.objects.timelines t)) h
HasListed-after w (request.Merge a b name) sound h =
    file-new w (merged_files name (w.objects.files a) (w.objects.files b)) (w.put a ++ w.put b) sound h
    (λ f is. merged-in name (w.put a) (w.put b) (w.objects.files a) (w.objects.files b) f (h.files a) (h.files b) is)
HasListed-after w (request.Status file) sound h = h
HasListed-after w (request.IsSignalled file) sound h = h
HasListed-after w (request.Info file) sound h = h
HasListed-after w (request.Close number now) sound h = HasListed-closed w number now h
HasListed-after w (request.Buffer now) sound h = buffer-new w now sound h
HasListed-after w (request.Export buffer flags) sound h =
    file-new w (export_of w.objects.timelines (export_usage flags) (w.objects.buffers buffer)) (put_by_export (export_usage flags) (w.put buffer)) sound h
    (λ f is. export-in w.objects.timelines (export_usage flags) (w.put buffer) (w.objects.buffers buffer) f (h.buffers buffer) is)
HasListed-after w (request.Import buffer file flags) sound h = HasListed-imported w buffer file (import_usage flags) sound h
HasListed-after w (request.Test buffer usage) sound h = h

pub HasListed-empty : HasListed empty_world
HasListed-empty = record { files = λ n f is. None≢Some f is; buffers = λ n b is. None≢Some b is }

pub HasListed-from : (history : List Request) (w : World) → IsSound w → HasListed w → AreAccepted w history → HasListed (world_from w history)
HasListed-from [] w sound h accepted = h
HasListed-from (r ∷ rs) w sound h accepted = HasListed-from rs (world_after w r) (IsSound-after w r sound accepted.0) (HasListed-after w r sound h) accepted.1

pub HasListed-history : (history : List Request) → AreAccepted empty_world history → HasListed (world_of history)
HasListed-history history accepted = HasListed-from history empty_world IsSound-empty HasListed-empty accepted
