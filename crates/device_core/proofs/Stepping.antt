-- Each accepted request keeps the world well-formed.
use Rattle.std.proofs.Common.{◌≡◌, ◌≢◌, ℕ, ◌+◌, ◌^◌, ◌<◌, ◌≤◌, nat_lt, nat_le, inl, inr, Bool, true, false, not, cond, ◌&&◌, refl, sym, ap, ◌∙◌, subst, List, [], ◌∷◌, ◌++◌, Option, None, Some, is_some, option_map, Result, Ok, Err, arith}
use Rattle.std.proofs.lemmas.Bool.{cases_lt, cases_eq, and_right, lt-ltb, le-ltb, le-leb, lt-leb}
use Rattle.std.proofs.lemmas.Bool.Decides.{nat_tests}
use Rattle.std.proofs.lemmas.List.Elements.{All-nil, All-cons, All-weaker}
use Rattle.point_core.specs.declared.entry.Entry.{Entry}
use Rattle.point_core.specs.declared.entry.Usage.{Usage}
use Rattle.point_core.specs.Agreement.{AgreesAbove}
use Rattle.point_core.specs.Reach.{GREATEST, IsAtLeast}
use Rattle.point_core.proofs.Agreement.{AgreesAbove-refl, AgreesAbove-trans, AgreesAbove-append, AgreesAbove-later}
use Rattle.device_core.specs.declared.text.Text.{Text}
use Rattle.device_core.specs.declared.fence.Signal.{Signal}
use Rattle.device_core.specs.declared.fence.Timeline.{Timeline}
use Rattle.device_core.specs.declared.errno.Errno.{Errno}
use Rattle.device_core.specs.declared.errno.Errno.TheVariants.{Invalid, NoNumber, Overflow}
use Rattle.device_core.specs.declared.request.Request.{Request}
use Rattle.device_core.specs.declared.request.Request.TheVariants as request
use Rattle.device_core.specs.theorem.Wrapping.{unwrapped}
use Rattle.device_core.specs.theorem.Fences.{signal_at, all_signalled_by, merged, entries_in}
use Rattle.device_core.specs.theorem.State.{FileState, Objects, new_timeline, raised, fence_at, one_fence_file, merged_files, file_signalled, missing_timeline, missing_buffer, export_of, import_of}
use Rattle.device_core.specs.theorem.Request.{with_at, value_in, opened, with_file, with_signals, closed_timeline, dropped, closed, with_new_buffer, with_buffer, overflow, cause_after, cause_if_numbered, cause_of}
use Rattle.device_core.specs.theorem.History.{World, asked, put_by_export, put_by_import, world_after, world_from, world_of, empty_world, AreAccepted, reach_of, reached_by}
use Rattle.device_core.specs.theorem.Buffers.{BufferState, at_usage, empty_buffer, entries_of, export_usage, exported, import_into, import_usage}
use Rattle.device_core.specs.theorem.BufferWorld.{AreBufferFences, HasGivenTimelines, IsBufferFence, put_with}
use Rattle.device_core.specs.declared.buffer_fence.BufferFence.{BufferFence}
use Rattle.device_core.specs.Sound.{is_above, IsFence, AreFences, IsSound}
use Rattle.device_core.proofs.Signalled.{entries-signalled}
use Rattle.device_core.proofs.Placed.{Rising-is, Rising-from, merged-All, merged-Rising, merged-agrees}
use Rattle.device_core.proofs.BufferSteps.{export-keeps, export-step, import-keeps, import-step}
use Rattle.device_core.proofs.Sound.{with_at-same, with_at-other, reach-rises, fences-kept, fences-signalled, fences-reached}

pub same_Some : {X : Type 0} {x y : X} → Some x ≡ Some y → x ≡ y
same_Some {X} {x} e = ap (got x) e
  where
    got : X → Option X → X
    got d None = d
    got d (Some z) = z

pub None≢Some : {X : Type 0} {P : Type 0} (x : X) → None ≡ Some x → P
None≢Some {X} {P} x e = absurd (subst (told) e tt)
  where
    told : Option X → Type 0
    told None = Unit {0}
    told (Some y) = ⊥

-- nothing was done yet
pub IsSound-empty : IsSound empty_world
IsSound-empty = record {
  first = omega arith;
  none = refl;
  timelines = λ n low. refl;
  files = λ n low. refl;
  values = λ n t is. None≢Some t is;
  fences = λ n f is. None≢Some f is;
  agrees = λ n f is. None≢Some f is;
  buffers = λ n low. refl;
  one_kind = λ n b is. refl;
  buffer_fences = λ n b is. None≢Some b is;
  buffer_agrees = λ n b is. None≢Some b is;
}

-- an open object has a given number
pub timeline_given : (w : World) → IsSound w → (n : ℕ) (t : Timeline) → w.objects.timelines n ≡ Some t → (1 ≤ n) × (n < w.objects.next)
timeline_given w h n t there = (
  elim (cases_eq n 0) [
    | inl is ↦ None≢Some t (sym h.none ∙ ap w.objects.timelines (sym is) ∙ there)
    | inr other ↦ omega arith
  ],
  elim (cases_lt n w.objects.next) [
    | inl low ↦ low
    | inr past ↦ None≢Some t (sym (h.timelines n past) ∙ there)
  ],
)

pub file_given : (w : World) → IsSound w → (n : ℕ) (f : FileState) → w.objects.files n ≡ Some f → n < w.objects.next
file_given w h n f there = elim (cases_lt n w.objects.next) [
  | inl low ↦ low
  | inr past ↦ None≢Some f (sym (h.files n past) ∙ there)
]

pub buffer_given : (w : World) → IsSound w → (n : ℕ) (b : BufferState) → w.objects.buffers n ≡ Some b → n < w.objects.next
buffer_given w h n b there = elim (cases_lt n w.objects.next) [
  | inl low ↦ low
  | inr past ↦ None≢Some b (sym (h.buffers n past) ∙ there)
]

-- fences of timelines that were opened remain such
buffer_fences-kept : (d e : Objects) (hs : List BufferFence) → d.next ≤ e.next → AreBufferFences d hs → AreBufferFences e hs
buffer_fences-kept d e hs more all = All-weaker (IsBufferFence d.next) (IsBufferFence e.next) (λ h is. later h is) hs all
  where
    later : (h : BufferFence) → IsBufferFence d.next h → IsBufferFence e.next h
    later h is = let given = is.given in record { numbered = is.numbered; given = omega arith; fits = is.fits }

pub given_timelines : (w : World) → IsSound w → HasGivenTimelines w.objects
given_timelines w h = record { none = h.none; given = h.timelines }

abbrev world : Objects → (ℕ → List Entry) → World
world objects put = record { objects = objects; put = put }

pub IsSound-opened : (w : World) (name : Text) → IsSound w → IsSound (world (opened w.objects name) w.put)
IsSound-opened w name h =
    let first = h.first in
    let next = w.objects.next in
    let new = Some (new_timeline name) in
    let old : Objects = w.objects in
    let now : Objects = opened w.objects name in
    let other : (n : ℕ) → next ≢ n → now.timelines n ≡ old.timelines n = λ n apart. with_at-other w.objects.timelines next new n apart in
    let before : (n : ℕ) → n < next → now.timelines n ≡ old.timelines n = λ n low. other n (λ is. omega arith) in
    let rises : IsAtLeast (reach_of now) (reach_of old) = reach-rises old now (omega arith) (λ n low high. rw (before n high) (omega arith)) in
    record {
      first = omega arith;
      none = before 0 (omega arith) ∙ h.none;
      timelines = λ n low. other n (λ is. omega arith) ∙ h.timelines n (omega arith);
      files = λ n low. h.files n (omega arith);
      values = λ n t is. elim (cases_eq next n) [
        | inl same ↦
            let told : new_timeline name ≡ t = same_Some (sym (with_at-same w.objects.timelines next new) ∙ ap now.timelines same ∙ is) in
            let value : 0 ≡ t.value = ap (λ (k : Timeline). k.value) told in
            omega arith
        | inr apart ↦ h.values n t (sym (other n apart) ∙ is)
      ];
      fences = λ n f is. fences-kept old now f.fences (omega arith) before (h.fences n f is);
      agrees = λ n f is. AgreesAbove-later rises (h.agrees n f is);
      buffers = λ n low. h.buffers n (omega arith);
      one_kind = h.one_kind;
      buffer_fences = λ n b is. buffer_fences-kept old now b.fences (omega arith) (h.buffer_fences n b is);
      buffer_agrees = λ n b is. AgreesAbove-later rises (h.buffer_agrees n b is);
    }

-- a file is new, of fences of timelines that were opened, and agrees with what is put into it
pub IsSound-with_file : (w : World) (file : Option FileState) (put : List Entry) → IsSound w
    → ((f : FileState) → file ≡ Some f → AreFences w.objects f.fences × AgreesAbove (reach_of w.objects) (entries_in f.fences) put)
    → IsSound (world (with_file w.objects file) (with_at w.put w.objects.next put))
IsSound-with_file w file put h new =
    let first = h.first in
    let next = w.objects.next in
    let old : Objects = w.objects in
    let now : Objects = with_file w.objects file in
    let rises : IsAtLeast (reach_of now) (reach_of old) = reach-rises old now (omega arith) (λ n low high. omega arith) in
    record {
      first = omega arith;
      none = h.none;
      timelines = λ n low. h.timelines n (omega arith);
      files = λ n low. with_at-other w.objects.files next file n (λ is. omega arith) ∙ h.files n (omega arith);
      values = h.values;
      fences = λ n f is. elim (cases_eq next n) [
        | inl same ↦
            let its : file ≡ Some f = sym (with_at-same w.objects.files next file) ∙ ap now.files same ∙ is in
            fences-kept old now f.fences (omega arith) (λ m low. refl) (new f its).0
        | inr apart ↦
            fences-kept old now f.fences (omega arith) (λ m low. refl)
            (h.fences n f (sym (with_at-other w.objects.files next file n apart) ∙ is))
      ];
      agrees = λ n f is. elim (cases_eq next n) [
        | inl same ↦
            let its : file ≡ Some f = sym (with_at-same w.objects.files next file) ∙ ap now.files same ∙ is in
            subst (λ es. AgreesAbove (reach_of now) (entries_in f.fences) es) (sym (with_at-same w.put next put) ∙ ap (with_at w.put next put) same)
            (AgreesAbove-later rises (new f its).1)
        | inr apart ↦
            subst (λ es. AgreesAbove (reach_of now) (entries_in f.fences) es) (sym (with_at-other w.put next put n apart))
            (AgreesAbove-later rises (h.agrees n f (sym (with_at-other w.objects.files next file n apart) ∙ is)))
      ];
      buffers = λ n low. h.buffers n (omega arith);
      one_kind = λ n b is.
          let low = buffer_given w h n b is in
          with_at-other w.objects.files next file n (λ same. omega arith) ∙ h.one_kind n b is;
      buffer_fences = λ n b is. buffer_fences-kept old now b.fences (omega arith) (h.buffer_fences n b is);
      buffer_agrees = λ n b is.
          let low = buffer_given w h n b is in
          subst (λ es. AgreesAbove (reach_of now) (entries_of b.fences) es) (sym (with_at-other w.put next put n (λ same. omega arith)))
          (AgreesAbove-later rises (h.buffer_agrees n b is));
    }

-- a buffer is new, and nothing was put into it
pub IsSound-with_new_buffer : (w : World) (time : ℕ) → IsSound w → IsSound (world (with_new_buffer w.objects time) (with_at w.put w.objects.next []))
IsSound-with_new_buffer w time h =
    let first = h.first in
    let next = w.objects.next in
    let new = Some (empty_buffer time) in
    let old : Objects = w.objects in
    let now : Objects = with_new_buffer w.objects time in
    let rises : IsAtLeast (reach_of now) (reach_of old) = reach-rises old now (omega arith) (λ n low high. omega arith) in
    record {
      first = omega arith;
      none = h.none;
      timelines = λ n low. h.timelines n (omega arith);
      files = λ n low. h.files n (omega arith);
      values = h.values;
      fences = λ n f is. fences-kept old now f.fences (omega arith) (λ m low. refl) (h.fences n f is);
      agrees = λ n f is.
          let low = file_given w h n f is in
          subst (λ es. AgreesAbove (reach_of now) (entries_in f.fences) es) (sym (with_at-other w.put next [] n (λ same. omega arith)))
          (AgreesAbove-later rises (h.agrees n f is));
      buffers = λ n low. with_at-other w.objects.buffers next new n (λ is. omega arith) ∙ h.buffers n (omega arith);
      one_kind = λ n b is. elim (cases_eq next n) [
        | inl same ↦ h.files n (omega arith)
        | inr apart ↦ h.one_kind n b (sym (with_at-other w.objects.buffers next new n apart) ∙ is)
      ];
      buffer_fences = λ n b is. elim (cases_eq next n) [
        | inl same ↦
            let its : new ≡ Some b = sym (with_at-same w.objects.buffers next new) ∙ ap now.buffers same ∙ is in
            subst (AreBufferFences now) (ap (λ (x : BufferState). x.fences) (same_Some its)) (All-nil (IsBufferFence now.next))
        | inr apart ↦ buffer_fences-kept old now b.fences (omega arith) (h.buffer_fences n b (sym (with_at-other w.objects.buffers next new n apart) ∙ is))
      ];
      buffer_agrees = λ n b is. elim (cases_eq next n) [
        | inl same ↦
            let its : new ≡ Some b = sym (with_at-same w.objects.buffers next new) ∙ ap now.buffers same ∙ is in
            subst (λ es. AgreesAbove (reach_of now) (entries_of b.fences) es) (sym (with_at-same w.put next []) ∙ ap (with_at w.put next []) same)
            (subst (λ hs. AgreesAbove (reach_of now) (entries_of hs) []) (ap (λ (x : BufferState). x.fences) (same_Some its)) (AgreesAbove-refl (reach_of now) []))
        | inr apart ↦
            subst (λ es. AgreesAbove (reach_of now) (entries_of b.fences) es) (sym (with_at-other w.put next [] n apart))
            (AgreesAbove-later rises (h.buffer_agrees n b (sym (with_at-other w.objects.buffers next new n apart) ∙ is)))
      ];
    }

-- an open buffer is replaced by one with fences of timelines that were opened, which agrees with what is put into it
pub IsSound-with_buffer : (w : World) (number : ℕ) (was new : BufferState) (put : List Entry) → IsSound w
    → w.objects.buffers number ≡ Some was → AreBufferFences w.objects new.fences → AgreesAbove (reach_of w.objects) (entries_of new.fences) put
    → IsSound (world (with_buffer w.objects number (Some new)) (with_at w.put number put))
IsSound-with_buffer w number was new put h there kept agrees =
    let low = buffer_given w h number was there in
    let old : Objects = w.objects in
    let now : Objects = with_buffer w.objects number (Some new) in
    let reach = reach_of w.objects in
    record {
      first = h.first;
      none = h.none;
      timelines = h.timelines;
      files = h.files;
      values = h.values;
      fences = λ n f is. fences-kept old now f.fences (omega arith) (λ m l. refl) (h.fences n f is);
      agrees = λ n f is.
          let apart : number ≢ n = λ same. None≢Some f (sym (h.one_kind number was there) ∙ ap w.objects.files same ∙ is) in
          subst (λ es. AgreesAbove reach (entries_in f.fences) es) (sym (with_at-other w.put number put n apart)) (h.agrees n f is);
      buffers = λ n past. with_at-other w.objects.buffers number (Some new) n (λ is. omega arith) ∙ h.buffers n past;
      one_kind = λ n b is. elim (cases_eq number n) [
        | inl same ↦ sym (ap w.objects.files same) ∙ h.one_kind number was there
        | inr apart ↦ h.one_kind n b (sym (with_at-other w.objects.buffers number (Some new) n apart) ∙ is)
      ];
      buffer_fences = λ n b is. elim (cases_eq number n) [
        | inl same ↦
            let its : new ≡ b = same_Some (sym (with_at-same w.objects.buffers number (Some new)) ∙ ap now.buffers same ∙ is) in
            subst (AreBufferFences now) (ap (λ (x : BufferState). x.fences) its) kept
        | inr apart ↦ h.buffer_fences n b (sym (with_at-other w.objects.buffers number (Some new) n apart) ∙ is)
      ];
      buffer_agrees = λ n b is. elim (cases_eq number n) [
        | inl same ↦
            let its : new ≡ b = same_Some (sym (with_at-same w.objects.buffers number (Some new)) ∙ ap now.buffers same ∙ is) in
            subst (λ es. AgreesAbove reach (entries_of b.fences) es) (sym (with_at-same w.put number put) ∙ ap (with_at w.put number put) same)
            (subst (λ hs. AgreesAbove reach (entries_of hs) put) (ap (λ (x : BufferState). x.fences) its) agrees)
        | inr apart ↦
            subst (λ es. AgreesAbove reach (entries_of b.fences) es) (sym (with_at-other w.put number put n apart))
            (h.buffer_agrees n b (sym (with_at-other w.objects.buffers number (Some new) n apart) ∙ is))
      ];
    }

-- a file before it is signalled
signalled-was : {P : Type 0} (t v : ℕ) (s : Signal) (o : Option FileState) (f : FileState) → option_map (file_signalled t v s) o ≡ Some f → ((g : FileState) → o ≡ Some g → all_signalled_by t v s g.fences ≡ f.fences → P) → P
signalled-was t v s None f is told = None≢Some f is
signalled-was t v s (Some g) f is told = told g refl (ap (λ (x : FileState). x.fences) (same_Some is))

-- an open timeline is changed, and its due fences are signalled
pub IsSound-with_signals : (w : World) (t : ℕ) (new : Option Timeline) (v : ℕ) (s : Signal) (was : Timeline) → IsSound w
    → w.objects.timelines t ≡ Some was
    → ((k : Timeline) → new ≡ Some k → k.value ≤ GREATEST)
    → ((x : ℕ) → x ≤ GREATEST → is_above new x ≡ (is_above (Some was) x && not (nat_le x v)))
    → was.value ≤ reached_by new
    → IsSound (world (with_signals w.objects t new v s) w.put)
IsSound-with_signals w t new v s was h there fits above higher =
    let given = timeline_given w h t was there in
    let low : 1 ≤ t = given.0 in
    let high : t < w.objects.next = given.1 in
    let old : Objects = w.objects in
    let now : Objects = with_signals w.objects t new v s in
    let other : (n : ℕ) → t ≢ n → now.timelines n ≡ old.timelines n = λ n apart. with_at-other w.objects.timelines t new n apart in
    let here : now.timelines t ≡ new = with_at-same w.objects.timelines t new in
    let rises : IsAtLeast (reach_of now) (reach_of old) = reach-rises old now (omega arith) (λ n l m. elim (cases_eq t n) [
      | inl same ↦
          let left : old.timelines n ≡ Some was = sym (ap old.timelines same) ∙ there in
          let right : now.timelines n ≡ new = sym (ap now.timelines same) ∙ here in
          subst (λ x. reached_by (old.timelines n) ≤ x) (sym (ap reached_by right)) (subst (λ x. x ≤ reached_by new) (sym (ap reached_by left)) higher)
      | inr apart ↦ rw (other n apart) (omega arith)
    ]) in
    let told : (x : ℕ) → x ≤ GREATEST → is_above (now.timelines t) x ≡ (is_above (old.timelines t) x && not (nat_le x v)) = λ x l.
    ap (λ o. is_above o x) here ∙ above x l ∙ ap (λ o. is_above o x && not (nat_le x v)) (sym there) in
    record {
      first = h.first;
      none = other 0 (λ is. omega arith) ∙ h.none;
      timelines = λ n past. other n (λ is. omega arith) ∙ h.timelines n past;
      files = λ n past. ap (option_map (file_signalled t v s)) (h.files n past);
      values = λ n k is. elim (cases_eq t n) [
        | inl same ↦ fits k (sym here ∙ ap now.timelines same ∙ is)
        | inr apart ↦ h.values n k (sym (other n apart) ∙ is)
      ];
      fences = λ n f is. signalled-was t v s (w.objects.files n) f is (λ g its fs.
          subst (AreFences now) fs (fences-signalled old now t v s g.fences (omega arith) (other, told) (h.fences n g its)));
      agrees = λ n f is. signalled-was t v s (w.objects.files n) f is (λ g its fs.
          subst (λ es. AgreesAbove (reach_of now) es (w.put n)) (sym (entries-signalled t v s g.fences) ∙ ap entries_in fs)
          (AgreesAbove-later rises (h.agrees n g its)));
      buffers = h.buffers;
      one_kind = λ n b is. ap (option_map (file_signalled t v s)) (h.one_kind n b is);
      buffer_fences = h.buffer_fences;
      buffer_agrees = λ n b is. AgreesAbove-later rises (h.buffer_agrees n b is);
    }

pub IsSound-dropped : (w : World) (file : ℕ) → IsSound w → IsSound (world (dropped w.objects file) w.put)
IsSound-dropped w file h =
    let old : Objects = w.objects in
    let now : Objects = dropped w.objects file in
    let was : (n : ℕ) (f : FileState) → now.files n ≡ Some f → old.files n ≡ Some f = λ n f is. elim (cases_eq file n) [
      | inl same ↦ None≢Some f (sym (with_at-same w.objects.files file None) ∙ ap now.files same ∙ is)
      | inr apart ↦ sym (with_at-other w.objects.files file None n apart) ∙ is
    ] in
    let had : (n : ℕ) (b : BufferState) → now.buffers n ≡ Some b → old.buffers n ≡ Some b = λ n b is. elim (cases_eq file n) [
      | inl same ↦ None≢Some b (sym (with_at-same w.objects.buffers file None) ∙ ap now.buffers same ∙ is)
      | inr apart ↦ sym (with_at-other w.objects.buffers file None n apart) ∙ is
    ] in
    record {
      first = h.first;
      none = h.none;
      timelines = h.timelines;
      files = λ n past. elim (cases_eq file n) [
        | inl same ↦ ap now.files (sym same) ∙ with_at-same w.objects.files file None
        | inr apart ↦ with_at-other w.objects.files file None n apart ∙ h.files n past
      ];
      values = h.values;
      fences = λ n f is. fences-kept old now f.fences (omega arith) (λ m low. refl) (h.fences n f (was n f is));
      agrees = λ n f is. h.agrees n f (was n f is);
      buffers = λ n past. elim (cases_eq file n) [
        | inl same ↦ ap now.buffers (sym same) ∙ with_at-same w.objects.buffers file None
        | inr apart ↦ with_at-other w.objects.buffers file None n apart ∙ h.buffers n past
      ];
      one_kind = λ n b is. elim (cases_eq file n) [
        | inl same ↦ ap now.files (sym same) ∙ with_at-same w.objects.files file None
        | inr apart ↦ with_at-other w.objects.files file None n apart ∙ h.one_kind n b (had n b is)
      ];
      buffer_fences = λ n b is. h.buffer_fences n b (had n b is);
      buffer_agrees = λ n b is. h.buffer_agrees n b (had n b is);
    }

-- no cause
pub no_cause : {X : Type 0} (o : Option X) (c : Option Errno) (e : Errno) → cond (is_some o) c (Some e) ≡ None → (x : X) × (o ≡ Some x) × (c ≡ None)
no_cause None c e is = None≢Some e (sym is)
no_cause (Some x) c e is = (x, refl, is)

pub numbered : (d : Objects) (cause : Option Errno) → cause_if_numbered d cause ≡ None → cause ≡ None
numbered d cause is = elim (cases_lt d.next GREATEST) [
  | inl low ↦ sym (ap (λ b. cond b (Some NoNumber) cause) (lt-leb GREATEST d.next low)) ∙ is
  | inr past ↦ None≢Some NoNumber (sym is ∙ ap (λ b. cond b (Some NoNumber) cause) (le-leb GREATEST d.next past))
]

pub fits-overflow : (value : ℕ) → overflow value ≡ None → value ≤ GREATEST
fits-overflow value is = elim (cases_lt value (2 ^ 64)) [
  | inl low ↦ omega arith
  | inr high ↦ None≢Some _ (sym is ∙ ap (λ b. cond b (Some Overflow) None) (le-leb (2 ^ 64) value high))
]

-- the fence of a point that is asked for
pub signal_pending : (value at now : ℕ) → not (is_some (cond (nat_le value at) (Some (signal_at now false)) None)) ≡ nat_lt at value
signal_pending value at now = elim (cases_lt at value) [
  | inl low ↦ rw (lt-leb value at low, lt-ltb at value low) refl
  | inr high ↦ rw (le-leb value at high, le-ltb at value high) refl
]

IsSound-fence : (w : World) (t point now : ℕ) (k : Timeline) → IsSound w → w.objects.timelines t ≡ Some k → unwrapped k.value point ≤ GREATEST
    → AreFences w.objects (fence_at t k point now ∷ [])
IsSound-fence w t point now k h there fits =
    let given = timeline_given w h t k there in
    record {
      rising = λ i low. absurd (omega arith);
      each = All-cons (IsFence w.objects) (fence_at t k point now) [] (record {
        numbered = given.0;
        given = given.1;
        fits = fits;
        pending = signal_pending (unwrapped k.value point) k.value now ∙ ap (λ o. is_above o (unwrapped k.value point)) (sym there);
      }) (All-nil (IsFence w.objects));
    }

pub IsSound-merged : (w : World) (name : Text) (a b : ℕ) (o p : Option FileState) → IsSound w → w.objects.files a ≡ o → w.objects.files b ≡ p
    → (f : FileState) → merged_files name o p ≡ Some f → AreFences w.objects f.fences × AgreesAbove (reach_of w.objects) (entries_in f.fences) (w.put a ++ w.put b)
IsSound-merged w name a b None p h left right f is = None≢Some f is
IsSound-merged w name a b (Some g) None h left right f is = None≢Some f is
IsSound-merged w name a b (Some g) (Some k) h left right f is =
    let fs : merged g.fences k.fences ≡ f.fences = ap (λ (x : FileState). x.fences) (same_Some is) in
    let one = h.fences a g left in
    let two = h.fences b k right in
    let reach = reach_of w.objects in (
      subst (AreFences w.objects) fs (record {
        rising = Rising-is (merged g.fences k.fences) (merged-Rising g.fences k.fences (Rising-from g.fences one.rising));
        each = merged-All (IsFence w.objects) g.fences k.fences one.each two.each;
      }),
      subst (λ hs. AgreesAbove reach (entries_in hs) (w.put a ++ w.put b)) fs
          (AgreesAbove-trans
          (merged-agrees reach g.fences k.fences (fences-reached w.objects g.fences one) (fences-reached w.objects k.fences two))
          (AgreesAbove-append {reach = reach} {a = entries_in g.fences} {b = w.put a} {c = entries_in k.fences} {d = w.put b} (h.agrees a g left) (h.agrees b k right))),
    )

-- the export of an open buffer
pub IsSound-exported : (w : World) (buffer : ℕ) (u : Result Usage Errno) (o : Option BufferState) → IsSound w → w.objects.buffers buffer ≡ o
    → (f : FileState) → export_of w.objects.timelines u o ≡ Some f → AreFences w.objects f.fences × AgreesAbove (reach_of w.objects) (entries_in f.fences) (put_by_export u (w.put buffer))
IsSound-exported w buffer (Err e) o h its f is = None≢Some f is
IsSound-exported w buffer (Ok usage) None h its f is = None≢Some f is
IsSound-exported w buffer (Ok usage) (Some b) h its f is =
    let fs : exported w.objects.timelines usage b.fences ≡ f.fences = ap (λ (x : FileState). x.fences) (same_Some is) in
    let kept = h.buffer_fences buffer b its in (
      subst (AreFences w.objects) fs (export-keeps w.objects usage b.fences kept),
      subst (λ gs. AgreesAbove (reach_of w.objects) (entries_in gs) (at_usage usage (w.put buffer))) fs
          (export-step w.objects usage b.fences (w.put buffer) (given_timelines w h) kept (h.buffer_agrees buffer b its)),
    )

-- a buffer before and after an import
IsSound-imported : (w : World) (buffer file : ℕ) (b : BufferState) (u : Result Usage Errno) (o : Option FileState) → IsSound w
    → w.objects.buffers buffer ≡ Some b → w.objects.files file ≡ o → cause_after u (cond (is_some o) None (Some Invalid)) ≡ None
    → IsSound (world (with_buffer w.objects buffer (import_of w.objects.timelines u o (w.objects.buffers buffer))) (with_at w.put buffer (put_by_import u (w.put buffer) (w.put file))))
IsSound-imported w buffer file b (Err e) o h there its none = None≢Some e (sym none)
IsSound-imported w buffer file b (Ok usage) None h there its none = None≢Some Invalid (sym none)
IsSound-imported w buffer file b (Ok usage) (Some f) h there its none =
    let d = w.objects in
    let fences = h.fences file f its in
    let kept = h.buffer_fences buffer b there in
    let put = w.put buffer ++ put_with usage (w.put file) in
    subst (λ o. IsSound (world (with_buffer d buffer (option_map (import_into d.timelines usage f.fences) o)) (with_at w.put buffer put))) (sym there)
    (IsSound-with_buffer w buffer b (import_into d.timelines usage f.fences b) put h there (import-keeps d usage f.fences b kept fences)
    (import-step d usage f.fences b (w.put buffer) (w.put file) (given_timelines w h) kept fences (h.buffer_agrees buffer b there) (h.agrees file f its)))

above_raised : (value n x : ℕ) → nat_lt (value + n) x ≡ (nat_lt value x && not (nat_le x (value + n)))
above_raised value n x = grind (arith, nat_tests)

above_closed : (b : Bool) (x : ℕ) → x ≤ GREATEST → false ≡ (b && not (nat_le x GREATEST))
above_closed b x low = sym (ap (λ c. b && not c) (le-leb x GREATEST low) ∙ and_right b false refl)

pub IsSound-after : (w : World) (r : Request) → IsSound w → cause_of w.objects r ≡ None → IsSound (world_after w r)
IsSound-after w (request.Open name) h none = IsSound-opened w name h
IsSound-after w (request.Fence t point now) h none =
    let cause = overflow (unwrapped (value_in (w.objects.timelines t)) point) in
    let there = no_cause (w.objects.timelines t) cause (missing_timeline w.objects t) (numbered w.objects (cond (is_some (w.objects.timelines t)) cause (Some (missing_timeline w.objects t))) none) in
    let k = there.0 in
    let fits : unwrapped k.value point ≤ GREATEST = fits-overflow (unwrapped k.value point) (sym (ap (λ o. overflow (unwrapped (value_in o) point)) there.1) ∙ there.2) in
    IsSound-with_file w (option_map (λ k. one_fence_file t k point now) (w.objects.timelines t)) (asked t (value_in (w.objects.timelines t)) point) h
    (λ f is.
    let its : one_fence_file t k point now ≡ f = same_Some (sym (ap (option_map (λ k. one_fence_file t k point now)) there.1) ∙ is) in
    let fs : fence_at t k point now ∷ [] ≡ f.fences = ap (λ (x : FileState). x.fences) its in (
      subst (AreFences w.objects) fs (IsSound-fence w t point now k h there.1 fits),
      subst (λ gs. AgreesAbove (reach_of w.objects) (entries_in gs) (asked t (value_in (w.objects.timelines t)) point)) fs
          (subst (λ o. AgreesAbove (reach_of w.objects) (entries_in (fence_at t k point now ∷ [])) (asked t (value_in o) point)) (sym there.1)
          (AgreesAbove-refl (reach_of w.objects) (asked t k.value point))),
    ))
IsSound-after w (request.Inc t n now) h none =
    let there = no_cause (w.objects.timelines t) (overflow (value_in (w.objects.timelines t) + n)) (missing_timeline w.objects t) none in
    let k = there.0 in
    let fits : k.value + n ≤ GREATEST = fits-overflow (k.value + n) (sym (ap (λ o. overflow (value_in o + n)) there.1) ∙ there.2) in
    subst (λ o. IsSound (world (with_signals w.objects t (option_map (λ k. raised k n) o) (value_in o + n) (signal_at now false)) w.put)) (sym there.1)
    (IsSound-with_signals w t (Some (raised k n)) (k.value + n) (signal_at now false) k h there.1
    (λ j is. let value : k.value + n ≡ j.value = ap (λ (x : Timeline). x.value) (same_Some is) in omega arith)
    (λ x low. above_raised k.value n x)
    (omega arith))
IsSound-after w (request.Merge a b name) h none =
    IsSound-with_file w (merged_files name (w.objects.files a) (w.objects.files b)) (w.put a ++ w.put b) h
    (IsSound-merged w name a b (w.objects.files a) (w.objects.files b) h refl refl)
IsSound-after w (request.Status file) h none = h
IsSound-after w (request.IsSignalled file) h none = h
IsSound-after w (request.Info file) h none = h
IsSound-after w (request.Close n now) h none = go (w.objects.timelines n) refl
  where
    go : (o : Option Timeline) → w.objects.timelines n ≡ o → IsSound (world (closed w.objects n now) w.put)
    go None is =
        subst (λ o. IsSound (world (cond (is_some o) (closed_timeline w.objects n now) (dropped w.objects n)) w.put)) (sym is)
        (IsSound-dropped w n h)
    go (Some k) is =
        subst (λ o. IsSound (world (cond (is_some o) (closed_timeline w.objects n now) (dropped w.objects n)) w.put)) (sym is)
        (IsSound-with_signals w n None GREATEST (signal_at now true) k h is (λ j none. None≢Some j none) (λ x low. above_closed (nat_lt k.value x) x low) (h.values n k is))
IsSound-after w (request.Buffer now) h none = IsSound-with_new_buffer w now h
IsSound-after w (request.Export buffer flags) h none =
    IsSound-with_file w (export_of w.objects.timelines (export_usage flags) (w.objects.buffers buffer)) (put_by_export (export_usage flags) (w.put buffer)) h
    (IsSound-exported w buffer (export_usage flags) (w.objects.buffers buffer) h refl)
IsSound-after w (request.Import buffer file flags) h none =
    let cause = cause_after (import_usage flags) (cond (is_some (w.objects.files file)) None (Some Invalid)) in
    let there = no_cause (w.objects.buffers buffer) cause (missing_buffer w.objects buffer) none in
    IsSound-imported w buffer file there.0 (import_usage flags) (w.objects.files file) h there.1 refl there.2
IsSound-after w (request.Test buffer usage) h none = h

pub IsSound-from : (history : List Request) (w : World) → IsSound w → AreAccepted w history → IsSound (world_from w history)
IsSound-from [] w h accepted = h
IsSound-from (r ∷ rs) w h accepted = IsSound-from rs (world_after w r) (IsSound-after w r h accepted.0) accepted.1

pub IsSound-history : (history : List Request) → AreAccepted empty_world history → IsSound (world_of history)
IsSound-history history accepted = IsSound-from history empty_world IsSound-empty accepted
