-- The kinds of the open objects along a history, and the causes to refuse a request.
use Rattle.std.proofs.Common.{◌≡◌, ◌≢◌, ℕ, ◌+◌, ◌<◌, ◌≤◌, zero, suc, inl, inr, Bool, true, false, not, ◌||◌, cond, refl, sym, ap, ◌∙◌, subst, List, [], ◌∷◌, ◌++◌, append_assoc, append-nil, length, slice_get, Option, None, Some, is_some, option_map, Result, Ok, Err, arith}
use Rattle.std.specs.List.{cons_option}
use Rattle.std.proofs.lemmas.Bool.{cases_eq, cases_lt, eq-eqb, ne_eqb, false≢true}
use Rattle.std.proofs.lemmas.List.{length_push}
use Rattle.std.proofs.lemmas.List.Elements.{filter_map-append}
use Rattle.std.proofs.lemmas.List.Folds.{list_any-append}
use Rattle.point_core.specs.declared.entry.Usage.{Usage}
use Rattle.point_core.specs.Reach.{GREATEST}
use Rattle.device_core.specs.declared.text.Text.{Text}
use Rattle.device_core.specs.declared.fence.Timeline.{Timeline}
use Rattle.device_core.specs.declared.errno.Errno.{Errno}
use Rattle.device_core.specs.declared.errno.Errno.TheVariants.{NoEntry}
use Rattle.device_core.specs.declared.request.Request.{Request}
use Rattle.device_core.specs.declared.request.Request.TheVariants as request
use Rattle.device_core.specs.theorem.Wrapping.{unwrapped}
use Rattle.device_core.specs.theorem.Fences.{signal_at}
use Rattle.device_core.specs.theorem.Buffers.{BufferState, empty_buffer, export_usage, import_usage}
use Rattle.device_core.specs.theorem.State.{FileState, Objects, no_objects, export_of, file_signalled, import_of, merged_files, missing_buffer, missing_file, missing_timeline, new_timeline, one_fence_file, raised}
use Rattle.device_core.specs.theorem.Request.{after, cause_after, cause_of, closed, closed_timeline, dropped, overflow, value_in, with_at, with_file}
use Rattle.device_core.specs.theorem.History.{AreAccepted, World, empty_world, world_after, world_from, world_of}
use Rattle.device_core.specs.Sound.{IsSound}
use Rattle.device_core.specs.theorem.Requests.{Kind, TimelineKind, FileKind, BufferKind, closes, is_buffer, is_closed, is_file, is_timeline, kind_given, kind_made, kinds, open_kind}
use Rattle.device_core.proofs.Sound.{with_at-same, with_at-other}
use Rattle.device_core.proofs.Stepping.{None≢Some, no_cause, numbered, IsSound-empty, IsSound-after}

-- lists with one more element
get-last : {X : Type 0} (xs : List X) (x : X) → slice_get (xs ++ x ∷ []) (length xs) ≡ Some x
get-last [] x = refl
get-last (y ∷ ys) x = get-last ys x

get-other : {X : Type 0} (xs : List X) (x : X) (k : ℕ) → k ≢ length xs → slice_get (xs ++ x ∷ []) k ≡ slice_get xs k
get-other [] x zero apart = absurd (apart refl)
get-other [] x (suc k) apart = refl
get-other (y ∷ ys) x zero apart = refl
get-other (y ∷ ys) x (suc k) apart = get-other ys x k (λ is. apart (ap suc is))

or-false : (b : Bool) → (b || false) ≡ b
or-false true = refl
or-false false = refl

some-map : {X Y : Type 0} (f : X → Y) (o : Option X) → is_some (option_map f o) ≡ is_some o
some-map f None = refl
some-map f (Some x) = refl

-- the kinds with one more request
kinds-none : (h : List Request) (r : Request) → kind_made r ≡ None → kinds (h ++ r ∷ []) ≡ kinds h
kinds-none h r none = filter_map-append kind_made h (r ∷ []) ∙ ap (λ o. kinds h ++ cons_option o []) none ∙ append-nil (kinds h)

kinds-some : (h : List Request) (r : Request) (k : Kind) → kind_made r ≡ Some k → kinds (h ++ r ∷ []) ≡ kinds h ++ k ∷ []
kinds-some h r k is = filter_map-append kind_made h (r ∷ []) ∙ ap (λ o. kinds h ++ cons_option o []) is

closed-push : (h : List Request) (r : Request) (n : ℕ) → is_closed (h ++ r ∷ []) n ≡ (is_closed h n || closes n r)
closed-push h r n = list_any-append (closes n) h (r ∷ []) ∙ ap (λ b. is_closed h n || b) (or-false (closes n r))

closed-idle : (h : List Request) (r : Request) (n : ℕ) → closes n r ≡ false → is_closed (h ++ r ∷ []) n ≡ is_closed h n
closed-idle h r n not = closed-push h r n ∙ ap (λ b. is_closed h n || b) not ∙ or-false (is_closed h n)

given-same : (h g : List Request) (n : ℕ) → kinds h ≡ kinds g → kind_given h n ≡ kind_given g n
given-same h g zero same = refl
given-same h g (suc k) same = ap (λ ks. slice_get ks k) same

given-other : (h : List Request) (r : Request) (k : Kind) (n : ℕ) → kind_made r ≡ Some k → n ≢ length (kinds h) + 1 → kind_given (h ++ r ∷ []) n ≡ kind_given h n
given-other h r k zero is apart = refl
given-other h r k (suc m) is apart = ap (λ ks. slice_get ks m) (kinds-some h r k is) ∙ get-other (kinds h) k m (λ same. apart (omega arith))

given-last : (h : List Request) (r : Request) (k : Kind) (n : ℕ) → kind_made r ≡ Some k → n ≡ length (kinds h) + 1 → kind_given (h ++ r ∷ []) n ≡ Some k
given-last h r k zero is same = absurd (omega arith)
given-last h r k (suc m) is same =
    let last : m ≡ length (kinds h) = omega arith in
    ap (λ ks. slice_get ks m) (kinds-some h r k is) ∙ ap (slice_get (kinds h ++ k ∷ [])) last ∙ get-last (kinds h) k

open-idle : (h : List Request) (r : Request) (n : ℕ) → kind_made r ≡ None → closes n r ≡ false → open_kind (h ++ r ∷ []) n ≡ open_kind h n
open-idle h r n none not =
    ap (λ b. cond b None (kind_given (h ++ r ∷ []) n)) (closed-idle h r n not)
    ∙ ap (cond (is_closed h n) None) (given-same (h ++ r ∷ []) h n (kinds-none h r none))

open-other : (h : List Request) (r : Request) (k : Kind) (n : ℕ) → kind_made r ≡ Some k → closes n r ≡ false → n ≢ length (kinds h) + 1 → open_kind (h ++ r ∷ []) n ≡ open_kind h n
open-other h r k n is not apart =
    ap (λ b. cond b None (kind_given (h ++ r ∷ []) n)) (closed-idle h r n not)
    ∙ ap (cond (is_closed h n) None) (given-other h r k n is apart)

open-last : (h : List Request) (r : Request) (k : Kind) (n : ℕ) → kind_made r ≡ Some k → closes n r ≡ false → is_closed h n ≡ false → n ≡ length (kinds h) + 1 → open_kind (h ++ r ∷ []) n ≡ Some k
open-last h r k n is not unclosed same =
    ap (λ b. cond b None (kind_given (h ++ r ∷ []) n)) (closed-idle h r n not ∙ unclosed)
    ∙ given-last h r k n is same

open-closed : (h : List Request) (r : Request) (n : ℕ) → closes n r ≡ true → open_kind (h ++ r ∷ []) n ≡ None
open-closed h r n is =
    ap (λ b. cond b None (kind_given (h ++ r ∷ []) n)) (closed-push h r n ∙ ap (λ b. is_closed h n || b) is ∙ or-true (is_closed h n))
  where
    or-true : (b : Bool) → (b || true) ≡ true
    or-true true = refl
    or-true false = refl

-- what is open under a number is of that kind
pub record IsOf (k : Option Kind) (t : Option Timeline) (f : Option FileState) (b : Option BufferState) : Type 0 where
  pub timeline : is_some t ≡ is_timeline k
  pub file : is_some f ≡ is_file k
  pub buffer : is_some b ≡ is_buffer k

abbrev pub IsOfAt : Option Kind → Objects → ℕ → Type 0
IsOfAt k d n = IsOf k (d.timelines n) (d.files n) (d.buffers n)

pub record HasKinds (d : Objects) (h : List Request) : Type 0 where
  pub next : d.next ≡ length (kinds h) + 1
  pub each : (n : ℕ) → IsOfAt (open_kind h n) d n
  pub unclosed : (n : ℕ) → d.next ≤ n → is_closed h n ≡ false

pub HasKinds-empty : HasKinds no_objects []
HasKinds-empty = record {
  next = omega arith;
  each = λ n. subst (λ k. IsOf k None None None) (sym (none n)) (record { timeline = refl; file = refl; buffer = refl });
  unclosed = λ n past. refl;
}
  where
    none : (n : ℕ) → open_kind [] n ≡ None
    none zero = refl
    none (suc k) = refl

IsOf-same : (k : Option Kind) (d e : Objects) (n : ℕ) → is_some (e.timelines n) ≡ is_some (d.timelines n) → is_some (e.files n) ≡ is_some (d.files n) → is_some (e.buffers n) ≡ is_some (d.buffers n) → IsOfAt k d n → IsOfAt k e n
IsOf-same k d e n timelines files buffers is = record { timeline = timelines ∙ is.timeline; file = files ∙ is.file; buffer = buffers ∙ is.buffer }

-- a request that makes and closes nothing
kinds-idle : (d e : Objects) (h : List Request) (r : Request) → kind_made r ≡ None → ((n : ℕ) → closes n r ≡ false) → e.next ≡ d.next → ((n : ℕ) → is_some (e.timelines n) ≡ is_some (d.timelines n)) → ((n : ℕ) → is_some (e.files n) ≡ is_some (d.files n)) → ((n : ℕ) → is_some (e.buffers n) ≡ is_some (d.buffers n)) → HasKinds d h → HasKinds e (h ++ r ∷ [])
kinds-idle d e h r none not next timelines files buffers k = record {
  next = next ∙ k.next ∙ ap (λ ks. length ks + 1) (sym (kinds-none h r none));
  each = λ n. subst (λ o. IsOfAt o e n) (sym (open-idle h r n none (not n))) (IsOf-same (open_kind h n) d e n (timelines n) (files n) (buffers n) (k.each n));
  unclosed = λ n past. closed-idle h r n (not n) ∙ k.unclosed n (omega (arith, past, next));
}

-- a request that makes an object
kinds-made : (d e : Objects) (h : List Request) (r : Request) (kind : Kind) → kind_made r ≡ Some kind → ((n : ℕ) → closes n r ≡ false) → e.next ≡ d.next + 1 → IsOfAt (Some kind) e d.next → ((n : ℕ) → d.next ≢ n → IsOfAt (open_kind h n) d n → IsOfAt (open_kind h n) e n) → HasKinds d h → HasKinds e (h ++ r ∷ [])
kinds-made d e h r kind is not next new others k =
    let at = k.next in
    record {
      next =
          let push : length (kinds (h ++ r ∷ [])) ≡ length (kinds h) + 1 = ap length (kinds-some h r kind is) ∙ length_push (kinds h) kind in
          omega (arith, next, at, push);
      each = λ n. elim (cases_eq d.next n) [
        | inl same ↦
            subst (λ o. IsOfAt o e n) (sym (open-last h r kind n is (not n) (k.unclosed n (omega arith)) (sym same ∙ at)))
            (subst (λ m. IsOfAt (Some kind) e m) same new)
        | inr apart ↦
            subst (λ o. IsOfAt o e n) (sym (open-other h r kind n is (not n) (λ same. apart (at ∙ sym same))))
            (others n apart (k.each n))
      ];
      unclosed = λ n past. closed-idle h r n (not n) ∙ k.unclosed n (omega (arith, past, next));
    }

file-made : (w : World) (h : List Request) (r : Request) (file : Option FileState) → IsSound w → kind_made r ≡ Some FileKind → ((n : ℕ) → closes n r ≡ false) → is_some file ≡ true → HasKinds w.objects h → HasKinds (with_file w.objects file) (h ++ r ∷ [])
file-made w h r file sound is not made k =
    let next = w.objects.next in
    kinds-made w.objects (with_file w.objects file) h r FileKind is not refl
    (record {
      timeline = ap is_some (sound.timelines next (omega arith));
      file = ap is_some (with_at-same w.objects.files next file) ∙ made;
      buffer = ap is_some (sound.buffers next (omega arith));
    })
    (λ n apart it. IsOf-same (open_kind h n) w.objects (with_file w.objects file) n refl (ap is_some (with_at-other w.objects.files next file n apart)) refl it)
    k

merged-some : (name : Text) (o p : Option FileState) (x y : FileState) → o ≡ Some x → p ≡ Some y → is_some (merged_files name o p) ≡ true
merged-some name o p x y left right = rw (left, right) refl

export-some : (timelines : ℕ → Option Timeline) (u : Result Usage Errno) (o : Option BufferState) (b : BufferState) → cause_after u None ≡ None → o ≡ Some b → is_some (export_of timelines u o) ≡ true
export-some timelines (Err e) o b none there = None≢Some e (sym none)
export-some timelines (Ok usage) o b none there = rw there refl

import-some : (timelines : ℕ → Option Timeline) (u : Result Usage Errno) (f : Option FileState) (o : Option BufferState) → is_some (import_of timelines u f o) ≡ is_some o
import-some timelines (Err e) f o = refl
import-some timelines (Ok usage) None o = refl
import-some timelines (Ok usage) (Some f) o = some-map _ o

-- a table with one entry replaced by one that is there as well
with_at-some : {X : Type 0} (kept : ℕ → Option X) (n : ℕ) (new : Option X) (q : ℕ) → is_some new ≡ is_some (kept n) → is_some (with_at kept n new q) ≡ is_some (kept q)
with_at-some kept n new q same = elim (cases_eq n q) [
  | inl is ↦ ap (λ m. is_some (with_at kept n new m)) (sym is) ∙ ap is_some (with_at-same kept n new) ∙ same ∙ ap (λ m. is_some (kept m)) is
  | inr apart ↦ ap is_some (with_at-other kept n new q apart)
]

-- the timeline of a number is the only object with that number
timeline-file : (k : Option Kind) → is_timeline k ≡ true → is_file k ≡ false
timeline-file None is = refl
timeline-file (Some TimelineKind) is = refl
timeline-file (Some FileKind) is = absurd (false≢true is)
timeline-file (Some BufferKind) is = refl

timeline-buffer : (k : Option Kind) → is_timeline k ≡ true → is_buffer k ≡ false
timeline-buffer None is = refl
timeline-buffer (Some TimelineKind) is = refl
timeline-buffer (Some FileKind) is = refl
timeline-buffer (Some BufferKind) is = absurd (false≢true is)

-- a closing
IsOf-none : (e : Objects) (n : ℕ) → is_some (e.timelines n) ≡ false → is_some (e.files n) ≡ false → is_some (e.buffers n) ≡ false → IsOfAt None e n
IsOf-none e n timeline file buffer = record { timeline = timeline; file = file; buffer = buffer }

closing-closes : (number now : ℕ) → closes number (request.Close number now) ≡ true
closing-closes number now = eq-eqb number number refl

closing-spares : (number now n : ℕ) → number ≢ n → closes n (request.Close number now) ≡ false
closing-spares number now n apart = ne_eqb number n apart

kinds-closed : (d e : Objects) (h : List Request) (number now : ℕ) → number < d.next → e.next ≡ d.next → IsOfAt None e number → ((n : ℕ) → number ≢ n → IsOfAt (open_kind h n) d n → IsOfAt (open_kind h n) e n) → HasKinds d h → HasKinds e (h ++ request.Close number now ∷ [])
kinds-closed d e h number now low next gone others k =
    let r = request.Close number now in
    record {
      next = next ∙ k.next ∙ ap (λ ks. length ks + 1) (sym (kinds-none h r refl));
      each = λ n. elim (cases_eq number n) [
        | inl same ↦
            subst (IsOfAtNumber e) same (subst (λ o. IsOfAt o e number) (sym (open-closed h r number (closing-closes number now))) gone)
        | inr apart ↦ subst (λ o. IsOfAt o e n) (sym (open-idle h r n refl (closing-spares number now n apart))) (others n apart (k.each n))
      ];
      unclosed = λ n past. closed-idle h r n (closing-spares number now n (λ same. omega (arith, low, past, next, same))) ∙ k.unclosed n (omega (arith, past, next));
    }
  where
    IsOfAtNumber : Objects → ℕ → Type 0
    IsOfAtNumber e n = IsOfAt (open_kind (h ++ request.Close number now ∷ []) n) e n

open-given : (w : World) (number now : ℕ) → IsSound w → cause_of w.objects (request.Close number now) ≡ None → number < w.objects.next
open-given w number now sound none = elim (cases_lt number w.objects.next) [
  | inl low ↦ low
  | inr past ↦
      None≢Some NoEntry (sym none
      ∙ ap (λ (o : Option Timeline). cond (is_some o || (is_some (w.objects.files number) || is_some (w.objects.buffers number))) None (Some NoEntry)) (sound.timelines number past)
      ∙ ap (λ (o : Option FileState). cond (is_some o || is_some (w.objects.buffers number)) None (Some NoEntry)) (sound.files number past)
      ∙ ap (λ (o : Option BufferState). cond (is_some o) None (Some NoEntry)) (sound.buffers number past))
]

kinds-dropped : (w : World) (h : List Request) (number now : ℕ) → number < w.objects.next → w.objects.timelines number ≡ None → HasKinds w.objects h → HasKinds (dropped w.objects number) (h ++ request.Close number now ∷ [])
kinds-dropped w h number now low gone k =
    let d = w.objects in
    kinds-closed d (dropped d number) h number now low refl
    (IsOf-none (dropped d number) number (ap is_some gone) (ap is_some (with_at-same d.files number None)) (ap is_some (with_at-same d.buffers number None)))
    (λ n apart it. IsOf-same (open_kind h n) d (dropped d number) n refl (ap is_some (with_at-other d.files number None n apart)) (ap is_some (with_at-other d.buffers number None n apart)) it)
    k

kinds-shut : (w : World) (h : List Request) (number now : ℕ) (t : Timeline) → number < w.objects.next → w.objects.timelines number ≡ Some t → HasKinds w.objects h → HasKinds (closed_timeline w.objects number now) (h ++ request.Close number now ∷ [])
kinds-shut w h number now t low there k =
    let d = w.objects in
    let e : Objects = closed_timeline d number now in
    let it = k.each number in
    let is : is_timeline (open_kind h number) ≡ true = sym it.timeline ∙ ap is_some there in
    kinds-closed d e h number now low refl
    (IsOf-none e number (ap is_some (with_at-same d.timelines number None))
    (some-map (file_signalled number GREATEST (signal_at now true)) (d.files number) ∙ it.file ∙ timeline-file (open_kind h number) is)
    (it.buffer ∙ timeline-buffer (open_kind h number) is))
    (λ n apart of. IsOf-same (open_kind h n) d e n (ap is_some (with_at-other d.timelines number None n apart)) (some-map (file_signalled number GREATEST (signal_at now true)) (d.files n)) refl of)
    k

pub HasKinds-after : (w : World) (h : List Request) (r : Request) → IsSound w → cause_of w.objects r ≡ None → HasKinds w.objects h → HasKinds (after w.objects r) (h ++ r ∷ [])
HasKinds-after w h (request.Open name) sound none k =
    let next = w.objects.next in
    let new = Some (new_timeline name) in
    kinds-made w.objects (after w.objects (request.Open name)) h (request.Open name) TimelineKind refl (λ n. refl) refl
    (record {
      timeline = ap is_some (with_at-same w.objects.timelines next new);
      file = ap is_some (sound.files next (omega arith));
      buffer = ap is_some (sound.buffers next (omega arith));
    })
    (λ n apart it. IsOf-same (open_kind h n) w.objects (after w.objects (request.Open name)) n (ap is_some (with_at-other w.objects.timelines next new n apart)) refl refl it)
    k
HasKinds-after w h (request.Fence t point now) sound none k =
    let cause = overflow (unwrapped (value_in (w.objects.timelines t)) point) in
    let there = no_cause (w.objects.timelines t) cause (missing_timeline w.objects t) (numbered w.objects (cond (is_some (w.objects.timelines t)) cause (Some (missing_timeline w.objects t))) none) in
    file-made w h (request.Fence t point now) (option_map (λ j. one_fence_file t j point now) (w.objects.timelines t)) sound refl (λ n. refl)
    (some-map (λ j. one_fence_file t j point now) (w.objects.timelines t) ∙ ap is_some there.1) k
HasKinds-after w h (request.Inc t n now) sound none k =
    kinds-idle w.objects (after w.objects (request.Inc t n now)) h (request.Inc t n now) refl (λ m. refl) refl
    (λ m. with_at-some w.objects.timelines t (option_map (λ j. raised j n) (w.objects.timelines t)) m (some-map (λ j. raised j n) (w.objects.timelines t)))
    (λ m. some-map (file_signalled t (value_in (w.objects.timelines t) + n) (signal_at now false)) (w.objects.files m))
    (λ m. refl) k
HasKinds-after w h (request.Merge a b name) sound none k =
    let left = no_cause (w.objects.files a) (cond (is_some (w.objects.files b)) None (Some NoEntry)) (missing_file w.objects a) (numbered w.objects (cond (is_some (w.objects.files a)) (cond (is_some (w.objects.files b)) None (Some NoEntry)) (Some (missing_file w.objects a))) none) in
    let right = no_cause (w.objects.files b) None NoEntry left.2 in
    file-made w h (request.Merge a b name) (merged_files name (w.objects.files a) (w.objects.files b)) sound refl (λ n. refl)
    (merged-some name (w.objects.files a) (w.objects.files b) left.0 right.0 left.1 right.1) k
HasKinds-after w h (request.Status file) sound none k = kinds-idle w.objects w.objects h (request.Status file) refl (λ n. refl) refl (λ n. refl) (λ n. refl) (λ n. refl) k
HasKinds-after w h (request.IsSignalled file) sound none k = kinds-idle w.objects w.objects h (request.IsSignalled file) refl (λ n. refl) refl (λ n. refl) (λ n. refl) (λ n. refl) k
HasKinds-after w h (request.Info file) sound none k = kinds-idle w.objects w.objects h (request.Info file) refl (λ n. refl) refl (λ n. refl) (λ n. refl) (λ n. refl) k
HasKinds-after w h (request.Close number now) sound none k = go (w.objects.timelines number) refl
  where
    go : (o : Option Timeline) → w.objects.timelines number ≡ o → HasKinds (closed w.objects number now) (h ++ request.Close number now ∷ [])
    go None gone =
        subst (λ o. HasKinds (cond (is_some o) (closed_timeline w.objects number now) (dropped w.objects number)) (h ++ request.Close number now ∷ [])) (sym gone)
        (kinds-dropped w h number now (open-given w number now sound none) gone k)
    go (Some t) there =
        subst (λ o. HasKinds (cond (is_some o) (closed_timeline w.objects number now) (dropped w.objects number)) (h ++ request.Close number now ∷ [])) (sym there)
        (kinds-shut w h number now t (open-given w number now sound none) there k)
HasKinds-after w h (request.Buffer now) sound none k =
    let next = w.objects.next in
    let new = Some (empty_buffer now) in
    kinds-made w.objects (after w.objects (request.Buffer now)) h (request.Buffer now) BufferKind refl (λ n. refl) refl
    (record {
      timeline = ap is_some (sound.timelines next (omega arith));
      file = ap is_some (sound.files next (omega arith));
      buffer = ap is_some (with_at-same w.objects.buffers next new);
    })
    (λ n apart it. IsOf-same (open_kind h n) w.objects (after w.objects (request.Buffer now)) n refl refl (ap is_some (with_at-other w.objects.buffers next new n apart)) it)
    k
HasKinds-after w h (request.Export buffer flags) sound none k =
    let u = export_usage flags in
    let there = no_cause (w.objects.buffers buffer) (cause_after u None) (missing_buffer w.objects buffer) (numbered w.objects (cond (is_some (w.objects.buffers buffer)) (cause_after u None) (Some (missing_buffer w.objects buffer))) none) in
    file-made w h (request.Export buffer flags) (export_of w.objects.timelines u (w.objects.buffers buffer)) sound refl (λ n. refl)
    (export-some w.objects.timelines u (w.objects.buffers buffer) there.0 there.2 there.1) k
HasKinds-after w h (request.Import buffer file flags) sound none k =
    kinds-idle w.objects (after w.objects (request.Import buffer file flags)) h (request.Import buffer file flags) refl (λ n. refl) refl (λ n. refl) (λ n. refl)
    (λ n. with_at-some w.objects.buffers buffer (import_of w.objects.timelines (import_usage flags) (w.objects.files file) (w.objects.buffers buffer)) n (import-some w.objects.timelines (import_usage flags) (w.objects.files file) (w.objects.buffers buffer)))
    k
HasKinds-after w h (request.Test buffer usage) sound none k = kinds-idle w.objects w.objects h (request.Test buffer usage) refl (λ n. refl) refl (λ n. refl) (λ n. refl) (λ n. refl) k

HasKinds-from : (history : List Request) (w : World) (before : List Request) → IsSound w → AreAccepted w history → HasKinds w.objects before → HasKinds (world_from w history).objects (before ++ history)
HasKinds-from [] w before sound accepted k = subst (HasKinds w.objects) (sym (append-nil before)) k
HasKinds-from (r ∷ rs) w before sound accepted k =
    subst (HasKinds (world_from (world_after w r) rs).objects) (append_assoc before (r ∷ []) rs)
    (HasKinds-from rs (world_after w r) (before ++ r ∷ []) (IsSound-after w r sound accepted.0) accepted.1 (HasKinds-after w before r sound accepted.0 k))

pub HasKinds-history : (history : List Request) → AreAccepted empty_world history → HasKinds (world_of history).objects history
HasKinds-history history accepted = HasKinds-from history empty_world [] IsSound-empty accepted HasKinds-empty
