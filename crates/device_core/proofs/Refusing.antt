-- The causes to refuse a request, by what is open, are the device's.
use Rattle.std.proofs.Common.{◌≡◌, ℕ, ◌+◌, nat_le, Bool, true, false, not, ◌||◌, ◌==◌, cond, refl, ap, ◌∙◌, List, [], ◌∷◌, ◌++◌, length, Option, None, Some, is_some, Ok, Err}
use Rattle.std.proofs.lemmas.Bool.{false≢true}
use Rattle.point_core.specs.declared.entry.Usage.TheVariants.{Write, Read}
use Rattle.point_core.specs.Reach.{GREATEST}
use Rattle.device_core.specs.declared.fence.Timeline.{Timeline}
use Rattle.device_core.specs.declared.errno.Errno.{Errno}
use Rattle.device_core.specs.declared.errno.Errno.TheVariants.{NoEntry, WrongKind, NoNumber, Invalid}
use Rattle.device_core.specs.declared.request.Request.{Request}
use Rattle.device_core.specs.declared.request.Request.TheVariants as request
use Rattle.device_core.specs.theorem.Wrapping.{unwrapped}
use Rattle.device_core.specs.theorem.Buffers.{export_usage, import_usage}
use Rattle.device_core.specs.theorem.State.{Objects}
use Rattle.device_core.specs.theorem.Request.{cause_after, cause_at_buffer, cause_at_file, cause_at_timeline, cause_if_numbered, cause_of, is_there, overflow, value_in}
use Rattle.device_core.specs.theorem.History.{World, sum_of}
use Rattle.device_core.specs.theorem.Requests.{Kind, TimelineKind, FileKind, BufferKind, causes, cause, first_cause, is_buffer, is_file, is_timeline, kinds, open_kind, unless_fitting, unless_flags, unless_numbered, unless_open}
use Rattle.device_core.proofs.Reporting.{HasSums}
use Rattle.device_core.proofs.OpenKinds.{HasKinds, IsOfAt}

-- an object of the kind that is wanted, or why there is none
unless-timeline : (k : Option Kind) (c : Option Errno) (rest : List (Bool × Errno)) → (is_timeline k ≡ true → c ≡ first_cause rest) → cond (is_timeline k) c (Some (cond (is_file k || is_buffer k) WrongKind NoEntry)) ≡ first_cause (unless_open is_timeline k ++ rest)
unless-timeline None c rest same = refl
unless-timeline (Some TimelineKind) c rest same = same refl
unless-timeline (Some FileKind) c rest same = refl
unless-timeline (Some BufferKind) c rest same = refl

unless-file : (k : Option Kind) (c : Option Errno) (rest : List (Bool × Errno)) → (is_file k ≡ true → c ≡ first_cause rest) → cond (is_file k) c (Some (cond (is_timeline k || is_buffer k) WrongKind NoEntry)) ≡ first_cause (unless_open is_file k ++ rest)
unless-file None c rest same = refl
unless-file (Some TimelineKind) c rest same = refl
unless-file (Some FileKind) c rest same = same refl
unless-file (Some BufferKind) c rest same = refl

unless-buffer : (k : Option Kind) (c : Option Errno) (rest : List (Bool × Errno)) → (is_buffer k ≡ true → c ≡ first_cause rest) → cond (is_buffer k) c (Some (cond (is_timeline k || is_file k) WrongKind NoEntry)) ≡ first_cause (unless_open is_buffer k ++ rest)
unless-buffer None c rest same = refl
unless-buffer (Some TimelineKind) c rest same = refl
unless-buffer (Some FileKind) c rest same = refl
unless-buffer (Some BufferKind) c rest same = same refl

at-timeline : (d : Objects) (k : Option Kind) (n : ℕ) (c : Option Errno) (rest : List (Bool × Errno)) → IsOfAt k d n → (is_timeline k ≡ true → c ≡ first_cause rest) → cause_at_timeline d n c ≡ first_cause (unless_open is_timeline k ++ rest)
at-timeline d k n c rest is same =
    ap (λ b. cond b c (Some (cond (is_some (d.files n) || is_some (d.buffers n)) WrongKind NoEntry))) is.timeline
    ∙ ap (λ b. cond (is_timeline k) c (Some (cond (b || is_some (d.buffers n)) WrongKind NoEntry))) is.file
    ∙ ap (λ b. cond (is_timeline k) c (Some (cond (is_file k || b) WrongKind NoEntry))) is.buffer
    ∙ unless-timeline k c rest same

at-file : (d : Objects) (k : Option Kind) (n : ℕ) (c : Option Errno) (rest : List (Bool × Errno)) → IsOfAt k d n → (is_file k ≡ true → c ≡ first_cause rest) → cause_at_file d n c ≡ first_cause (unless_open is_file k ++ rest)
at-file d k n c rest is same =
    ap (λ b. cond b c (Some (cond (is_some (d.timelines n) || is_some (d.buffers n)) WrongKind NoEntry))) is.file
    ∙ ap (λ b. cond (is_file k) c (Some (cond (b || is_some (d.buffers n)) WrongKind NoEntry))) is.timeline
    ∙ ap (λ b. cond (is_file k) c (Some (cond (is_timeline k || b) WrongKind NoEntry))) is.buffer
    ∙ unless-file k c rest same

at-buffer : (d : Objects) (k : Option Kind) (n : ℕ) (c : Option Errno) (rest : List (Bool × Errno)) → IsOfAt k d n → (is_buffer k ≡ true → c ≡ first_cause rest) → cause_at_buffer d n c ≡ first_cause (unless_open is_buffer k ++ rest)
at-buffer d k n c rest is same =
    ap (λ b. cond b c (Some (cond (is_some (d.timelines n) || is_some (d.files n)) WrongKind NoEntry))) is.buffer
    ∙ ap (λ b. cond (is_buffer k) c (Some (cond (b || is_some (d.files n)) WrongKind NoEntry))) is.timeline
    ∙ ap (λ b. cond (is_buffer k) c (Some (cond (is_timeline k || b) WrongKind NoEntry))) is.file
    ∙ unless-buffer k c rest same

-- without more causes
only-file : (k : Option Kind) → first_cause (unless_open is_file k ++ []) ≡ first_cause (unless_open is_file k)
only-file k = refl

only-buffer : (k : Option Kind) → first_cause (unless_open is_buffer k ++ []) ≡ first_cause (unless_open is_buffer k)
only-buffer k = refl

-- a number for another object
if-numbered : (d : Objects) (h : List Request) (c : Option Errno) (rest : List (Bool × Errno)) → HasKinds d h → c ≡ first_cause rest → cause_if_numbered d c ≡ first_cause (unless_numbered h ++ rest)
if-numbered d h c rest k same =
    ap (λ n. cond (nat_le GREATEST n) (Some NoNumber) c) k.next
    ∙ ap (cond (nat_le GREATEST (length (kinds h) + 1)) (Some NoNumber)) same

-- the value of an open timeline
value-told : (w : World) (h : List Request) (t : ℕ) → HasSums w h → is_some (w.objects.timelines t) ≡ true → value_in (w.objects.timelines t) ≡ sum_of t h
value-told w h t sums there = go (w.objects.timelines t) refl there
  where
    go : (o : Option Timeline) → w.objects.timelines t ≡ o → is_some o ≡ true → value_in o ≡ sum_of t h
    go None is there = absurd (false≢true there)
    go (Some k) is there = sums.values t k is

-- flags
export-flags : (a b c : Bool) (rest : List (Bool × Errno)) (o : Option Errno) → o ≡ first_cause rest → cause_after (cond a (Ok Write) (cond (b || c) (Ok Read) (Err Invalid))) o ≡ first_cause (cause (not (a || b || c)) Invalid ∷ rest)
export-flags true b c rest o same = same
export-flags false true c rest o same = same
export-flags false false true rest o same = same
export-flags false false false rest o same = refl

import-flags : (a b c : Bool) (rest : List (Bool × Errno)) (o : Option Errno) → o ≡ first_cause rest → cause_after (cond a (Ok Read) (cond (b || c) (Ok Write) (Err Invalid))) o ≡ first_cause (cause (not (a || b || c)) Invalid ∷ rest)
import-flags true b c rest o same = same
import-flags false true c rest o same = same
import-flags false false true rest o same = same
import-flags false false false rest o same = refl

-- another object that has to be a file
or-no_file : (d : Objects) (k : Option Kind) (n : ℕ) (e : Errno) → IsOfAt k d n → cond (is_some (d.files n)) None (Some e) ≡ first_cause (cause (not (is_file k)) e ∷ [])
or-no_file d k n e is = ap (λ b. cond b None (Some e)) is.file ∙ turned (is_file k)
  where
    turned : (b : Bool) → cond b None (Some e) ≡ cond (not b) (Some e) None
    turned true = refl
    turned false = refl

-- any object
or-nothing : (d : Objects) (k : Option Kind) (n : ℕ) → IsOfAt k d n → cond (is_there d n) None (Some NoEntry) ≡ first_cause (cause (not (is_some k)) NoEntry ∷ [])
or-nothing d k n is =
    ap (λ b. cond (b || (is_some (d.files n) || is_some (d.buffers n))) None (Some NoEntry)) is.timeline
    ∙ ap (λ b. cond (is_timeline k || (b || is_some (d.buffers n))) None (Some NoEntry)) is.file
    ∙ ap (λ b. cond (is_timeline k || (is_file k || b)) None (Some NoEntry)) is.buffer
    ∙ any k
  where
    any : (o : Option Kind) → cond (is_timeline o || (is_file o || is_buffer o)) None (Some NoEntry) ≡ cond (not (is_some o)) (Some NoEntry) None
    any None = refl
    any (Some TimelineKind) = refl
    any (Some FileKind) = refl
    any (Some BufferKind) = refl

pub cause-told : (w : World) (h : List Request) (r : Request) → HasKinds w.objects h → HasSums w h → cause_of w.objects r ≡ first_cause (causes h r)
cause-told w h (request.Open name) k sums = if-numbered w.objects h None [] k refl
cause-told w h (request.Fence t point now) k sums =
    if-numbered w.objects h (cause_at_timeline w.objects t (overflow (unwrapped (value_in (w.objects.timelines t)) point))) (unless_open is_timeline (open_kind h t) ++ unless_fitting (unwrapped (sum_of t h) point)) k
    (at-timeline w.objects (open_kind h t) t (overflow (unwrapped (value_in (w.objects.timelines t)) point)) (unless_fitting (unwrapped (sum_of t h) point)) (k.each t)
    (λ is. ap (λ v. overflow (unwrapped v point)) (value-told w h t sums ((k.each t).timeline ∙ is))))
cause-told w h (request.Inc t n now) k sums =
    at-timeline w.objects (open_kind h t) t (overflow (value_in (w.objects.timelines t) + n)) (unless_fitting (sum_of t h + n)) (k.each t)
    (λ is. ap (λ v. overflow (v + n)) (value-told w h t sums ((k.each t).timeline ∙ is)))
cause-told w h (request.Merge a b name) k sums =
    let rest = cause (not (is_file (open_kind h b))) NoEntry ∷ [] in
    if-numbered w.objects h (cause_at_file w.objects a (cond (is_some (w.objects.files b)) None (Some NoEntry))) (unless_open is_file (open_kind h a) ++ rest) k
    (at-file w.objects (open_kind h a) a (cond (is_some (w.objects.files b)) None (Some NoEntry)) rest (k.each a) (λ is. or-no_file w.objects (open_kind h b) b NoEntry (k.each b)))
cause-told w h (request.Status file) k sums = at-file w.objects (open_kind h file) file None [] (k.each file) (λ is. refl)
cause-told w h (request.IsSignalled file) k sums = at-file w.objects (open_kind h file) file None [] (k.each file) (λ is. refl)
cause-told w h (request.Info file) k sums = at-file w.objects (open_kind h file) file None [] (k.each file) (λ is. refl)
cause-told w h (request.Close number now) k sums = or-nothing w.objects (open_kind h number) number (k.each number)
cause-told w h (request.Buffer now) k sums = if-numbered w.objects h None [] k refl
cause-told w h (request.Export buffer flags) k sums =
    if-numbered w.objects h (cause_at_buffer w.objects buffer (cause_after (export_usage flags) None)) (unless_open is_buffer (open_kind h buffer) ++ unless_flags flags) k
    (at-buffer w.objects (open_kind h buffer) buffer (cause_after (export_usage flags) None) (unless_flags flags) (k.each buffer)
    (λ is. export-flags (flags == 1) (flags == 2) (flags == 3) [] None refl))
cause-told w h (request.Import buffer file flags) k sums =
    let rest = cause (not (is_file (open_kind h file))) Invalid ∷ [] in
    at-buffer w.objects (open_kind h buffer) buffer (cause_after (import_usage flags) (cond (is_some (w.objects.files file)) None (Some Invalid))) (unless_flags flags ++ rest) (k.each buffer)
    (λ is. import-flags (flags == 1) (flags == 2) (flags == 3) rest (cond (is_some (w.objects.files file)) None (Some Invalid)) (or-no_file w.objects (open_kind h file) file Invalid (k.each file)))
cause-told w h (request.Test buffer usage) k sums = at-buffer w.objects (open_kind h buffer) buffer None [] (k.each buffer) (λ is. refl)
