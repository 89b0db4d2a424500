-- The answers of a device are those that the history gives.
use Rattle.std.proofs.Common.{◌≡◌, ◌↔◌, ◌==◌, ℕ, ◌+◌, zero, suc, nat_le, inl, inr, Bool, true, false, not, ◌&&◌, ◌||◌, cond, refl, sym, ap, ◌∙◌, subst, List, [], ◌∷◌, ◌++◌, length, map, codes, unwrap_or, Option, None, Some, is_some, All, Result, Ok, Err}
use Rattle.std.specs.List.{list_any, range_with_len}
use Rattle.std.proofs.lemmas.Bool.{and_parts, cases_Bool, false≢true}
use Rattle.std.proofs.lemmas.List.{length-map}
use Rattle.std.proofs.lemmas.List.Elements.{All-nil, All-head, All-push, All-tail, All-weaker}
use Rattle.std.proofs.lemmas.Simd.{map-map}
use Rattle.point_core.specs.declared.entry.Usage.{Usage}
use Rattle.point_core.specs.declared.status.Status.TheVariants.{Active, Signalled, Cancelled}
use Rattle.point_core.specs.Usage.{usage_number}
use Rattle.point_core.specs.Agreement.{all_reached}
use Rattle.point_core.proofs.Reached.{all_reached-IsReached}
use Rattle.device_core.specs.declared.fence.Fence.{Fence}
use Rattle.device_core.specs.declared.text.Text.{Text}
use Rattle.device_core.specs.declared.info.FenceDriver.TheVariants.{SwSync}
use Rattle.device_core.specs.declared.errno.Errno.{Errno}
use Rattle.device_core.specs.declared.request.Request.{Request}
use Rattle.device_core.specs.declared.request.Request.TheVariants as request
use Rattle.device_core.specs.declared.request.Reply.{Reply}
use Rattle.device_core.specs.declared.request.Reply.TheVariants as answer
use Rattle.device_core.specs.theorem.Fences.{are_signalled, point_in, status_before, status_of, time_of}
use Rattle.device_core.specs.theorem.Names.{as_text, fences_name as fences_name_in, file_name, kernel_name, text_of}
use Rattle.device_core.specs.theorem.Info.{fence_info, fence_infos, stub_info}
use Rattle.device_core.specs.theorem.Buffers.{BufferState, none_waits}
use Rattle.device_core.specs.theorem.State.{DeviceState, FileState, empty_text, objects_of}
use Rattle.device_core.specs.theorem.Request.{AreWoken, IsAnswer, IsCause, OnInfo, OnObject, OnWoken, Reports, after, cause_of, closed, has_signalled as has_signalled_in, is_waiting, risen, takes_memory, wakes_some}
use Rattle.device_core.specs.theorem.History.{AreAccepted, AreAnswers, HasHistory, World, empty_world, reach_of, sum_of, world_of}
use Rattle.device_core.specs.theorem.Signals.{first_status, opened_as, point_status}
use Rattle.device_core.specs.theorem.Requests.{Has32Bits, Have32Bits, causes, first_cause, is_file, kinds, open_kind}
use Rattle.device_core.specs.theorem.Making.{Making, made_in, time_reached}
use Rattle.device_core.specs.theorem.Answered.{Answers, AreAnswered, AreWokenBy, IsAnswered, IsInfoOf, MayLackMemory, OnInfoOf, Refuses, WakesOne, fences_name, file_status, has_signalled, is_reached_at, name_of, row_of, rows_of, status_after, timeline_name, waits}
use Rattle.device_core.proofs.Histories.{AreAccepted-push, world_from-push}
use Rattle.device_core.proofs.Reporting.{HasSums-history, signalled-world}
use Rattle.device_core.proofs.Stepping.{given_timelines, IsSound-history}
use Rattle.device_core.proofs.BufferSteps.{test-step}
use Rattle.device_core.proofs.Said.{names-said, said}
use Rattle.device_core.proofs.Signals.{file-status, signals-history}
use Rattle.device_core.proofs.OpenKinds.{HasKinds-history}
use Rattle.device_core.proofs.Refusing.{cause-told}
use Rattle.device_core.proofs.Made.{HasMakings-history, IsMadeAs, listed, times-are}

-- two tests that pass together are equal
same-test : (a b : Bool) → ((a ≡ true) ↔ (b ≡ true)) → a ≡ b
same-test true b both = sym (both.0 refl)
same-test false true both = absurd (false≢true (both.1 refl))
same-test false false both = refl

signalled-test : (h : List Request) → AreAccepted empty_world h → (n : ℕ) (f : FileState) → (world_of h).objects.files n ≡ Some f → are_signalled f.fences ≡ is_reached_at h 0 n
signalled-test h accepted n f there =
    let w = world_of h in
    let one = signalled-world w (IsSound-history h accepted) n f there in
    let two = all_reached-IsReached (reach_of w.objects) 0 (w.put n) in
    said h accepted (λ reach put. are_signalled f.fences ≡ all_reached reach 0 (put n))
    (same-test (are_signalled f.fences) (all_reached (reach_of w.objects) 0 (w.put n)) (λ is. two.1 (one.0 is), λ is. one.1 (two.0 is)))

-- files that wait, and that have signalled
waits-told : (h : List Request) → AreAccepted empty_world h → (n : ℕ) → is_waiting ((world_of h).objects.files n) ≡ waits h n
waits-told h accepted n = go ((world_of h).objects.files n) refl
  where
    file : is_some ((world_of h).objects.files n) ≡ is_file (open_kind h n)
    file = ((HasKinds-history h accepted).each n).file

    go : (o : Option FileState) → (world_of h).objects.files n ≡ o → is_waiting o ≡ waits h n
    go None gone = ap (λ b. b && not (is_reached_at h 0 n)) (sym (ap is_some gone) ∙ file)
    go (Some f) there =
        ap not (signalled-test h accepted n f there)
        ∙ ap (λ b. b && not (is_reached_at h 0 n)) (sym (ap is_some there) ∙ file)

signalled-told : (h : List Request) → AreAccepted empty_world h → (n : ℕ) → has_signalled_in ((world_of h).objects.files n) ≡ has_signalled h n
signalled-told h accepted n = go ((world_of h).objects.files n) refl
  where
    file : is_some ((world_of h).objects.files n) ≡ is_file (open_kind h n)
    file = ((HasKinds-history h accepted).each n).file

    go : (o : Option FileState) → (world_of h).objects.files n ≡ o → has_signalled_in o ≡ has_signalled h n
    go None gone = ap (λ b. b && is_reached_at h 0 n) (sym (ap is_some gone) ∙ file)
    go (Some f) there =
        signalled-test h accepted n f there
        ∙ ap (λ b. b && is_reached_at h 0 n) (sym (ap is_some there) ∙ file)

-- a file after another request
later-told : (h : List Request) (r : Request) → AreAccepted empty_world h → cause_of (world_of h).objects r ≡ None → (n : ℕ) → has_signalled_in ((after (world_of h).objects r).files n) ≡ has_signalled (h ++ r ∷ []) n
later-told h r accepted none n =
    ap (λ (w : World). has_signalled_in (w.objects.files n)) (sym (world_from-push h empty_world r))
    ∙ signalled-told (h ++ r ∷ []) (AreAccepted-push h empty_world r accepted none) n

-- the files that a request wakes
woken-told : (h : List Request) (r : Request) (woken : List ℕ) → AreAccepted empty_world h → cause_of (world_of h).objects r ≡ None → AreWoken (world_of h).objects (after (world_of h).objects r) woken → AreWokenBy h r woken
woken-told h r woken accepted none are = record {
  all = λ n.
      let before = waits-told h accepted n in
      let later = later-told h r accepted none n in (
        λ among. let both = (are.all n).0 among in (sym before ∙ both.0, sym later ∙ both.1),
        λ both. (are.all n).1 (before ∙ both.0, later ∙ both.1),
      );
  rising = are.rising;
}

on-woken : (such more : List ℕ → Type 0) (given : Reply) → ((woken : List ℕ) → such woken → more woken) → OnWoken such given → OnWoken more given
on-woken such more (answer.Number n) then is = is
on-woken such more (answer.Woken woken) then is = then woken.items is
on-woken such more (answer.Status status) then is = is
on-woken such more (answer.Signalled signalled) then is = is
on-woken such more (answer.Info info) then is = is
on-woken such more answer.Done then is = is

any-found : (p : ℕ → Bool) (a n : ℕ) → list_any p (range_with_len a n) ≡ true → (q : ℕ) × (p q ≡ true)
any-found p a zero is = absurd (false≢true is)
any-found p a (suc n) is = elim (cases_Bool (p a)) [
  | inl here ↦ (a, here)
  | inr not ↦ any-found p (a + 1) n (ap (λ b. b || list_any p (range_with_len (a + 1) n)) (sym not) ∙ is)
]

wakes-told : (h : List Request) (r : Request) → AreAccepted empty_world h → cause_of (world_of h).objects r ≡ None → wakes_some (world_of h).objects (after (world_of h).objects r) ≡ true → WakesOne h r
wakes-told h r accepted none some =
    let d = (world_of h).objects in
    let e = after d r in
    let found = any-found (λ n. is_waiting (d.files n) && has_signalled_in (e.files n)) 0 d.next some in
    let both = and_parts (is_waiting (d.files found.0)) (has_signalled_in (e.files found.0)) found.1 in
    (found.0, sym (waits-told h accepted found.0) ∙ both.0, sym (later-told h r accepted none found.0) ∙ both.1)

-- refusals
lacks-told : (h : List Request) (r : Request) → AreAccepted empty_world h → cause_of (world_of h).objects r ≡ None → takes_memory (world_of h).objects r ≡ true → MayLackMemory h r
lacks-told h (request.Open name) accepted none takes = tt
lacks-told h (request.Fence t point now) accepted none takes = tt
lacks-told h (request.Inc t n now) accepted none takes = wakes-told h (request.Inc t n now) accepted none takes
lacks-told h (request.Merge a b name) accepted none takes = tt
lacks-told h (request.Status file) accepted none takes = absurd (false≢true takes)
lacks-told h (request.IsSignalled file) accepted none takes = absurd (false≢true takes)
lacks-told h (request.Info file) accepted none takes = tt
lacks-told h (request.Close number now) accepted none takes = wakes-told h (request.Close number now) accepted none takes
lacks-told h (request.Buffer now) accepted none takes = tt
lacks-told h (request.Export buffer flags) accepted none takes = tt
lacks-told h (request.Import buffer file flags) accepted none takes = tt
lacks-told h (request.Test buffer usage) accepted none takes = absurd (false≢true takes)

refusal-told : (h : List Request) (r : Request) (e : Errno) → AreAccepted empty_world h → IsCause (cause_of (world_of h).objects r) (takes_memory (world_of h).objects r) e → Refuses (first_cause (causes h r)) h r e
refusal-told h r e accepted is =
    subst (λ o. Refuses o h r e) (cause-told (world_of h) h r (HasKinds-history h accepted) (HasSums-history h accepted))
    (go (cause_of (world_of h).objects r) refl is)
  where
    go : (o : Option Errno) → cause_of (world_of h).objects r ≡ o → IsCause o (takes_memory (world_of h).objects r) e → Refuses o h r e
    go None none told = (told.0, lacks-told h r accepted none told.1)
    go (Some cause) some told = told

-- the information on a file
status-told : (h : List Request) → AreAccepted empty_world h → (g : Fence) → status_before g.signal Signalled ≡ point_status (world_of h).objects.timelines h (point_in g) → status_before g.signal Signalled ≡ status_after h (listed g)
status-told h accepted g is =
    is ∙ ap (λ b. cond (nat_le g.value (sum_of g.timeline h)) Signalled (cond b Active Cancelled)) ((HasKinds-history h accepted).each g.timeline).timeline

statuses-told : (h : List Request) → AreAccepted empty_world h → (n : ℕ) (f : FileState) → (world_of h).objects.files n ≡ Some f → All (λ (g : Fence). status_before g.signal Signalled ≡ status_after h (listed g)) f.fences
statuses-told h accepted n f there =
    All-weaker (λ (g : Fence). status_before g.signal Signalled ≡ point_status (world_of h).objects.timelines h (point_in g)) (λ (g : Fence). status_before g.signal Signalled ≡ status_after h (listed g))
    (λ g is. status-told h accepted g is) f.fences (signals-history h accepted n f there).statuses

file_status-told : (h : List Request) → AreAccepted empty_world h → (n : ℕ) (f : FileState) (m : Making) → (world_of h).objects.files n ≡ Some f → IsMadeAs f m → status_of f.fences ≡ file_status h m
file_status-told h accepted n f m there is =
    file-status (λ (g : Fence). status_after h (listed g)) f.fences (statuses-told h accepted n f there)
    ∙ ap first_status (sym (map-map (status_after h) listed f.fences) ∙ ap (map (status_after h)) is.points)

abbrev IsNamed : List Request → Fence → Type 0
IsNamed h g = g.name ≡ timeline_name h g.timeline

names-told : (h : List Request) → AreAccepted empty_world h → (n : ℕ) (f : FileState) → (world_of h).objects.files n ≡ Some f → All (IsNamed h) f.fences
names-told h accepted n f there =
    All-weaker (λ (g : Fence). opened_as g.timeline [] h ≡ Some g.name) (IsNamed h) (λ g is. sym (ap (λ o. unwrap_or o empty_text) is)) f.fences (names-said h accepted n f there)

fences_name-told : (h : List Request) (n : ℕ) (fs : List Fence) → All (IsNamed h) fs → fences_name_in n fs ≡ fences_name h n (map listed fs)
fences_name-told h n [] all = refl
fences_name-told h n (g ∷ []) all = ap (λ (t : Text). kernel_name (codes "sw_sync") (text_of t) g.timeline g.point) (All-head (IsNamed h) g [] all)
fences_name-told h n (g ∷ k ∷ gs) all = refl

name-told : (h : List Request) → AreAccepted empty_world h → (n : ℕ) (f : FileState) (m : Making) → (world_of h).objects.files n ≡ Some f → IsMadeAs f m → file_name n f ≡ name_of h n m
name-told h accepted n f m there is =
    ap (λ ns. cond (length (text_of f.name) == 0) ns (text_of f.name)) (fences_name-told h n f.fences (names-told h accepted n f there) ∙ ap (fences_name h n) is.points)
    ∙ ap (λ (t : Text). cond (length (text_of t) == 0) (fences_name h n m.points) (text_of t)) is.name

row-told : (h : List Request) (n : ℕ) (g : Fence) → IsNamed h g → status_before g.signal Signalled ≡ status_after h (listed g) → time_of g.signal ≡ time_reached h n (listed g) → fence_info g ≡ row_of h n (listed g)
row-told h n g named status time = λ i. record { timeline = named i; driver = SwSync; status = status i; at = time i }

rows-told : (h : List Request) (n : ℕ) (fs : List Fence) → All (IsNamed h) fs → All (λ (g : Fence). status_before g.signal Signalled ≡ status_after h (listed g)) fs → All (λ (g : Fence). time_of g.signal ≡ time_reached h n (listed g)) fs → map fence_info fs ≡ map (row_of h n) (map listed fs)
rows-told h n [] named statuses times = refl
rows-told h n (g ∷ gs) named statuses times =
    let S : Fence → Type 0 = λ x. status_before x.signal Signalled ≡ status_after h (listed x) in
    let T : Fence → Type 0 = λ x. time_of x.signal ≡ time_reached h n (listed x) in
    ap (λ x. x ∷ map fence_info gs) (row-told h n g (All-head (IsNamed h) g gs named) (All-head S g gs statuses) (All-head T g gs times))
    ∙ ap (λ xs. row_of h n (listed g) ∷ xs) (rows-told h n gs (All-tail (IsNamed h) g gs named) (All-tail S g gs statuses) (All-tail T g gs times))

infos-told : (h : List Request) → AreAccepted empty_world h → (n : ℕ) (f : FileState) (m : Making) → (world_of h).objects.files n ≡ Some f → IsMadeAs f m → fence_infos f ≡ rows_of h n m
infos-told h accepted n f m there is =
    ap (λ infos. cond (length f.fences == 0) (stub_info f.stub_at ∷ []) infos)
    (rows-told h n f.fences (names-told h accepted n f there) (statuses-told h accepted n f there) (times-are h accepted n f there))
    ∙ ap (λ k. cond (k == 0) (stub_info f.stub_at ∷ []) (map (row_of h n) (map listed f.fences))) (sym (length-map f.fences listed))
    ∙ ap (λ ls. cond (length ls == 0) (stub_info f.stub_at ∷ []) (map (row_of h n) ls)) is.points
    ∙ ap (λ t. cond (length m.points == 0) (stub_info t ∷ []) (map (row_of h n) m.points)) is.stub_at

info-told : (h : List Request) → AreAccepted empty_world h → Have32Bits h → (n : ℕ) (o : Option FileState) (given : Reply) → (world_of h).objects.files n ≡ o → OnInfo n o given → OnInfoOf (IsInfoOf h n) given
info-told h accepted small n None given there told = absurd told
info-told h accepted small n (Some f) (answer.Number m) there told = told
info-told h accepted small n (Some f) (answer.Woken woken) there told = told
info-told h accepted small n (Some f) (answer.Status status) there told = told
info-told h accepted small n (Some f) (answer.Signalled signalled) there told = told
info-told h accepted small n (Some f) (answer.Info info) there told =
    let is = (HasMakings-history h accepted small).files n f there in
    record {
      name = told.name ∙ ap as_text (name-told h accepted n f (made_in h n) there is);
      status = told.status ∙ file_status-told h accepted n f (made_in h n) there is;
      rows = told.fences ∙ infos-told h accepted n f (made_in h n) there is;
    }
info-told h accepted small n (Some f) answer.Done there told = told

-- the answers to accepted requests
object-told : {X : Type 0} (o : Option X) (tell : X → Reply) (given other : Reply) → OnObject o tell given → ((x : X) → o ≡ Some x → tell x ≡ other) → given ≡ other
object-told None tell given other is same = absurd is
object-told (Some x) tell given other is same = is ∙ same x refl

number-told : (h : List Request) → AreAccepted empty_world h → (given : Reply) → given ≡ answer.Number (world_of h).objects.next → given ≡ answer.Number (length (kinds h) + 1)
number-told h accepted given is = is ∙ ap answer.Number (HasKinds-history h accepted).next

tested-told : (h : List Request) → AreAccepted empty_world h → (n : ℕ) (b : BufferState) (usage : Usage) → (world_of h).objects.buffers n ≡ Some b → none_waits (world_of h).objects.timelines usage b.fences ≡ is_reached_at h (usage_number usage) n
tested-told h accepted n b usage there =
    let w = world_of h in
    let sound = IsSound-history h accepted in
    let one = test-step w.objects usage b.fences (w.put n) (given_timelines w sound) (sound.buffer_fences n b there) (sound.buffer_agrees n b there) in
    let two = all_reached-IsReached (reach_of w.objects) (usage_number usage) (w.put n) in
    let same = same-test (none_waits w.objects.timelines usage b.fences) (all_reached (reach_of w.objects) (usage_number usage) (w.put n)) (λ is. two.1 (one.0 is), λ is. one.1 (two.0 is)) in
    said h accepted (λ reach put. none_waits w.objects.timelines usage b.fences ≡ all_reached reach (usage_number usage) (put n)) same

answer-told : (h : List Request) (r : Request) (given : Reply) → AreAccepted empty_world h → Have32Bits h → cause_of (world_of h).objects r ≡ None → Reports (world_of h).objects r given → Answers h r given
answer-told h (request.Open name) given accepted small none is = number-told h accepted given is
answer-told h (request.Fence t point now) given accepted small none is = number-told h accepted given is
answer-told h (request.Inc t n now) given accepted small none is =
    let d = (world_of h).objects in
    on-woken (AreWoken d (risen d t n now)) (AreWokenBy h (request.Inc t n now)) given (λ woken are. woken-told h (request.Inc t n now) woken accepted none are) is
answer-told h (request.Merge a b name) given accepted small none is = number-told h accepted given is
answer-told h (request.Status file) given accepted small none is =
    object-told ((world_of h).objects.files file) (λ f. answer.Status (status_of f.fences)) given (answer.Status (file_status h (made_in h file))) is
    (λ f there. ap answer.Status (file_status-told h accepted file f (made_in h file) there ((HasMakings-history h accepted small).files file f there)))
answer-told h (request.IsSignalled file) given accepted small none is =
    object-told ((world_of h).objects.files file) (λ f. answer.Signalled (are_signalled f.fences)) given (answer.Signalled (is_reached_at h 0 file)) is
    (λ f there. ap answer.Signalled (signalled-test h accepted file f there))
answer-told h (request.Info file) given accepted small none is = info-told h accepted small file ((world_of h).objects.files file) given refl is
answer-told h (request.Close number now) given accepted small none is =
    let d = (world_of h).objects in
    on-woken (AreWoken d (closed d number now)) (AreWokenBy h (request.Close number now)) given (λ woken are. woken-told h (request.Close number now) woken accepted none are) is
answer-told h (request.Buffer now) given accepted small none is = number-told h accepted given is
answer-told h (request.Export buffer flags) given accepted small none is = number-told h accepted given is
answer-told h (request.Import buffer file flags) given accepted small none is = is
answer-told h (request.Test buffer usage) given accepted small none is =
    object-told ((world_of h).objects.buffers buffer) (λ b. answer.Signalled (none_waits (world_of h).objects.timelines usage b.fences)) given (answer.Signalled (is_reached_at h (usage_number usage) buffer)) is
    (λ b there. ap answer.Signalled (tested-told h accepted buffer b usage there))

pub IsAnswered-world : (h : List Request) (r : Request) (a : Result Reply Errno) → AreAccepted empty_world h → Have32Bits h → IsAnswer (world_of h).objects r a → IsAnswered h r a
IsAnswered-world h r (Ok given) accepted small is = (
  sym (cause-told (world_of h) h r (HasKinds-history h accepted) (HasSums-history h accepted)) ∙ is.0,
  answer-told h r given accepted small is.0 is.1,
)
IsAnswered-world h r (Err e) accepted small is = refusal-told h r e accepted is

pub IsAnswered-stands : (d : DeviceState) (h : List Request) (r : Request) (a : Result Reply Errno) → HasHistory d h → Have32Bits h → IsAnswer (objects_of d) r a → IsAnswered h r a
IsAnswered-stands d h r a had small is = IsAnswered-world h r a had.accepted small (subst (λ o. IsAnswer o r a) had.is is)

-- along a run
AreAnswered-from : (h rs : List Request) (given : List (Result Reply Errno)) → AreAccepted empty_world h → Have32Bits h → Have32Bits rs → AreAnswers h rs given → AreAnswered h rs given
AreAnswered-from h [] [] accepted small rest are = tt
AreAnswered-from h [] (a ∷ given) accepted small rest are = are
AreAnswered-from h (r ∷ rs) [] accepted small rest are = are
AreAnswered-from h (r ∷ rs) (Ok a ∷ given) accepted small rest are = (
  IsAnswered-world h r (Ok a) accepted small are.0,
  AreAnswered-from (h ++ r ∷ []) rs given (AreAccepted-push h empty_world r accepted are.0.0)
      (All-push Has32Bits h r small (All-head Has32Bits r rs rest)) (All-tail Has32Bits r rs rest) are.1,
)
AreAnswered-from h (r ∷ rs) (Err e ∷ given) accepted small rest are = (
  IsAnswered-world h r (Err e) accepted small are.0,
  AreAnswered-from h rs given accepted small (All-tail Has32Bits r rs rest) are.1,
)

pub AreAnswered-run : (rs : List Request) (given : List (Result Reply Errno)) → Have32Bits rs → AreAnswers [] rs given → AreAnswered [] rs given
AreAnswered-run rs given small are = AreAnswered-from [] rs given tt (All-nil Has32Bits) small are
