-- Each file is woken at most once, and each number given at most once.
use Rattle.std.proofs.Common.{◌≡◌, ◌≢◌, ℕ, ◌+◌, ◌-◌, ◌<◌, ◌≤◌, zero, suc, nat_eq, ◌⊎◌, inl, inr, Bool, true, false, not, cond, ◌&&◌, refl, sym, ap, ◌∙◌, subst, List, [], ◌∷◌, ◌++◌, append_assoc, append-nil, map-id, length, get_or, Option, None, Some, is_some, option_map, AllPairs, Contains, count_by, flat_map, Result, Ok, Err, arith}
use Rattle.std.specs.List.{range_with_len, list_all}
use Rattle.std.proofs.lemmas.Bool.{cases_Bool, cases_eq, and_parts, and_from, or_left, eq-eqb, ne_eqb, eqb-true, false≢true}
use Rattle.std.proofs.lemmas.List.Elements.{Contains-append_right}
use Rattle.std.proofs.lemmas.List.Kept.{AllPairs-from_increasing}
use Rattle.std.proofs.lemmas.List.FromFn.{map-range_with_len_more}
use Rattle.std.proofs.lemmas.List.Sums.{sum_by-cons, sum_by-append}
use Rattle.point_core.specs.Reach.{GREATEST}
use Rattle.device_core.specs.declared.fence.Signal.{Signal}
use Rattle.device_core.specs.declared.fence.Fence.{Fence}
use Rattle.device_core.specs.declared.errno.Errno.{Errno}
use Rattle.device_core.specs.declared.request.Request.{Request}
use Rattle.device_core.specs.declared.request.Request.TheVariants as request
use Rattle.device_core.specs.declared.request.Reply.{Reply}
use Rattle.device_core.specs.declared.info.FileInfo.{FileInfo}
use Rattle.device_core.specs.declared.request.Reply.TheVariants as answer
use Rattle.device_core.specs.theorem.Fences.{is_pending, is_due, signal_at, are_signalled, status_of}
use Rattle.device_core.specs.theorem.State.{FileState, DeviceState, Objects, file_at, file_signalled, merged_files, one_fence_file, export_of}
use Rattle.device_core.specs.Woken.{is_settled_by}
use Rattle.device_core.specs.theorem.Buffers.{export_usage, none_waits as none_waits_in}
use Rattle.device_core.specs.theorem.Request.{with_at, value_in, with_file, risen, closed, closed_timeline, dropped, after, is_waiting, has_signalled, AreWoken, OnWoken, OnObject, OnInfo, Reports}
use Rattle.device_core.specs.theorem.History.{World, world_after, world_from, world_of, empty_world, AreAccepted, HasHistory, history_of, AreAnswers}
use Rattle.device_core.specs.theorem.Times.{number_in, woken_in, in_accepted, numbers_given, times_woken, one_if, begins, is_dropped, times_from, times_begun, times_dropped}
use Rattle.device_core.specs.Sound.{IsSound}
use Rattle.device_core.specs.theorem.Headline.{ReportsNumbers, ReportsEachWaking}
use Rattle.device_core.proofs.Sound.{with_at-same, with_at-other}
use Rattle.device_core.proofs.Answering.{all_settled}
use Rattle.device_core.proofs.Stepping.{IsSound-history}
use Rattle.device_core.proofs.Histories.{world_from-push, AreAccepted-push}

counting_more : (a n j : ℕ) → a + n ≡ j → range_with_len a (n + 1) ≡ range_with_len a n ++ j ∷ []
counting_more a n j is =
    sym (map-id (range_with_len a (n + 1))) ∙ map-range_with_len_more (λ m. m) a n j is ∙ ap (λ ns. ns ++ j ∷ []) (map-id (range_with_len a n))

count-cons : (n x : ℕ) (ns : List ℕ) → count_by (nat_eq n) (x ∷ ns) ≡ one_if (nat_eq n x) + count_by (nat_eq n) ns
count-cons n x ns = sum_by-cons (λ y. cond (nat_eq n y) 1 0) x ns

-- how often a number is in a rising list
count-absent : (n : ℕ) (ns : List ℕ) → (Contains ns n → ⊥) → count_by (nat_eq n) ns ≡ 0
count-absent n [] away = refl
count-absent n (x ∷ ns) away = elim (cases_Bool (nat_eq n x)) [
  | inl same ↦ absurd (away (0, omega arith, sym (eqb-true n x same)))
  | inr apart ↦
      let rest = count-absent n ns (λ h. away (Contains-append_right (x ∷ []) ns n h)) in
      rw apart rest
]

count-above : (n : ℕ) (ns : List ℕ) → ((k : ℕ) → k < length ns → n < get_or ns k 0) → count_by (nat_eq n) ns ≡ 0
count-above n [] above = refl
count-above n (x ∷ ns) above =
    let first : n < x = above 0 (omega arith) in
    let apart : n ≢ x = λ is. omega arith in
    let rest = count-above n ns (λ k low. above (suc k) (omega arith)) in
    rw (ne_eqb n x apart) rest

count-present : (n : ℕ) (ns : List ℕ) → AllPairs (λ x y. x < y) ns → Contains ns n → count_by (nat_eq n) ns ≡ 1
count-present n [] pairs h = absurd (omega (arith, h.1))
count-present n (x ∷ ns) pairs (zero, low, is) =
    let rest = count-above n ns (λ k l. let above : x < get_or ns k 0 = pairs 0 (suc k) 0 (omega arith) (omega arith) in omega arith) in
    let first = count-cons n x ns in
    let one : one_if (nat_eq n x) ≡ 1 = ap one_if (eq-eqb n x (sym is)) in
    omega arith
count-present n (x ∷ ns) pairs (suc k, low, is) =
    let above : x < get_or ns k n = pairs 0 (suc k) n (omega arith) low in
    let apart : n ≢ x = λ e. omega arith in
    let rest = count-present n ns (λ i j d less within. pairs (suc i) (suc j) d (omega arith) (omega arith)) (k, omega arith, is) in
    let first = count-cons n x ns in
    let nothing : one_if (nat_eq n x) ≡ 0 = ap one_if (ne_eqb n x apart) in
    omega arith

count-woken : (old new : Objects) (woken : List ℕ) (n : ℕ) → AreWoken old new woken → count_by (nat_eq n) woken ≡ one_if (is_waiting (old.files n) && has_signalled (new.files n))
count-woken old new woken n h = elim (cases_Bool (is_waiting (old.files n) && has_signalled (new.files n))) [
  | inl both ↦
      let parts = and_parts (is_waiting (old.files n)) (has_signalled (new.files n)) both in
      count-present n woken (AllPairs-from_increasing woken h.rising) ((h.all n).1 parts) ∙ sym (ap one_if both)
  | inr not ↦
      count-absent n woken (λ among.
      let parts = (h.all n).0 among in
      false≢true (sym not ∙ and_from (is_waiting (old.files n)) (has_signalled (new.files n)) parts.0 parts.1))
      ∙ sym (ap one_if not)
]

-- a file before and after one request
balanced : (s t : Bool) (c : ℕ) → (s ≡ true → not t ≡ false) → c ≡ one_if (not s && t) → one_if (not s) ≡ c + one_if (not s && false) + one_if (not t)
balanced true true c again is = sym (ap (λ m. m + 0 + 0) is)
balanced true false c again is = absurd (false≢true (sym (again refl)))
balanced false true c again is = sym (ap (λ m. m + 0 + 0) is)
balanced false false c again is = sym (ap (λ m. m + 0 + 1) is)

dropped_one : (s : Bool) (c : ℕ) → c ≡ one_if (not s && false) → one_if (not s) ≡ c + one_if (not s && true) + 0
dropped_one true c is = sym (ap (λ m. m + 0 + 0) is)
dropped_one false c is = sym (ap (λ m. m + 1 + 0) is)

balance : (o p : Option FileState) (c : ℕ) → (has_signalled o ≡ true → is_waiting p ≡ false) → c ≡ one_if (is_waiting o && has_signalled p)
    → one_if (not (is_some o) && is_waiting p) + one_if (is_waiting o) ≡ c + one_if (is_waiting o && not (is_some p)) + one_if (is_waiting p)
balance None None c again is = sym (ap (λ m. m + 0 + 0) is)
balance None (Some g) c again is = let none : c ≡ 0 = is in omega arith
balance (Some f) None c again is = let one = dropped_one (are_signalled f.fences) c is in omega arith
balance (Some f) (Some g) c again is = let one = balanced (are_signalled f.fences) (are_signalled g.fences) c again is in omega arith

-- a file that has signalled no longer waits
settled_stays : (t v : ℕ) (fs : List Fence) → are_signalled fs ≡ true → list_all (is_settled_by t v) fs ≡ true
settled_stays t v [] all = refl
settled_stays t v (f ∷ fs) all =
    let parts = and_parts (not (is_pending f)) (are_signalled fs) all in
    and_from (is_settled_by t v f) (list_all (is_settled_by t v) fs) (or_left (not (is_pending f)) (is_due t v f) parts.0) (settled_stays t v fs parts.1)

signalled_stays : (t v : ℕ) (s : Signal) (o : Option FileState) → has_signalled o ≡ true → is_waiting (option_map (file_signalled t v s) o) ≡ false
signalled_stays t v s None is = refl
signalled_stays t v s (Some f) is = ap not (all_settled t v s f.fences ∙ settled_stays t v f.fences is)

not_waiting : (o : Option FileState) → has_signalled o ≡ true → is_waiting o ≡ false
not_waiting None is = refl
not_waiting (Some f) is = ap not is

none_signalled : {P : Type 0} (o : Option FileState) → o ≡ None → has_signalled o ≡ true → P
none_signalled o none is = absurd (false≢true (sym (ap has_signalled none) ∙ is))

none_waits : {P : Type 0} (o : Option FileState) → o ≡ None → is_waiting o ≡ true → P
none_waits o none is = absurd (false≢true (sym (ap is_waiting none) ∙ is))

never-new : (w : World) (file : Option FileState) (n : ℕ) → IsSound w → has_signalled (w.objects.files n) ≡ true → is_waiting (with_at w.objects.files w.objects.next file n) ≡ false
never-new w file n sound is = elim (cases_eq w.objects.next n) [
  | inl same ↦ none_signalled (w.objects.files n) (sound.files n (omega arith)) is
  | inr apart ↦ ap is_waiting (with_at-other w.objects.files w.objects.next file n apart) ∙ not_waiting (w.objects.files n) is
]

never-again : (w : World) (r : Request) (n : ℕ) → IsSound w → has_signalled (w.objects.files n) ≡ true → is_waiting ((after w.objects r).files n) ≡ false
never-again w (request.Open name) n sound is = not_waiting (w.objects.files n) is
never-again w (request.Fence t point now) n sound is = never-new w (option_map (λ k. one_fence_file t k point now) (w.objects.timelines t)) n sound is
never-again w (request.Inc t m now) n sound is = signalled_stays t _ (signal_at now false) (w.objects.files n) is
never-again w (request.Merge a b name) n sound is = never-new w (merged_files name (w.objects.files a) (w.objects.files b)) n sound is
never-again w (request.Status file) n sound is = not_waiting (w.objects.files n) is
never-again w (request.IsSignalled file) n sound is = not_waiting (w.objects.files n) is
never-again w (request.Info file) n sound is = not_waiting (w.objects.files n) is
never-again w (request.Close number now) n sound is = go (is_some (w.objects.timelines number))
  where
    go : (b : Bool) → is_waiting ((cond b (closed_timeline w.objects number now) (dropped w.objects number)).files n) ≡ false
    go true = signalled_stays number GREATEST (signal_at now true) (w.objects.files n) is
    go false = elim (cases_eq number n) [
      | inl same ↦ ap is_waiting (sym (ap (with_at w.objects.files number None) same) ∙ with_at-same w.objects.files number None)
      | inr apart ↦ ap is_waiting (with_at-other w.objects.files number None n apart) ∙ not_waiting (w.objects.files n) is
    ]
never-again w (request.Buffer now) n sound is = not_waiting (w.objects.files n) is
never-again w (request.Export buffer flags) n sound is = never-new w (export_of w.objects.timelines (export_usage flags) (w.objects.buffers buffer)) n sound is
never-again w (request.Import buffer file flags) n sound is = not_waiting (w.objects.files n) is
never-again w (request.Test buffer usage) n sound is = not_waiting (w.objects.files n) is

-- the files that a request wakes
none-woken : (old new : Objects) → ((n : ℕ) → (new.files n ≡ old.files n) ⊎ (old.files n ≡ None)) → AreWoken old new []
none-woken old new files = record {
  all = λ n. (λ among. absurd (omega (arith, among.1)), λ both. go n (files n) both.0 both.1);
  rising = λ k low. absurd (omega arith);
}
  where
    go : (n : ℕ) → (new.files n ≡ old.files n) ⊎ (old.files n ≡ None) → is_waiting (old.files n) ≡ true → has_signalled (new.files n) ≡ true → Contains [] n
    go n (inl same) waits signalled = absurd (false≢true (sym (not_waiting (old.files n) (sym (ap has_signalled same) ∙ signalled)) ∙ waits))
    go n (inr none) waits signalled = none_waits (old.files n) none waits

new-woken : (w : World) (file : Option FileState) → IsSound w → AreWoken w.objects (with_file w.objects file) []
new-woken w file sound = none-woken w.objects (with_file w.objects file) (λ n. elim (cases_eq w.objects.next n) [
  | inl same ↦ inr (sound.files n (omega arith))
  | inr apart ↦ inl (with_at-other w.objects.files w.objects.next file n apart)
])

pub woken-told : (old new : Objects) (given : Reply) → OnWoken (AreWoken old new) given → AreWoken old new (woken_in given)
woken-told old new (answer.Number n) h = absurd h
woken-told old new (answer.Woken woken) h = h
woken-told old new (answer.Status status) h = absurd h
woken-told old new (answer.Signalled signalled) h = absurd h
woken-told old new (answer.Info info) h = absurd h
woken-told old new answer.Done h = absurd h

number-told : (such : List ℕ → Type 0) (given : Reply) → OnWoken such given → number_in given ≡ []
number-told such (answer.Number n) h = absurd h
number-told such (answer.Woken woken) h = refl
number-told such (answer.Status status) h = absurd h
number-told such (answer.Signalled signalled) h = absurd h
number-told such (answer.Info info) h = absurd h
number-told such answer.Done h = absurd h

pub object-told : {X : Type 0} (told : Reply → List ℕ) (o : Option X) (give : X → Reply) (given : Reply) → ((x : X) → told (give x) ≡ []) → OnObject o give given → told given ≡ []
object-told told None give given none h = absurd h
object-told told (Some f) give given none h = ap told h ∙ none f

pub info-told : (told : Reply → List ℕ) (n : ℕ) (o : Option FileState) (given : Reply) → ((info : FileInfo) → told (answer.Info info) ≡ []) → OnInfo n o given → told given ≡ []
info-told told n None given none h = absurd h
info-told told n (Some f) (answer.Number m) none h = absurd h
info-told told n (Some f) (answer.Woken woken) none h = absurd h
info-told told n (Some f) (answer.Status status) none h = absurd h
info-told told n (Some f) (answer.Signalled signalled) none h = absurd h
info-told told n (Some f) (answer.Info info) none h = none info
info-told told n (Some f) answer.Done none h = absurd h

pub wakes-after : (w : World) (r : Request) (given : Reply) → IsSound w → Reports w.objects r given → AreWoken w.objects (after w.objects r) (woken_in given)
wakes-after w (request.Open name) given sound h = subst (AreWoken w.objects (after w.objects (request.Open name))) (sym (ap woken_in h)) (none-woken w.objects (after w.objects (request.Open name)) (λ n. inl refl))
wakes-after w (request.Fence t point now) given sound h = subst (AreWoken w.objects (after w.objects (request.Fence t point now))) (sym (ap woken_in h)) (new-woken w _ sound)
wakes-after w (request.Inc t n now) given sound h = woken-told w.objects (risen w.objects t n now) given h
wakes-after w (request.Merge a b name) given sound h = subst (AreWoken w.objects (after w.objects (request.Merge a b name))) (sym (ap woken_in h)) (new-woken w _ sound)
wakes-after w (request.Status file) given sound h =
    subst (AreWoken w.objects w.objects) (sym (object-told woken_in (w.objects.files file) (λ f. answer.Status (status_of f.fences)) given (λ f. refl) h)) (none-woken w.objects w.objects (λ n. inl refl))
wakes-after w (request.IsSignalled file) given sound h =
    subst (AreWoken w.objects w.objects) (sym (object-told woken_in (w.objects.files file) (λ f. answer.Signalled (are_signalled f.fences)) given (λ f. refl) h)) (none-woken w.objects w.objects (λ n. inl refl))
wakes-after w (request.Info file) given sound h =
    subst (AreWoken w.objects w.objects) (sym (info-told woken_in file (w.objects.files file) given (λ info. refl) h)) (none-woken w.objects w.objects (λ n. inl refl))
wakes-after w (request.Close number now) given sound h = woken-told w.objects (closed w.objects number now) given h
wakes-after w (request.Buffer now) given sound h = subst (AreWoken w.objects (after w.objects (request.Buffer now))) (sym (ap woken_in h)) (none-woken w.objects (after w.objects (request.Buffer now)) (λ n. inl refl))
wakes-after w (request.Export buffer flags) given sound h = subst (AreWoken w.objects (after w.objects (request.Export buffer flags))) (sym (ap woken_in h)) (new-woken w _ sound)
wakes-after w (request.Import buffer file flags) given sound h = subst (AreWoken w.objects (after w.objects (request.Import buffer file flags))) (sym (ap woken_in h)) (none-woken w.objects (after w.objects (request.Import buffer file flags)) (λ n. inl refl))
wakes-after w (request.Test buffer usage) given sound h =
    subst (AreWoken w.objects w.objects) (sym (object-told woken_in (w.objects.buffers buffer) (λ b. answer.Signalled (none_waits_in w.objects.timelines usage b.fences)) given (λ b. refl) h)) (none-woken w.objects w.objects (λ n. inl refl))

-- the number that is given
abbrev IsNext : Objects → Request → Reply → Type 0
IsNext d r given =
    ((number_in given ≡ d.next ∷ []) × ((after d r).next ≡ d.next + 1))
    ⊎ ((number_in given ≡ []) × ((after d r).next ≡ d.next))

next-closed : (d : Objects) (number now : ℕ) (b : Bool) → (cond b (closed_timeline d number now) (dropped d number)).next ≡ d.next
next-closed d number now true = refl
next-closed d number now false = refl

next-after : (d : Objects) (r : Request) (given : Reply) → Reports d r given → IsNext d r given
next-after d (request.Open name) given h = inl (ap number_in h, refl)
next-after d (request.Fence t point now) given h = inl (ap number_in h, refl)
next-after d (request.Inc t n now) given h = inr (number-told (AreWoken d (risen d t n now)) given h, refl)
next-after d (request.Merge a b name) given h = inl (ap number_in h, refl)
next-after d (request.Status file) given h = inr (object-told number_in (d.files file) (λ f. answer.Status (status_of f.fences)) given (λ f. refl) h, refl)
next-after d (request.IsSignalled file) given h = inr (object-told number_in (d.files file) (λ f. answer.Signalled (are_signalled f.fences)) given (λ f. refl) h, refl)
next-after d (request.Info file) given h = inr (info-told number_in file (d.files file) given (λ info. refl) h, refl)
next-after d (request.Close number now) given h = inr (number-told (AreWoken d (closed d number now)) given h, next-closed d number now (is_some (d.timelines number)))
next-after d (request.Buffer now) given h = inl (ap number_in h, refl)
next-after d (request.Export buffer flags) given h = inl (ap number_in h, refl)
next-after d (request.Import buffer file flags) given h = inr (ap number_in h, refl)
next-after d (request.Test buffer usage) given h = inr (object-told number_in (d.buffers buffer) (λ b. answer.Signalled (none_waits_in d.timelines usage b.fences)) given (λ b. refl) h, refl)

-- along a run
times-push : (test : Objects → Objects → ℕ → Bool) (n : ℕ) (history : List Request) (w : World) (r : Request) → times_from test n w (history ++ r ∷ []) ≡ times_from test n w history + one_if (test (world_from w history).objects (world_after (world_from w history) r).objects n)
times-push test n [] w r = omega arith
times-push test n (x ∷ rest) w r = let again = times-push test n rest (world_after w x) r in omega arith

count-append : (n : ℕ) (xs ys : List ℕ) → count_by (nat_eq n) (xs ++ ys) ≡ count_by (nat_eq n) xs + count_by (nat_eq n) ys
count-append n xs ys = sum_by-append (λ y. cond (nat_eq n y) 1 0) xs ys

told-push : (told : Reply → List ℕ) (given : List (Result Reply Errno)) (a : Result Reply Errno) → flat_map (in_accepted told) (given ++ a ∷ []) ≡ flat_map (in_accepted told) given ++ in_accepted told a
told-push told [] a = append-nil (in_accepted told a)
told-push told (b ∷ given) a = ap (λ ns. in_accepted told b ++ ns) (told-push told given a) ∙ sym (append_assoc (in_accepted told b) (flat_map (in_accepted told) given) (in_accepted told a))

woken-push : (n : ℕ) (given : List (Result Reply Errno)) (a : Result Reply Errno) → times_woken n (given ++ a ∷ []) ≡ times_woken n given + count_by (nat_eq n) (in_accepted woken_in a)
woken-push n given a = ap (count_by (nat_eq n)) (told-push woken_in given a) ∙ count-append n (flat_map (in_accepted woken_in) given) (in_accepted woken_in a)

-- a file that begins to wait is the one that is made
none_begins : {P : Type 0} (o p : Option FileState) → (o ≡ None → p ≡ None) → (not (is_some o) && is_waiting p) ≡ true → P
none_begins None p same is = none_waits p (same refl) is
none_begins (Some f) p same is = absurd (false≢true is)

signals_begin : {P : Type 0} (t v : ℕ) (s : Signal) (o : Option FileState) → (not (is_some o) && is_waiting (option_map (file_signalled t v s) o)) ≡ true → P
signals_begin t v s o is = none_begins o (option_map (file_signalled t v s) o) (λ none. ap (option_map (file_signalled t v s)) none) is

abbrev IsMade : Objects → Request → ℕ → Type 0
IsMade d r n = (n ≡ d.next) × ((after d r).next ≡ d.next + 1)

begins-new : (d : Objects) (file : Option FileState) (n : ℕ) → begins d (with_file d file) n ≡ true → n ≡ d.next
begins-new d file n is = elim (cases_eq d.next n) [
  | inl same ↦ sym same
  | inr apart ↦ none_begins (d.files n) (with_at d.files d.next file n) (λ none. with_at-other d.files d.next file n apart ∙ none) is
]

begins-made : (d : Objects) (r : Request) (n : ℕ) → begins d (after d r) n ≡ true → IsMade d r n
begins-made d (request.Open name) n is = none_begins (d.files n) (d.files n) (λ none. none) is
begins-made d (request.Fence t point now) n is = (begins-new d (option_map (λ k. one_fence_file t k point now) (d.timelines t)) n is, refl)
begins-made d (request.Inc t m now) n is = signals_begin t (value_in (d.timelines t) + m) (signal_at now false) (d.files n) is
begins-made d (request.Merge a b name) n is = (begins-new d (merged_files name (d.files a) (d.files b)) n is, refl)
begins-made d (request.Status file) n is = none_begins (d.files n) (d.files n) (λ none. none) is
begins-made d (request.IsSignalled file) n is = none_begins (d.files n) (d.files n) (λ none. none) is
begins-made d (request.Info file) n is = none_begins (d.files n) (d.files n) (λ none. none) is
begins-made d (request.Close number now) n is = go (is_some (d.timelines number)) is
  where
    go : (b : Bool) → begins d (cond b (closed_timeline d number now) (dropped d number)) n ≡ true → IsMade d (request.Close number now) n
    go true told = signals_begin number GREATEST (signal_at now true) (d.files n) told
    go false told = none_begins (d.files n) (with_at d.files number None n) (λ none. elim (cases_eq number n) [
      | inl same ↦ sym (ap (with_at d.files number None) same) ∙ with_at-same d.files number None
      | inr apart ↦ with_at-other d.files number None n apart ∙ none
    ]) told
begins-made d (request.Buffer now) n is = none_begins (d.files n) (d.files n) (λ none. none) is
begins-made d (request.Export buffer flags) n is = (begins-new d (export_of d.timelines (export_usage flags) (d.buffers buffer)) n is, refl)
begins-made d (request.Import buffer file flags) n is = none_begins (d.files n) (d.files n) (λ none. none) is
begins-made d (request.Test buffer usage) n is = none_begins (d.files n) (d.files n) (λ none. none) is

record HasTimes (d : Objects) (history : List Request) (given : List (Result Reply Errno)) : Type 0 where
  pub each : (n : ℕ) → times_begun n history ≡ times_woken n given + times_dropped n history + one_if (is_waiting (d.files n))
  pub begun : (n : ℕ) → times_begun n history ≤ 1
  pub none : (n : ℕ) → d.next ≤ n → times_begun n history ≡ 0
  pub numbers : numbers_given given ≡ range_with_len 1 (d.next - 1)

numbers-after : (d : Objects) (r : Request) (a : Reply) (given : List (Result Reply Errno)) → 1 ≤ d.next → IsNext d r a → numbers_given given ≡ range_with_len 1 (d.next - 1) → numbers_given (given ++ Ok a ∷ []) ≡ range_with_len 1 ((after d r).next - 1)
numbers-after d r a given first (inl new) is =
    let more : (after d r).next - 1 ≡ (d.next - 1) + 1 = let next = new.1 in omega arith in
    told-push number_in given (Ok a) ∙ ap (λ ns. numbers_given given ++ ns) new.0 ∙ ap (λ ns. ns ++ d.next ∷ []) is
    ∙ sym (counting_more 1 (d.next - 1) d.next (omega arith)) ∙ ap (range_with_len 1) (sym more)
numbers-after d r a given first (inr same) is =
    told-push number_in given (Ok a) ∙ ap (λ ns. numbers_given given ++ ns) same.0 ∙ append-nil (numbers_given given) ∙ is
    ∙ ap (λ m. range_with_len 1 (m - 1)) (sym same.1)

HasTimes-after : (history : List Request) (given : List (Result Reply Errno)) (r : Request) (a : Reply) → IsSound (world_of history) → Reports (world_of history).objects r a
    → HasTimes (world_of history).objects history given → HasTimes (after (world_of history).objects r) (history ++ r ∷ []) (given ++ Ok a ∷ [])
HasTimes-after history given r a sound told h =
    let w = world_of history in
    let d = w.objects in
    let e = after w.objects r in
    let first = sound.first in
    let grows : d.next ≤ e.next = elim (next-after d r a told) [
      | inl new ↦ let next = new.1 in omega arith
      | inr same ↦ let next = same.1 in omega arith
    ] in
    record {
      each = λ n.
          let begun = times-push begins n history empty_world r in
          let dropped = times-push is_dropped n history empty_world r in
          let woken = woken-push n given (Ok a) in
          let before = h.each n in
          let here = balance (d.files n) (e.files n) (count_by (nat_eq n) (woken_in a)) (never-again w r n sound) (count-woken d e (woken_in a) n (wakes-after w r a sound told)) in
          omega arith;
      begun = λ n.
          let push = times-push begins n history empty_world r in
          let before = h.begun n in
          elim (cases_Bool (begins d e n)) [
            | inl is ↦
                let at : n ≡ d.next = (begins-made d r n is).0 in
                let nothing = h.none n (omega arith) in
                let one : one_if (begins d e n) ≡ 1 = ap one_if is in
                omega arith
            | inr not ↦
                let nothing : one_if (begins d e n) ≡ 0 = ap one_if not in
                omega arith
          ];
      none = λ n past.
          let push = times-push begins n history empty_world r in
          let before = h.none n (omega arith) in
          elim (cases_Bool (begins d e n)) [
            | inl is ↦
                let made = begins-made d r n is in
                let at : n ≡ d.next = made.0 in
                let next : e.next ≡ d.next + 1 = made.1 in
                absurd (omega arith)
            | inr not ↦
                let nothing : one_if (begins d e n) ≡ 0 = ap one_if not in
                omega arith
          ];
      numbers = numbers-after d r a given first (next-after d r a told) h.numbers;
    }

HasTimes-refused : (d : Objects) (history : List Request) (given : List (Result Reply Errno)) (e : Errno) → HasTimes d history given → HasTimes d history (given ++ Err e ∷ [])
HasTimes-refused d history given e h = record {
  each = λ n.
      let woken = woken-push n given (Err e) in
      let before = h.each n in
      omega arith;
  begun = h.begun;
  none = h.none;
  numbers = told-push number_in given (Err e) ∙ append-nil (numbers_given given) ∙ h.numbers;
}

HasTimes-from : (rs : List Request) (answers : List (Result Reply Errno)) (history : List Request) (before : List (Result Reply Errno)) → AreAccepted empty_world history → AreAnswers history rs answers
    → HasTimes (world_of history).objects history before → HasTimes (world_of (history_of history rs answers)).objects (history_of history rs answers) (before ++ answers)
HasTimes-from [] [] history before accepted are h = subst (HasTimes (world_of history).objects history) (sym (append-nil before)) h
HasTimes-from [] (a ∷ rest) history before accepted are h = absurd are
HasTimes-from (r ∷ rs) [] history before accepted are h = absurd are
HasTimes-from (r ∷ rs) (Ok a ∷ rest) history before accepted are h =
    let left = world_from-push history empty_world r in
    let sound = IsSound-history history accepted in
    let step = HasTimes-after history before r a sound are.0.1 h in
    let now : HasTimes (world_of (history ++ r ∷ [])).objects (history ++ r ∷ []) (before ++ Ok a ∷ []) =
    subst (λ (w : World). HasTimes w.objects (history ++ r ∷ []) (before ++ Ok a ∷ [])) (sym left) step in
    subst (HasTimes (world_of (history_of (history ++ r ∷ []) rs rest)).objects (history_of (history ++ r ∷ []) rs rest)) (append_assoc before (Ok a ∷ []) rest)
    (HasTimes-from rs rest (history ++ r ∷ []) (before ++ Ok a ∷ []) (AreAccepted-push history empty_world r accepted are.0.0) are.1 now)
HasTimes-from (r ∷ rs) (Err e ∷ rest) history before accepted are h =
    subst (HasTimes (world_of (history_of history rs rest)).objects (history_of history rs rest)) (append_assoc before (Err e ∷ []) rest)
    (HasTimes-from rs rest history (before ++ Err e ∷ []) accepted are.1 (HasTimes-refused (world_of history).objects history before e h))

HasTimes-run : (rs : List Request) (answers : List (Result Reply Errno)) → AreAnswers [] rs answers → HasTimes (world_of (history_of [] rs answers)).objects (history_of [] rs answers) answers
HasTimes-run rs answers are = HasTimes-from rs answers [] [] tt are (record { each = λ n. refl; begun = λ n. omega arith; none = λ n low. refl; numbers = refl })

pub ReportsNumbers-run : (d : DeviceState) (rs : List Request) (answers : List (Result Reply Errno)) → AreAnswers [] rs answers → HasHistory d (history_of [] rs answers) → ReportsNumbers d answers
ReportsNumbers-run d rs answers are had =
    let times = HasTimes-run rs answers are in
    record { rising = times.numbers ∙ ap (λ (o : Objects). range_with_len 1 (o.next - 1)) (sym had.is) }

pub ReportsEachWaking-run : (d : DeviceState) (rs : List Request) (answers : List (Result Reply Errno)) → AreAnswers [] rs answers → HasHistory d (history_of [] rs answers) → ReportsEachWaking d (history_of [] rs answers) answers
ReportsEachWaking-run d rs answers are had =
    let times = HasTimes-run rs answers are in
    let history = history_of [] rs answers in
    let each : (n : ℕ) → times_begun n history ≡ times_woken n answers + times_dropped n history + one_if (is_waiting (file_at d n)) = λ n.
    times.each n ∙ ap (λ (o : Objects). times_woken n answers + times_dropped n history + one_if (is_waiting (o.files n))) (sym had.is) in
    record {
      each = each;
      begun = times.begun;
      woken = λ n. let sum = each n in let one = times.begun n in omega arith;
    }
