-- The queue after a request was answered.
use Rattle.std.proofs.Common.{◌≡◌, ◌≢◌, ℕ, ◌<◌, ◌≤◌, inl, inr, Bool, true, false, cond, is_some, option_map, sym, ap, subst, ◌∙◌, refl, List, [], ◌∷◌, ◌++◌, length, Contains, Option, None, Some, Result, Ok, Err, OnOk, OnErr, arith}
use Rattle.std.proofs.lemmas.Bool.{cases_Bool, cases_eq, false≢true}
use Rattle.std.proofs.lemmas.List.Elements.{All-append, All-contains_itself, All-weaker}
use Rattle.device_core.specs.declared.fence.Signal.{Signal}
use Rattle.device_core.specs.declared.errno.Errno.{Errno}
use Rattle.device_core.specs.declared.request.Request.{Request}
use Rattle.device_core.specs.declared.request.Request.TheVariants as request
use Rattle.device_core.specs.declared.request.Reply.{Reply}
use Rattle.device_core.specs.declared.request.Reply.TheVariants as answer
use Rattle.device_core.specs.theorem.Buffers.{none_waits}
use Rattle.device_core.specs.theorem.Fences.{are_signalled, status_of}
use Rattle.device_core.specs.theorem.State.{FileState, DeviceState, Objects, file_at, timeline_at, objects_of, file_signalled}
use Rattle.device_core.specs.theorem.Request.{with_at, closed, closed_timeline, dropped, risen, wakes_some, after, is_waiting, AreWoken, IsAnswer, Reports}
use Rattle.device_core.specs.theorem.History.{World, world_of, HasHistory}
use Rattle.device_core.specs.Sound.{IsSound}
use Rattle.device_core.specs.theorem.Times.{woken_in}
use Rattle.device_core.proofs.Counting.{info-told, object-told, wakes-after, woken-told}
use Rattle.device_core.proofs.Needing.{wakes-none}
use Rattle.device_core.proofs.Sound.{with_at-same, with_at-other}
use Rattle.device_core.proofs.Stepping.{file_given, IsSound-history}
use Rattle.c_device.specs.Service.{AreGiven, may_wake, woken_of}
use Rattle.c_device.proofs.Few.{few}

-- the files after a request
module _ (d : Objects) where
  abbrev Stays : Objects → Type 0
  Stays e = (n : ℕ) → n < d.next → is_some (e.files n) ≡ true → is_some (d.files n) ≡ true

  new-stays : (file : Option FileState) (n : ℕ) → n < d.next → is_some (with_at d.files d.next file n) ≡ true → is_some (d.files n) ≡ true
  new-stays file n low is =
      let apart : d.next ≢ n = λ e. omega arith in
      sym (ap is_some (with_at-other d.files d.next file n apart)) ∙ is

  signalled-stays : (t v : ℕ) (s : Signal) (o : Option FileState) → is_some (option_map (file_signalled t v s) o) ≡ true → is_some o ≡ true
  signalled-stays t v s None is = is
  signalled-stays t v s (Some f) is = refl

  dropped-stays : (number n : ℕ) → is_some (with_at d.files number None n) ≡ true → is_some (d.files n) ≡ true
  dropped-stays number n is = elim (cases_eq number n) [
    | inl same ↦ absurd (false≢true (sym (ap is_some (sym (ap (with_at d.files number None) same) ∙ with_at-same d.files number None)) ∙ is))
    | inr apart ↦ sym (ap is_some (with_at-other d.files number None n apart)) ∙ is
  ]

  closed-stays : (number now : ℕ) (b : Bool) → Stays (cond b (closed_timeline d number now) (dropped d number))
  closed-stays number now true n low is = signalled-stays _ _ _ (d.files n) is
  closed-stays number now false n low is = dropped-stays number n is

  -- a file that is open after a request was open before, or is new
  pub files-stay : (r : Request) → Stays (after d r)
  files-stay (request.Open name) n low is = is
  files-stay (request.Fence t point now) n low is = new-stays _ n low is
  files-stay (request.Inc t m now) n low is = signalled-stays _ _ _ (d.files n) is
  files-stay (request.Merge a b name) n low is = new-stays _ n low is
  files-stay (request.Status file) n low is = is
  files-stay (request.IsSignalled file) n low is = is
  files-stay (request.Info file) n low is = is
  files-stay (request.Close number now) n low is = closed-stays number now (is_some (d.timelines number)) n low is
  files-stay (request.Buffer now) n low is = is
  files-stay (request.Export buffer flags) n low is = new-stays _ n low is
  files-stay (request.Import buffer file flags) n low is = is
  files-stay (request.Test buffer usage) n low is = is

  closed-next : (number now : ℕ) (b : Bool) → (cond b (closed_timeline d number now) (dropped d number)).next ≡ d.next
  closed-next number now true = refl
  closed-next number now false = refl

  -- numbers rise
  pub next-rises : (r : Request) → d.next ≤ (after d r).next
  next-rises (request.Open name) = omega arith
  next-rises (request.Fence t point now) = omega arith
  next-rises (request.Inc t m now) = omega arith
  next-rises (request.Merge a b name) = omega arith
  next-rises (request.Status file) = omega arith
  next-rises (request.IsSignalled file) = omega arith
  next-rises (request.Info file) = omega arith
  next-rises (request.Close number now) = let same = closed-next number now (is_some (d.timelines number)) in omega (arith, same)
  next-rises (request.Buffer now) = omega arith
  next-rises (request.Export buffer flags) = omega arith
  next-rises (request.Import buffer file flags) = omega arith
  next-rises (request.Test buffer usage) = omega arith

-- a consequence of a result that is Ok
pub on-ok : {X : Type 0} (r : Result X Errno) (P Q : Type 0) → (P → Q) → OnOk r P → OnOk r Q
on-ok (Ok x) P Q f h = f h
on-ok (Err e) P Q f h = tt

-- the files that are woken
is-there : (o : Option FileState) → is_waiting o ≡ true → is_some o ≡ true
is-there None is = is
is-there (Some f) is = refl

the-file : (o : Option FileState) → is_some o ≡ true → (f : FileState) × (o ≡ Some f)
the-file None is = absurd (false≢true is)
the-file (Some f) is = (f, refl)

nobody : (ns : List ℕ) → ((n : ℕ) → Contains ns n → ⊥) → ns ≡ []
nobody [] none = refl
nobody (n ∷ ns) none = absurd (none n (0, omega arith, refl))

-- a request that wakes no file has an empty list
idle : (d e : Objects) (ns : List ℕ) → ((n : ℕ) → d.next ≤ n → d.files n ≡ None) → wakes_some d e ≡ false → AreWoken d e ns → ns ≡ []
idle d e ns given none woken = nobody ns (λ n among.
    let both = (woken.all n).0 among in
    wakes-none d e n given none both.0 both.1)

-- a request that may not wake has woken nobody
quiet : (d : DeviceState) (r : Request) (given : Reply) → ((n : ℕ) → d.next ≤ n → file_at d n ≡ None) → Reports (objects_of d) r given → may_wake d r ≡ false → woken_in given ≡ []
quiet d (request.Open name) given known h still = ap woken_in h
quiet d (request.Fence t point now) given known h still = ap woken_in h
quiet d (request.Inc t m now) given known h still = idle (objects_of d) (risen (objects_of d) t m now) (woken_in given) known still (woken-told (objects_of d) (risen (objects_of d) t m now) given h)
quiet d (request.Merge a b name) given known h still = ap woken_in h
quiet d (request.Status file) given known h still = object-told woken_in (file_at d file) (λ f. answer.Status (status_of f.fences)) given (λ f. refl) h
quiet d (request.IsSignalled file) given known h still = object-told woken_in (file_at d file) (λ f. answer.Signalled (are_signalled f.fences)) given (λ f. refl) h
quiet d (request.Info file) given known h still = info-told woken_in file (file_at d file) given (λ info. refl) h
quiet d (request.Close number now) given known h still = idle (objects_of d) (closed (objects_of d) number now) (woken_in given) known still (woken-told (objects_of d) (closed (objects_of d) number now) given h)
quiet d (request.Buffer now) given known h still = ap woken_in h
quiet d (request.Export buffer flags) given known h still = ap woken_in h
quiet d (request.Import buffer file flags) given known h still = ap woken_in h
quiet d (request.Test buffer usage) given known h still = object-told woken_in ((objects_of d).buffers buffer) (λ b. answer.Signalled (none_waits (timeline_at d) usage b.fences)) given (λ b. refl) h

module _ (d : DeviceState) (history : List Request) (had : HasHistory d history) where
  abbrev w : World
  w = record { objects = objects_of d; put = (world_of history).put }

  sound : IsSound w
  sound = subst (λ (o : Objects). IsSound (record { objects = o; put = (world_of history).put })) (sym had.is) (IsSound-history history had.accepted)

  module _ (r : Request) (given : Reply) (reports : Reports (objects_of d) r given) where
    woken : AreWoken (objects_of d) (after (objects_of d) r) (woken_in given)
    woken = wakes-after w r given sound reports

    open-before : (n : ℕ) → Contains (woken_in given) n → is_some (file_at d n) ≡ true
    open-before n among = is-there (file_at d n) ((woken.all n).0 among).0

    given-before : AreGiven d.next (woken_in given)
    given-before = All-weaker (Contains (woken_in given)) (λ n. n < d.next) (λ n among.
        let f = the-file (file_at d n) (open-before n among) in
        file_given w sound n f.0 f.1) (woken_in given) (All-contains_itself (woken_in given))

    fits : (spare : ℕ) → (may_wake d r ≡ true → length d.files ≤ spare) → length (woken_in given) ≤ spare
    fits spare room = elim (cases_Bool (may_wake d r)) [
      | inl may ↦ let all = few d.files (woken_in given) woken.rising open-before in omega (arith, all, room may)
      | inr still ↦ let none = ap length (quiet d r given sound.files reports still) in omega (arith, none)
    ]

  -- there is room for the files that a request wakes
  pub woken-fits : (r : Request) (given : Result Reply Errno) (spare : ℕ) → IsAnswer (objects_of d) r given → (may_wake d r ≡ true → length d.files ≤ spare) → length (woken_of given) ≤ spare
  woken-fits r (Ok given) spare answered room = fits r given answered.1 spare room
  woken-fits r (Err refusal) spare answered room = omega arith

  -- the queue then has only given numbers
  pub given-after : (r : Request) (given : Result Reply Errno) (e : DeviceState) (queue : List ℕ) → IsAnswer (objects_of d) r given → OnOk given (objects_of e ≡ after (objects_of d) r) → OnErr given (e ≡ d)
      → AreGiven d.next queue → AreGiven e.next (queue ++ woken_of given)
  given-after r (Ok given) e queue answered done unchanged waits =
      let rises : d.next ≤ e.next = subst (λ (o : Objects). d.next ≤ o.next) (sym done) (next-rises (objects_of d) r) in
      All-weaker (λ n. n < d.next) (λ n. n < e.next) (λ n low. omega (arith, low, rises)) (queue ++ woken_in given)
      (All-append (λ n. n < d.next) queue (woken_in given) waits (given-before r given answered.1))
  given-after r (Err refusal) e queue answered done unchanged waits =
      All-append (λ n. n < e.next) queue [] (subst (λ (x : DeviceState). AreGiven x.next queue) (sym unchanged) waits) (λ k d low. absurd (omega (arith, low)))
