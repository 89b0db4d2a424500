-- Requests that need memory to report the files that they wake.
use Rattle.std.proofs.Common.{◌≡◌, ℕ, ◌+◌, ◌^◌, ◌<◌, ◌≤◌, zero, suc, inl, inr, Bool, true, false, not, ◌&&◌, ◌||◌, cond, refl, sym, ap, ◌∙◌, subst, Option, None, Some, is_some, option_map, arith}
use Rattle.std.specs.List.{list_any, range_with_len}
use Rattle.std.proofs.lemmas.Bool.{and_from, cases_eq, cases_lt, false≢true, lt-leb}
use Rattle.point_core.specs.Reach.{GREATEST}
use Rattle.device_core.specs.declared.fence.Signal.{Signal}
use Rattle.device_core.specs.declared.fence.Timeline.{Timeline}
use Rattle.device_core.specs.declared.request.Request.TheVariants as request
use Rattle.device_core.specs.theorem.Fences.{signal_at}
use Rattle.device_core.specs.declared.errno.Errno.{Errno}
use Rattle.device_core.specs.theorem.Buffers.{BufferState}
use Rattle.device_core.specs.declared.errno.Errno.TheVariants.{NoEntry, NoMemory, Overflow}
use Rattle.device_core.specs.theorem.State.{FileState, Objects, file_signalled, missing_timeline, raised}
use Rattle.device_core.specs.Woken.{WakesSome, file_wakes}
use Rattle.device_core.specs.theorem.Request.{IsCause, cause_of, closed_timeline, dropped, has_signalled, is_waiting, overflow, takes_memory, value_in, wakes_some, with_at, with_signals}
use Rattle.device_core.proofs.Answering.{wakes-is}
use Rattle.device_core.proofs.Memory.{at_or_past, or_left, or_right}
use Rattle.device_core.proofs.Sound.{with_at-same, with_at-other}

-- some number of a range passes a test, or none does
any-range : (p : ℕ → Bool) (a n q : ℕ) → a ≤ q → q < a + n → p q ≡ true → list_any p (range_with_len a n) ≡ true
any-range p a zero q low high passes = absurd (omega arith)
any-range p a (suc n) q low high passes = elim (at_or_past a q low) [
  | inl is ↦ or_left (p a) (list_any p (range_with_len (a + 1) n)) (ap p (sym is) ∙ passes)
  | inr past ↦ or_right (p a) (list_any p (range_with_len (a + 1) n)) (any-range p (a + 1) n q past (omega arith) passes)
]

none-range : (p : ℕ → Bool) (a n : ℕ) → ((q : ℕ) → p q ≡ false) → list_any p (range_with_len a n) ≡ false
none-range p a zero none = refl
none-range p a (suc n) none = ap (λ b. b || list_any p (range_with_len (a + 1) n)) (none a) ∙ none-range p (a + 1) n none

-- a file that waits has a given number
waits-given : (d : Objects) (n : ℕ) → ((m : ℕ) → d.next ≤ m → d.files m ≡ None) → is_waiting (d.files n) ≡ true → n < d.next
waits-given d n given waits = elim (cases_lt n d.next) [
  | inl low ↦ low
  | inr past ↦ absurd (false≢true (sym (ap is_waiting (given n past)) ∙ waits))
]

both-true : (d e : Objects) (n : ℕ) → ((m : ℕ) → d.next ≤ m → d.files m ≡ None) → is_waiting (d.files n) ≡ true → has_signalled (e.files n) ≡ true → wakes_some d e ≡ true
both-true d e n given waits signalled =
    let low = waits-given d n given waits in
    any-range (λ m. is_waiting (d.files m) && has_signalled (e.files m)) 0 d.next n (omega arith) (omega arith) (and_from (is_waiting (d.files n)) (has_signalled (e.files n)) waits signalled)

pub wakes-none : (d e : Objects) (n : ℕ) → ((m : ℕ) → d.next ≤ m → d.files m ≡ None) → wakes_some d e ≡ false → is_waiting (d.files n) ≡ true → has_signalled (e.files n) ≡ true → ⊥
wakes-none d e n given none waits signalled = false≢true (sym none ∙ both-true d e n given waits signalled)

-- a timeline signals
signals-some : (d : Objects) (t v : ℕ) (s : Signal) (new : Option Timeline) → ((m : ℕ) → d.next ≤ m → d.files m ≡ None) → WakesSome t v d.files → wakes_some d (with_signals d t new v s) ≡ true
signals-some d t v s new given some =
    let both = (wakes-is t v s (d.files some.0)).0 some.1 in
    both-true d (with_signals d t new v s) some.0 given both.0 both.1

not-both : (a b c : Bool) → (a ≡ true → b ≡ true → c ≡ true) → c ≡ false → (a && b) ≡ false
not-both false b c h none = refl
not-both true false c h none = refl
not-both true true c h none = absurd (false≢true (sym none ∙ h refl refl))

signals-none : (d : Objects) (t v : ℕ) (s : Signal) (new : Option Timeline) → ((n : ℕ) → file_wakes t v (d.files n) ≡ false) → wakes_some d (with_signals d t new v s) ≡ false
signals-none d t v s new none = none-range (λ m. is_waiting (d.files m) && has_signalled (option_map (file_signalled t v s) (d.files m))) 0 d.next (λ m.
    not-both (is_waiting (d.files m)) (has_signalled (option_map (file_signalled t v s) (d.files m))) (file_wakes t v (d.files m)) (λ waits signalled. (wakes-is t v s (d.files m)).1 (waits, signalled)) (none m))

-- an increment
pub inc-takes : (d : Objects) (t n now : ℕ) (k : Timeline) → d.timelines t ≡ Some k → ((m : ℕ) → d.next ≤ m → d.files m ≡ None) → WakesSome t (k.value + n) d.files → takes_memory d (request.Inc t n now) ≡ true
inc-takes d t n now k is given some =
    subst (λ (o : Option Timeline). wakes_some d (with_signals d t (option_map (λ j. raised j n) o) (value_in o + n) (signal_at now false)) ≡ true) (sym is)
    (signals-some d t (k.value + n) (signal_at now false) (Some (raised k n)) given some)

pub inc-spares : (d : Objects) (t n now : ℕ) (k : Timeline) → d.timelines t ≡ Some k → ((m : ℕ) → file_wakes t (k.value + n) (d.files m) ≡ false) → takes_memory d (request.Inc t n now) ≡ false
inc-spares d t n now k is none =
    subst (λ (o : Option Timeline). wakes_some d (with_signals d t (option_map (λ j. raised j n) o) (value_in o + n) (signal_at now false)) ≡ false) (sym is)
    (signals-none d t (k.value + n) (signal_at now false) (Some (raised k n)) none)

-- a closing
pub close-takes : (d : Objects) (t now : ℕ) → is_some (d.timelines t) ≡ true → ((m : ℕ) → d.next ≤ m → d.files m ≡ None) → WakesSome t GREATEST d.files → takes_memory d (request.Close t now) ≡ true
close-takes d t now is given some =
    subst (λ b. wakes_some d (cond b (closed_timeline d t now) (dropped d t)) ≡ true) (sym is)
    (signals-some d t GREATEST (signal_at now true) None given some)

pub close-spares : (d : Objects) (t now : ℕ) → is_some (d.timelines t) ≡ true → ((m : ℕ) → file_wakes t GREATEST (d.files m) ≡ false) → takes_memory d (request.Close t now) ≡ false
close-spares d t now is none =
    subst (λ b. wakes_some d (cond b (closed_timeline d t now) (dropped d t)) ≡ false) (sym is)
    (signals-none d t GREATEST (signal_at now true) None none)

not-waits-signalled : (o : Option FileState) → (is_waiting o && has_signalled o) ≡ false
not-waits-signalled None = refl
not-waits-signalled (Some f) = apart (has_signalled (Some f))
  where
    apart : (b : Bool) → (not b && b) ≡ false
    apart true = refl
    apart false = refl

and-none : (b : Bool) → (b && false) ≡ false
and-none true = refl
and-none false = refl

-- the closing of a file or a buffer
pub drop-spares : (d : Objects) (number now : ℕ) → is_some (d.timelines number) ≡ false → takes_memory d (request.Close number now) ≡ false
drop-spares d number now not =
    subst (λ b. wakes_some d (cond b (closed_timeline d number now) (dropped d number)) ≡ false) (sym not)
    (none-range (λ m. is_waiting (d.files m) && has_signalled (with_at d.files number None m)) 0 d.next (λ m. elim (cases_eq number m) [
      | inl same ↦ ap (λ o. is_waiting (d.files m) && has_signalled o) (ap (with_at d.files number None) (sym same) ∙ with_at-same d.files number None) ∙ and-none (is_waiting (d.files m))
      | inr apart ↦ ap (λ o. is_waiting (d.files m) && has_signalled o) (with_at-other d.files number None m apart) ∙ not-waits-signalled (d.files m)
    ]))

pub inc-refused : (d : Objects) (t n now : ℕ) (k : Timeline) → d.timelines t ≡ Some k → k.value + n < 2 ^ 64 → ((m : ℕ) → d.next ≤ m → d.files m ≡ None) → WakesSome t (k.value + n) d.files → IsCause (cause_of d (request.Inc t n now)) (takes_memory d (request.Inc t n now)) NoMemory
inc-refused d t n now k is fits given some =
    let cause : cause_of d (request.Inc t n now) ≡ None = subst (λ (o : Option Timeline). cond (is_some o) (overflow (value_in o + n)) (Some (missing_timeline d t)) ≡ None) (sym is) (ap (λ b. cond b (Some Overflow) None) (lt-leb (2 ^ 64) (k.value + n) fits)) in
    subst (λ o. IsCause o (takes_memory d (request.Inc t n now)) NoMemory) (sym cause) (refl, inc-takes d t n now k is given some)

pub close-refused : (d : Objects) (t now : ℕ) → is_some (d.timelines t) ≡ true → ((m : ℕ) → d.next ≤ m → d.files m ≡ None) → WakesSome t GREATEST d.files → IsCause (cause_of d (request.Close t now)) (takes_memory d (request.Close t now)) NoMemory
close-refused d t now there given some =
    let cause : cause_of d (request.Close t now) ≡ None = ap (λ b. cond (b || (is_some (d.files t) || is_some (d.buffers t))) None (Some NoEntry)) there in
    subst (λ o. IsCause o (takes_memory d (request.Close t now)) NoMemory) (sym cause) (refl, close-takes d t now there given some)

pub close-missing : (d : Objects) (n now : ℕ) (e : Errno) → is_some (d.timelines n) ≡ false → d.files n ≡ None → d.buffers n ≡ None → e ≡ NoEntry → IsCause (cause_of d (request.Close n now)) (takes_memory d (request.Close n now)) e
close-missing d n now e timelines files buffers is =
    let cause : cause_of d (request.Close n now) ≡ Some NoEntry =
    ap (λ b. cond (b || (is_some (d.files n) || is_some (d.buffers n))) None (Some NoEntry)) timelines
    ∙ ap (λ (o : Option FileState). cond (is_some o || is_some (d.buffers n)) None (Some NoEntry)) files
    ∙ ap (λ (o : Option BufferState). cond (is_some o) None (Some NoEntry)) buffers in
    subst (λ o. IsCause o (takes_memory d (request.Close n now)) e) (sym cause) is
