-- The queue that can be taken after a request was answered.
use Rattle.std.proofs.Common.{◌≡◌, ◌∙◌, ℕ, ◌<◌, inl, inr, Bool, true, cond, sym, ap, subst, refl, List, [], ◌∷◌, ◌++◌, filter, is_some, All, Result, Ok, Err, OnOk, OnErr}
use Rattle.std.proofs.lemmas.Bool.{cases_Bool, false≢true}
use Rattle.std.proofs.lemmas.List.{append-nil}
use Rattle.std.proofs.lemmas.List.Elements.{All-filter, All-head, All-tail, All-weaker, filter-append}
use Rattle.device_core.specs.declared.errno.Errno.{Errno}
use Rattle.device_core.specs.declared.request.Request.{Request}
use Rattle.device_core.specs.declared.request.Reply.{Reply}
use Rattle.device_core.specs.theorem.State.{DeviceState, Objects, file_at, objects_of}
use Rattle.device_core.specs.theorem.Request.{after, IsAnswer}
use Rattle.device_core.specs.theorem.History.{HasHistory, history_after}
use Rattle.c_device.specs.Service.{ServiceState, IsStep, AreGiven, open_among, woken_of}
use Rattle.c_device.proofs.Queued.{files-stay}

-- elements that pass one test pass the other, so only the first matters
module _ (p q : ℕ → Bool) where
  pub filter-both : (ns : List ℕ) → All (λ n. p n ≡ true → q n ≡ true) ns → filter p (filter q ns) ≡ filter p ns
  filter-both [] all = refl
  filter-both (n ∷ ns) all =
      let rest = filter-both ns (All-tail (λ n. p n ≡ true → q n ≡ true) n ns all) in
      let both = All-head (λ n. p n ≡ true → q n ≡ true) n ns all in
      elim (cases_Bool (q n)) [
        | inl kept ↦ ap (filter p) (ap (λ b. cond b (n ∷ filter q ns) (filter q ns)) kept) ∙ ap (λ ms. cond (p n) (n ∷ ms) ms) rest
        | inr dropped ↦ elim (cases_Bool (p n)) [
          | inl passes ↦ absurd (false≢true (sym dropped ∙ both passes))
          | inr fails ↦ ap (filter p) (ap (λ b. cond b (n ∷ filter q ns) (filter q ns)) dropped) ∙ rest ∙ sym (ap (λ b. cond b (n ∷ filter p ns) (filter p ns)) fails)
        ]
      ]

-- a queue without closed files
pub open-dropped : (d : DeviceState) (queue left : List ℕ) → left ≡ open_among d queue → open_among d left ≡ open_among d queue
open-dropped d queue left is =
    let test : ℕ → Bool = λ n. is_some (file_at d n) in
    ap (open_among d) is ∙ filter-both test test queue (λ k e low is. is)

pub given-dropped : (d : DeviceState) (queue left : List ℕ) → left ≡ open_among d queue → (next : ℕ) → AreGiven next queue → AreGiven next left
given-dropped d queue left is next given = subst (AreGiven next) (sym is) (All-filter (λ n. is_some (file_at d n)) (λ n. n < next) queue given)

abbrev pub state : DeviceState → List ℕ → ServiceState
state d woken = record { device = d; woken = woken }

module _ (d e : DeviceState) (r : Request) where
  stays : (given : Result Reply Errno) → OnOk given (objects_of e ≡ after (objects_of d) r) → OnErr given (e ≡ d) → (n : ℕ) → n < d.next → is_some (file_at e n) ≡ true → is_some (file_at d n) ≡ true
  stays (Ok answer) done unchanged n low is = files-stay (objects_of d) r n low (sym (ap (λ (o : Objects). is_some (o.files n)) done) ∙ is)
  stays (Err refusal) done unchanged n low is = sym (ap (λ (x : DeviceState). is_some (file_at x n)) unchanged) ∙ is

  -- a queued file that is open now was open before
  pub kept-after : (given : Result Reply Errno) (queue : List ℕ) → OnOk given (objects_of e ≡ after (objects_of d) r) → OnErr given (e ≡ d) → AreGiven d.next queue
      → open_among e (queue ++ woken_of given) ≡ open_among e (open_among d queue ++ woken_of given)
  kept-after given queue done unchanged waits =
      let now : ℕ → Bool = λ n. is_some (file_at e n) in
      let before : ℕ → Bool = λ n. is_some (file_at d n) in
      let both = filter-both now before queue (All-weaker (λ n. n < d.next) (λ n. now n ≡ true → before n ≡ true) (λ n low is. stays given done unchanged n low is) queue waits) in
      filter-append now queue (woken_of given)
      ∙ ap (λ ns. ns ++ filter now (woken_of given)) (sym both)
      ∙ sym (filter-append now (filter before queue) (woken_of given))

  -- a refused request changes nothing
  pub unchanged-after : (given : Result Reply Errno) (queue old : List ℕ) → OnErr given (e ≡ d) → open_among d queue ≡ open_among d old → OnErr given (state e (open_among e (queue ++ woken_of given)) ≡ state d (open_among d old))
  unchanged-after (Ok answer) queue old unchanged kept = tt
  unchanged-after (Err refusal) queue old unchanged kept =
      let woken : open_among e (queue ++ []) ≡ open_among d old = ap (open_among e) (append-nil queue) ∙ ap (λ (x : DeviceState). open_among x queue) unchanged ∙ kept in
      λ i. record { device = unchanged i; woken = woken i }

  -- a request that was served
  pub answered-step : (given : Result Reply Errno) (queue old : List ℕ) → IsAnswer (objects_of d) r given → OnOk given (objects_of e ≡ after (objects_of d) r)
      → ((history : List Request) → HasHistory d history → HasHistory e (history_after history r given)) → OnErr given (e ≡ d) → open_among d queue ≡ open_among d old → AreGiven d.next queue
      → IsStep (state d (open_among d old)) (state e (open_among e (queue ++ woken_of given))) r given
  answered-step given queue old answer done stands unchanged kept waits = record {
    answered = answer;
    stands = stands;
    unchanged = unchanged-after given queue old unchanged kept;
    kept = kept-after given queue done unchanged waits ∙ ap (λ ns. open_among e (ns ++ woken_of given)) kept;
  }

-- a request for which there was no room
pub refused-step : (d : DeviceState) (r : Request) (refusal : Errno) (queue old : List ℕ) → IsAnswer (objects_of d) r (Err refusal) → open_among d queue ≡ open_among d old
    → IsStep (state d (open_among d old)) (state d (open_among d queue)) r (Err refusal)
refused-step d r refusal queue old answer kept =
    let same : state d (open_among d queue) ≡ state d (open_among d old) = λ i. record { device = d; woken = kept i } in
    record {
      answered = answer;
      stands = λ history is. is;
      unchanged = same;
      kept = kept ∙ sym (open-dropped d old (open_among d old) refl) ∙ ap (open_among d) (sym (append-nil (open_among d old)));
    }
