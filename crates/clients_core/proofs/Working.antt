-- The workers of plans, and what each has worked off.
use Rattle.std.proofs.Common.{◌≡◌, ◌≢◌, ℕ, zero, suc, ◌+◌, ◌≤◌, All, List, [], ◌∷◌, ◌++◌, length, Some, Result, Ok, Err, OnOk, IfErr, ◌⊎◌, inl, inr, map, refl, sym, ap, ◌∙◌, subst, append_assoc, append-nil, arith}
use Rattle.std.specs.Prelude.{slice_get}
use Rattle.std.specs.List.{range_with_len}
use Rattle.std.specs.Result.{result_and}
use Rattle.std.specs.declared.thread.PromisedHandle.{PromisedHandle}
use Rattle.std.proofs.lemmas.List.Elements.{All-head, All-tail}
use Rattle.std.proofs.lemmas.Option.{none-some, same_Some}
use Rattle.point_core.specs.declared.refusal.Refusal.{Refusal}
use Rattle.point_core.specs.declared.refusal.Refusal.TheVariants.{Memory, Torn}
use Rattle.point_core.specs.Reach.{value_at}
use Rattle.words_core.specs.declared.seat.TheConstants.{PARTS}
use Rattle.words_core.specs.declared.trace.Step.{Step}
use Rattle.words_core.specs.theorem.Seat.{SeatModel, added_to, both_of}
use Rattle.words_core.specs.theorem.Words.{WordsModel}
use Rattle.resv_core.specs.declared.plan.Act.{Act}
use Rattle.resv_core.specs.declared.plan.Settled.{Settled}
use Rattle.resv_core.specs.Settled.{values_of}
use Rattle.clients_core.specs.declared.workers.Ended.{Ended}
use Rattle.clients_core.specs.declared.workers.Loan.{Loan}
use Rattle.clients_core.specs.Acting.{ClientModel, Puts, Exports}
use Rattle.clients_core.specs.Working.{AreSeatsOf, AreWorkedOff, AreWorkers, HasEnded, HasFailed, HasKept, HasOnlyLooked, HasRefused, HasWorked, HaveEnded, HaveJoined, HaveKept, HaveWorked, IsTorn, IsWorkerOf, Settles, answer_of, joined_of, steps_of, steps_of_all}
use Rattle.clients_core.proofs.Adding.{gathered_values-loaded}

-- ---- workers that are joined one after another

and-ok : (r : Result (Unit {0}) Refusal) → result_and r (Ok tt) ≡ r
and-ok (Ok x) = refl
and-ok (Err e) = refl

and-assoc : (a b c : Result (Unit {0}) Refusal) → result_and a (result_and b c) ≡ result_and (result_and a b) c
and-assoc (Ok x) b c = refl
and-assoc (Err e) b c = refl

answer_of-push : (es : List Ended) (e : Ended) → answer_of (es ++ e ∷ []) ≡ result_and (answer_of es) e.answer
answer_of-push [] e = and-ok e.answer
answer_of-push (f ∷ fs) e = ap (result_and f.answer) (answer_of-push fs e) ∙ and-assoc f.answer (answer_of fs) e.answer

joined_of-push : (seat : SeatModel) (es : List Ended) (e : Ended) → joined_of seat (es ++ e ∷ []) ≡ both_of (both_of (joined_of seat es) e.driving) e.looking
joined_of-push seat [] e = refl
joined_of-push seat (f ∷ fs) e = joined_of-push (both_of (both_of seat f.driving) f.looking) fs e

-- of all workers, these are still to be joined; the others have given back what was taken in
pub record AreJoined {T : Type 0} (puts : T → Puts) (exports : T → Exports) (rest whole : List (PromisedHandle Ended (Loan T)))
    (before after : SeatModel) (answer : Result (Unit {0}) Refusal) : Type 0 where
  pub endings : List Ended
  pub kept : (more : List Ended) → HaveKept puts exports rest more → HaveKept puts exports whole (endings ++ more)
  pub seat : after ≡ joined_of before endings
  pub first : answer ≡ answer_of endings

pub AreJoined-none : {T : Type 0} (puts : T → Puts) (exports : T → Exports) (rest whole : List (PromisedHandle Ended (Loan T))) (seat : SeatModel) → rest ≡ whole → AreJoined puts exports rest whole seat seat (Ok tt)
AreJoined-none {T} puts exports rest whole seat same = record {
  endings = [];
  kept = λ more held. subst (λ (workers : List (PromisedHandle Ended (Loan T))). HaveKept puts exports workers more) same held;
  seat = refl;
  first = refl;
}

pub AreJoined-next : {T : Type 0} (puts : T → Puts) (exports : T → Exports) (rest behind whole : List (PromisedHandle Ended (Loan T))) (worker : PromisedHandle Ended (Loan T)) (ended : Ended) (before after after' : SeatModel) (answer answer' : Result (Unit {0}) Refusal) → rest ≡ worker ∷ behind → HasKept puts exports worker ended → after' ≡ both_of (both_of after ended.driving) ended.looking → answer' ≡ result_and answer ended.answer → AreJoined puts exports rest whole before after answer → AreJoined puts exports behind whole before after' answer'
AreJoined-next {T} puts exports rest behind whole worker ended before after after' answer answer' first held taken joined was = record {
  endings = was.endings ++ ended ∷ [];
  kept = λ more later.
      subst (HaveKept puts exports whole) (sym (append_assoc was.endings (ended ∷ []) more))
      (was.kept (ended ∷ more) (subst (λ (workers : List (PromisedHandle Ended (Loan T))). HaveKept puts exports workers (ended ∷ more)) (sym first) (held, later)));
  seat = taken ∙ ap (λ (s : SeatModel). both_of (both_of s ended.driving) ended.looking) was.seat ∙ sym (joined_of-push before was.endings ended);
  first = joined ∙ ap (λ r. result_and r ended.answer) was.first ∙ sym (answer_of-push was.endings ended);
}

pub empty-list : {X : Type 0} (xs : List X) → length xs ≡ 0 → xs ≡ []
empty-list [] none = refl
empty-list (x ∷ xs) none = absurd (omega (arith, none))

pub AreJoined-all : {T : Type 0} (puts : T → Puts) (exports : T → Exports) (rest whole : List (PromisedHandle Ended (Loan T))) (before after : SeatModel) (answer : Result (Unit {0}) Refusal) → rest ≡ [] → AreJoined puts exports rest whole before after answer → HaveJoined puts exports whole before after answer
AreJoined-all {T} puts exports rest whole before after answer none was = record {
  endings = was.endings;
  kept = subst (HaveKept puts exports whole) (append-nil was.endings) (was.kept [] (subst (λ (workers : List (PromisedHandle Ended (Loan T))). HaveKept puts exports workers []) (sym none) tt));
  seat = was.seat;
  first = was.first;
}

-- ---- what the clients of the plans have come to

-- the worker at each place is that of the plan there, the first being of this number
ended-from : {T : Type 0} (puts : T → Puts) (exports : T → Exports) (words : WordsModel) (table : T) (number : ℕ) (plans : List (List Act)) (workers : List (PromisedHandle Ended (Loan T))) (endings : List Ended) → All (IsWorkerOf words) workers → ((index : ℕ) (w : PromisedHandle Ended (Loan T)) → slice_get workers index ≡ Some w → (w.promise.table.now ≡ table) × (w.promise.index ≡ number + index) × (slice_get plans index ≡ Some w.promise.plan.now)) → HaveKept puts exports workers endings → HaveEnded (puts table) (exports table) words (number + 1) plans endings
ended-from puts exports words table number plans [] [] lent are kept = tt
ended-from puts exports words table number plans [] (e ∷ es) lent are kept = absurd kept
ended-from puts exports words table number plans (w ∷ ws) [] lent are kept = absurd kept
ended-from puts exports words table number [] (w ∷ ws) (e ∷ es) lent are kept = absurd (none-some w.promise.plan.now (are zero w refl).2)
ended-from {T} puts exports words table number (p ∷ ps) (w ∷ ws) (e ∷ es) lent are kept =
    let loan = w.promise in
    let here = are zero w refl in
    let place : loan.index ≡ number = omega (arith, here.1) in
    let plan-is : loan.plan.now ≡ p = sym (same_Some p loan.plan.now here.2) in (
      subst (λ (acts : List Act). HasEnded (puts table) (exports table) words (number + 1) acts e) plan-is
          (subst (λ (n : ℕ). HasEnded (puts table) (exports table) words (n + 1) loan.plan.now e) place
          (subst (λ (v : WordsModel). HasEnded (puts table) (exports table) v (loan.index + 1) loan.plan.now e) (All-head (IsWorkerOf words) w ws lent)
          (subst (λ (t : T). HasEnded (puts t) (exports t) loan.words.now (loan.index + 1) loan.plan.now e) here.0 kept.0))),
      ended-from puts exports words table (number + 1) ps ws es (All-tail (IsWorkerOf words) w ws lent)
          (λ index v at. let it = are (suc index) v at in (it.0, omega (arith, it.1), it.2)) kept.1,
    )

-- with what the client of the first plan has come to
HaveEnded-workers : {T : Type 0} (puts : T → Puts) (exports : T → Exports) (words : WordsModel) (table : T) (plans : List (List Act)) (plan : List Act) (own : Ended) (workers : List (PromisedHandle Ended (Loan T))) (endings : List Ended) → slice_get plans 0 ≡ Some plan → HasEnded (puts table) (exports table) words 1 plan own → All (IsWorkerOf words) workers → AreWorkers table plans 1 workers → HaveKept puts exports workers endings → HaveEnded (puts table) (exports table) words 1 plans (own ∷ endings)
HaveEnded-workers puts exports words table [] plan own workers endings at ended lent are kept = absurd (none-some plan at)
HaveEnded-workers puts exports words table (p ∷ ps) plan own workers endings at ended lent are kept = (
  subst (λ (acts : List Act). HasEnded (puts table) (exports table) words 1 acts own) (sym (same_Some p plan at)) ended,
  ended-from puts exports words table 1 ps workers endings lent
      (λ index w at. let it = are index w at in let next : 1 + index ≡ suc index = omega arith in (it.table_is, it.index_is, subst (λ (k : ℕ). slice_get (p ∷ ps) k ≡ Some w.promise.plan.now) next it.plan_is)) kept,
)

length-kept : {T : Type 0} (puts : T → Puts) (exports : T → Exports) (workers : List (PromisedHandle Ended (Loan T))) (endings : List Ended) → HaveKept puts exports workers endings → length endings ≡ length workers
length-kept puts exports [] [] kept = refl
length-kept puts exports [] (e ∷ es) kept = absurd kept
length-kept puts exports (w ∷ ws) [] kept = absurd kept
length-kept puts exports (w ∷ ws) (e ∷ es) kept = ap suc (length-kept puts exports ws es kept.1)

abbrev steps_of_endings : List Ended → List Step
steps_of_endings [] = []
steps_of_endings (e ∷ es) = (e.driving.trace ++ e.looking.trace) ++ steps_of_endings es

joined-trace : (seat : SeatModel) (es : List Ended) → (joined_of seat es).trace ≡ seat.trace ++ steps_of_endings es
joined-trace seat [] = sym (append-nil seat.trace)
joined-trace seat (e ∷ es) =
    let rest = steps_of_endings es in
    let driving = e.driving.trace in
    let looking = e.looking.trace in
    joined-trace (both_of (both_of seat e.driving) e.looking) es
    ∙ append_assoc (seat.trace ++ driving) looking rest
    ∙ append_assoc seat.trace driving (looking ++ rest)
    ∙ ap (λ steps. seat.trace ++ steps) (sym (append_assoc driving looking rest))

err-ok : (r : Result (Unit {0}) Refusal) (e : Refusal) → r ≡ Err e → r ≡ Ok tt → ⊥
err-ok r e refused ok = subst (λ (s : Result (Unit {0}) Refusal). OnOk s ⊥) (sym refused ∙ ok) tt

both-ok : (a b : Result (Unit {0}) Refusal) → result_and a b ≡ Ok tt → (a ≡ Ok tt) × (b ≡ Ok tt)
both-ok (Ok x) b is = (refl, is)
both-ok (Err e) b is = absurd (err-ok (Err e) e refl is)

record Worked (puts : Puts) (exports : Exports) (words : WordsModel) (number : ℕ) (plans : List (List Act)) (endings : List Ended) : Type 0 where
  clients : List ClientModel
  worked : HaveWorked puts exports words number plans clients
  steps : steps_of_endings endings ≡ steps_of_all clients

worked-from : (puts : Puts) (exports : Exports) (words : WordsModel) (number : ℕ) (plans : List (List Act)) (endings : List Ended) → HaveEnded puts exports words number plans endings → answer_of endings ≡ Ok tt → length endings ≡ length plans → Worked puts exports words number plans endings
worked-from puts exports words number [] [] ended ok even = record { clients = []; worked = tt; steps = refl }
worked-from puts exports words number (p ∷ ps) [] ended ok even = absurd (omega (arith, even))
worked-from puts exports words number [] (e ∷ es) ended ok even = absurd ended
worked-from puts exports words number (p ∷ ps) (e ∷ es) ended ok even =
    let both = both-ok e.answer (answer_of es) ok in
    let here = subst (λ (r : Result (Unit {0}) Refusal). OnOk r ((after : ClientModel) × HasWorked puts exports words number p after × AreSeatsOf after e)) both.0 ended.0.1 in
    let rest = worked-from puts exports words (number + 1) ps es ended.1 both.1 (omega (arith, even)) in
    let after = here.0 in
    record {
      clients = after ∷ rest.clients;
      worked = (here.1, rest.worked);
      steps =
          ap (λ (s : SeatModel). (s.trace ++ e.looking.trace) ++ steps_of_endings es) here.2.0
          ∙ ap (λ (s : SeatModel). (after.driver.seat.trace ++ s.trace) ++ steps_of_endings es) here.2.1
          ∙ ap (λ steps. steps_of after ++ steps) rest.steps;
    }

-- ---- what comes of all of them

-- the first `count` clients have ended, in the order of the plans, and their seats are joined
pub record HaveAllEnded (puts : Puts) (exports : Exports) (words : WordsModel) (plans : List (List Act)) (count : ℕ)
    (before after : SeatModel) (answer : Result (Unit {0}) Refusal) : Type 0 where
  pub endings : List Ended
  pub ended : HaveEnded puts exports words 1 plans endings
  pub all : length endings ≡ count
  pub seat : after ≡ joined_of before endings
  pub first : answer ≡ answer_of endings

-- the first plan's client, and the workers of the others
pub HaveAllEnded-joined : {T : Type 0} (puts : T → Puts) (exports : T → Exports) (words : WordsModel) (table : T) (plans : List (List Act)) (plan : List Act) (own : Ended) (workers : List (PromisedHandle Ended (Loan T))) (before middle after : SeatModel) (first others answer : Result (Unit {0}) Refusal) → slice_get plans 0 ≡ Some plan → HasEnded (puts table) (exports table) words 1 plan own → middle ≡ both_of (both_of before own.driving) own.looking → first ≡ own.answer → All (IsWorkerOf words) workers → AreWorkers table plans 1 workers → HaveJoined puts exports workers middle after others → answer ≡ result_and first others
    → HaveAllEnded (puts table) (exports table) words plans (length workers + 1) before after answer
HaveAllEnded-joined puts exports words table plans plan own workers before middle after first others answer at ended taken told lent are joined both =
    let kept = length-kept puts exports workers joined.endings joined.kept in
    record {
      endings = own ∷ joined.endings;
      ended = HaveEnded-workers puts exports words table plans plan own workers joined.endings at ended lent are joined.kept;
      all = omega (arith, kept);
      seat = joined.seat ∙ ap (λ (s : SeatModel). joined_of s joined.endings) taken;
      first = both ∙ ap (λ r. result_and r others) told ∙ ap (result_and own.answer) joined.first;
    }

-- all were started, and none was refused
pub AreWorkedOff-ended : (puts : Puts) (exports : Exports) (words : WordsModel) (plans : List (List Act)) (count : ℕ) (before after : SeatModel) (ended started : Result (Unit {0}) Refusal) → before.trace ≡ [] → OnOk started (count ≡ length plans) → HaveAllEnded puts exports words plans count before after ended → result_and ended started ≡ Ok tt → AreWorkedOff puts exports words plans after
AreWorkedOff-ended puts exports words plans count before after ended started fresh begun all ok =
    let both = both-ok ended started ok in
    let whole : count ≡ length plans = subst (λ (r : Result (Unit {0}) Refusal). OnOk r (count ≡ length plans)) both.1 begun in
    let worked = worked-from puts exports words 1 plans all.endings all.ended (sym all.first ∙ both.0) (all.all ∙ whole) in
    record {
      clients = worked.clients;
      worked = worked.worked;
      steps = ap (λ (s : SeatModel). s.trace) all.seat ∙ joined-trace before all.endings ∙ ap (λ steps. steps ++ steps_of_endings all.endings) fresh ∙ worked.steps;
    }

first-refusal : (ended started : Result (Unit {0}) Refusal) (endings : List Ended) (e : Refusal) → ended ≡ answer_of endings → IfErr started (λ f. f ≡ Memory) → result_and ended started ≡ Err e → (answer_of endings ≡ Err e) ⊎ ((answer_of endings ≡ Ok tt) × (e ≡ Memory))
first-refusal (Err f) started endings e first memory is = inl (sym first ∙ is)
first-refusal (Ok x) (Err f) endings e first memory is = inr (sym first, subst (λ (r : Result (Unit {0}) Refusal). IfErr r (λ f. f ≡ Memory)) is memory)
first-refusal (Ok x) (Ok y) endings e first memory is = absurd (err-ok (Ok y) e is refl)

-- one of them was refused, or a worker could not be started
pub HasRefused-ended : (puts : Puts) (exports : Exports) (words : WordsModel) (plans : List (List Act)) (count : ℕ) (before after : SeatModel) (ended started : Result (Unit {0}) Refusal) (e : Refusal) → IfErr started (λ f. f ≡ Memory) → HaveAllEnded puts exports words plans count before after ended → result_and ended started ≡ Err e → HasRefused puts exports words plans e
HasRefused-ended puts exports words plans count before after ended started e memory all is = record {
  endings = all.endings;
  ended = all.ended;
  first = first-refusal ended started all.endings e all.first memory is;
}

-- ---- a table that is torn

-- a gathered value is not what its plan adds up to
pub IsTorn-values : (settles : Settles) (plans : List (List Act)) (all : SeatModel) (reach : List ℕ) (contexts : ℕ) → length plans ≡ contexts → ((ctx : ℕ) → 1 ≤ ctx → ctx ≤ contexts → value_at reach ctx ≡ added_to all ctx)
    → map (value_at reach) (range_with_len 1 (length plans)) ≢ values_of plans → IsTorn settles plans all
IsTorn-values settles plans all reach contexts even loaded other =
    inl (λ same. other (sym (gathered_values-loaded reach all all (length plans) (λ ctx. refl) (λ ctx low high. loaded ctx low (omega (arith, even)))) ∙ same))

-- the table refused to settle, if it did
pub IsTorn-refused : (settles : Settles) (plans : List (List Act)) (all after : SeatModel) (r : Result Settled Refusal) → HasOnlyLooked all after → settles after plans r → IfErr r (λ e. e ≡ Torn → IsTorn settles plans all)
IsTorn-refused settles plans all after (Ok s) looked settled = tt
IsTorn-refused settles plans all after (Err e) looked settled = λ is. inr (after, looked, subst (λ (f : Refusal). settles after plans (Err f)) is settled)

-- the failures of a run whose clients were started
module _ {T : Type 0} (puts : T → Puts) (exports : T → Exports) (settles : T → Settles) (made_for : T → WordsModel) (plans : List (List Act)) (table : T) (words : WordsModel) (own : made_for table ≡ words) (contexts : words.contexts ≡ length plans) where
  contexts-made : (made_for table).contexts ≡ length plans
  contexts-made = ap (λ (w : WordsModel). w.contexts) own ∙ contexts

  buffers-made : (made_for table).buffers ≡ words.buffers
  buffers-made = ap (λ (w : WordsModel). w.buffers) own

  pub HasFailed-refused : {buffers : ℕ} {e : Refusal} → words.buffers ≡ buffers → HasRefused (puts table) (exports table) words plans e
      → HasFailed puts exports settles made_for buffers plans e
  HasFailed-refused {buffers} {e} at refused =
      inr (table, contexts-made, buffers-made ∙ at, inl (subst (λ (w : WordsModel). HasRefused (puts table) (exports table) w plans e) (sym own) refused))

  pub HasFailed-unsettled : {buffers : ℕ} {e : Refusal} → words.buffers ≡ buffers → (all : SeatModel) → all.words ≡ words → all.parts ≡ PARTS → AreWorkedOff (puts table) (exports table) words plans all
      → (e ≡ Torn → IsTorn (settles table) plans all) → (e ≡ Torn) ⊎ (e ≡ Memory) → HasFailed puts exports settles made_for buffers plans e
  HasFailed-unsettled {buffers} {e} at all same whole worked why cause = elim cause [
    | inl torn ↦ inr (
      table,
      contexts-made,
      buffers-made ∙ at,
      inr (
        torn,
        record {
          all = all;
          own = same ∙ sym own;
          whole = whole;
          worked = subst (λ (w : WordsModel). AreWorkedOff (puts table) (exports table) w plans all) (sym own) worked;
          torn = why torn;
        },
      ),
    )
    | inr memory ↦ inl memory
  ]
