-- Clients that have worked their plans off, and the promises of their threads.
use Rattle.std.specs.Prelude.{◌≡◌, ◌≢◌, ◌⊎◌, ℕ, ◌+◌, List, [], ◌∷◌, ◌++◌, length, Some, slice_get, Result, Ok, Err, OnOk, IfErr}
use Rattle.std.specs.Result.{result_and}
use Rattle.std.specs.declared.thread.PromisedHandle.{PromisedHandle}
use Rattle.point_core.specs.declared.refusal.Refusal.{Refusal}
use Rattle.point_core.specs.declared.refusal.Refusal.TheVariants.{Exists, Memory, Torn}
use Rattle.words_core.specs.declared.seat.TheConstants.{PARTS}
use Rattle.words_core.specs.declared.trace.Step.{Step}
use Rattle.words_core.specs.theorem.Driver.{DriverModel}
use Rattle.words_core.specs.theorem.Layout.{claim_word}
use Rattle.words_core.specs.theorem.Seat.{SeatModel, added_to, both_of, raised_to, with_step}
use Rattle.words_core.specs.theorem.Trace.{won, lost}
use Rattle.words_core.specs.theorem.Words.{WordsModel}
use Rattle.resv_core.specs.declared.plan.Act.{Act}
use Rattle.resv_core.specs.declared.plan.Settled.{Settled}
use Rattle.resv_core.specs.Settled.{gathered_values, values_of}
use Rattle.resv_core.specs.Shared.{HasStepped}
use Rattle.clients_core.specs.declared.workers.Ended.{Ended}
use Rattle.clients_core.specs.declared.workers.Loan.{Loan}
use Rattle.clients_core.specs.Acting.{ClientModel, Puts, Exports, HaveActed, HasStopped}
use Rattle.clients_core.specs.Clients.{IsSinglePart, IsGivenBack}

-- the driver that has just claimed a context with a seat
abbrev pub claimed_by : SeatModel → ℕ → DriverModel
claimed_by seat ctx = record { seat = with_step seat (won (claim_word ctx)); ctx = ctx; value = 0 }

-- a seat of one part of these words, which has made no step
abbrev pub IsFreshPart : WordsModel → SeatModel → Type 0
IsFreshPart words seat = IsSinglePart words seat × (seat.trace ≡ [])

-- a client whose driver has just claimed the context of that number, with two seats of one part of these words, which have made
-- no other step
abbrev pub HasClaimed : WordsModel → ℕ → ClientModel → Type 0
HasClaimed words number client =
    IsFreshPart words client.seat
    × ((seat : SeatModel) × IsFreshPart words seat × (client.driver ≡ claimed_by seat number))

-- the client of that number has claimed its context and then made the acts of its plan, in order, each of them accepted
abbrev pub HasWorked : Puts → Exports → WordsModel → ℕ → List Act → ClientModel → Type 0
HasWorked puts exports words number plan after =
    (before : ClientModel) × HasClaimed words number before × HaveActed puts exports [] plan before after

-- each plan was worked off, by the client of its number; `number` is the first client's
abbrev pub HaveWorked : Puts → Exports → WordsModel → ℕ → List (List Act) → List ClientModel → Type 0
HaveWorked puts exports words number [] [] = Unit {0}
HaveWorked puts exports words number [] (c ∷ cs) = ⊥
HaveWorked puts exports words number (plan ∷ plans) [] = ⊥
HaveWorked puts exports words number (plan ∷ plans) (c ∷ cs) =
    HasWorked puts exports words number plan c × HaveWorked puts exports words (number + 1) plans cs

-- all steps of a client: its driver's steps, and its puts and looks
abbrev pub steps_of : ClientModel → List Step
steps_of client = client.driver.seat.trace ++ client.seat.trace

abbrev pub steps_of_all : List ClientModel → List Step
steps_of_all [] = []
steps_of_all (c ∷ cs) = steps_of c ++ steps_of_all cs

-- each plan was worked off, by the client of its number, and the seat has just the steps of these clients
pub record AreWorkedOff (puts : Puts) (exports : Exports) (words : WordsModel) (plans : List (List Act)) (all : SeatModel) : Type 0 where
  pub clients : List ClientModel
  pub worked : HaveWorked puts exports words 1 plans clients
  pub steps : all.trace ≡ steps_of_all clients

-- these are both seats of that client
abbrev pub AreSeatsOf : ClientModel → Ended → Type 0
AreSeatsOf client ended = (ended.driving ≡ client.driver.seat) × (ended.looking ≡ client.seat)

-- the client's only step was to find its context claimed
abbrev pub HasLostClaim : WordsModel → ℕ → Ended → Type 0
HasLostClaim words number ended =
    IsFreshPart words ended.looking
    × ((seat : SeatModel) × IsFreshPart words seat × (ended.driving ≡ with_step seat (lost (claim_word number))))

-- the client of that number has claimed its context, and then was refused memory before its first act, or stopped at an act of its
-- plan
abbrev pub WasStopped : Puts → Exports → WordsModel → ℕ → List Act → ClientModel → Refusal → Type 0
WasStopped puts exports words number plan after refusal =
    (before : ClientModel) × HasClaimed words number before
    × (((refusal ≡ Memory) × (after ≡ before)) ⊎ HasStopped puts exports [] plan before after refusal)

-- why the client of that number was refused: its context was claimed already, or it was stopped
abbrev pub WasRefused : Puts → Exports → WordsModel → ℕ → List Act → Ended → Refusal → Type 0
WasRefused puts exports words number plan ended refusal =
    ((refusal ≡ Exists) × HasLostClaim words number ended)
    ⊎ ((after : ClientModel) × WasStopped puts exports words number plan after refusal × AreSeatsOf after ended)

-- both seats came back, and no other refusal. If the answer is Ok, they are the seats of the client once it had worked its plan off;
-- else they are the seats of a client that was refused so
abbrev pub HasEnded : Puts → Exports → WordsModel → ℕ → List Act → Ended → Type 0
HasEnded puts exports words number plan ended =
    IsGivenBack words ended
    × OnOk ended.answer ((after : ClientModel) × HasWorked puts exports words number plan after × AreSeatsOf after ended)
    × IfErr ended.answer (WasRefused puts exports words number plan ended)

-- a thread that has promised to give seats of these words back
abbrev pub IsWorkerOf : {T : Type 0} → WordsModel → PromisedHandle Ended (Loan T) → Type 0
IsWorkerOf words worker = worker.promise.words.now ≡ words

-- its promise is to work on this table, as the client of the plan at this place
pub record IsWorkerAt {T : Type 0} (table : T) (plans : List (List Act)) (index : ℕ)
    (worker : PromisedHandle Ended (Loan T)) : Type 0 where
  pub table_is : worker.promise.table.now ≡ table
  pub index_is : worker.promise.index ≡ index
  pub plan_is : slice_get plans index ≡ Some worker.promise.plan.now

-- these are the workers of the plans from a place on, in order
abbrev pub AreWorkers : {T : Type 0} → T → List (List Act) → ℕ → List (PromisedHandle Ended (Loan T)) → Type 0
AreWorkers {T} table plans first workers =
    (index : ℕ) (worker : PromisedHandle Ended (Loan T)) →
    slice_get workers index ≡ Some worker → IsWorkerAt table plans (first + index) worker

-- the worker has given this back, as it has promised
abbrev pub HasKept : {T : Type 0} → (T → Puts) → (T → Exports) → PromisedHandle Ended (Loan T) → Ended → Type 0
HasKept puts exports worker ended =
    HasEnded (puts worker.promise.table.now) (exports worker.promise.table.now) worker.promise.words.now
    (worker.promise.index + 1) worker.promise.plan.now ended

-- each worker has given back one of these
abbrev pub HaveKept : {T : Type 0} → (T → Puts) → (T → Exports) → List (PromisedHandle Ended (Loan T)) → List Ended → Type 0
HaveKept puts exports [] [] = Unit {0}
HaveKept puts exports [] (e ∷ es) = ⊥
HaveKept puts exports (w ∷ ws) [] = ⊥
HaveKept puts exports (w ∷ ws) (e ∷ es) = HasKept puts exports w e × HaveKept puts exports ws es

-- the refusal of the first client that was refused, if one was
abbrev pub answer_of : List Ended → Result (Unit {0}) Refusal
answer_of [] = Ok tt
answer_of (e ∷ es) = result_and e.answer (answer_of es)

-- a seat that has taken both seats of each in
abbrev pub joined_of : SeatModel → List Ended → SeatModel
joined_of seat [] = seat
joined_of seat (e ∷ es) = joined_of (both_of (both_of seat e.driving) e.looking) es

-- all workers were joined, in order: the seat has taken in their seats, and the answer is the first refusal
pub record HaveJoined {T : Type 0} (puts : T → Puts) (exports : T → Exports) (workers : List (PromisedHandle Ended (Loan T)))
    (before after : SeatModel) (answer : Result (Unit {0}) Refusal) : Type 0 where
  pub endings : List Ended
  pub kept : HaveKept puts exports workers endings
  pub seat : after ≡ joined_of before endings
  pub first : answer ≡ answer_of endings

-- the clients of the first of these plans have ended so; `number` is the first client's
abbrev pub HaveEnded : Puts → Exports → WordsModel → ℕ → List (List Act) → List Ended → Type 0
HaveEnded puts exports words number plans [] = Unit {0}
HaveEnded puts exports words number [] (e ∷ es) = ⊥
HaveEnded puts exports words number (plan ∷ plans) (e ∷ es) =
    HasEnded puts exports words number plan e × HaveEnded puts exports words (number + 1) plans es

-- clients were started, in the order of the plans; the refusal is the first refused client's, or else memory was refused to start
-- the next client
pub record HasRefused (puts : Puts) (exports : Exports) (words : WordsModel) (plans : List (List Act)) (refusal : Refusal) : Type 0 where
  pub endings : List Ended
  pub ended : HaveEnded puts exports words 1 plans endings
  pub first : (answer_of endings ≡ Err refusal) ⊎ ((answer_of endings ≡ Ok tt) × (refusal ≡ Memory))

-- what a table says of a settlement of plans, by the gathered seat before it, and the result
abbrev pub Settles : Type 1
Settles = SeatModel → List (List Act) → Result Settled Refusal → Type 0

-- the seat has made more steps, which change neither the sums of its additions nor the greatest points of its raises
pub record HasOnlyLooked (before after : SeatModel) : Type 0 where
  pub stepped : HasStepped before after
  pub added : (ctx : ℕ) → added_to after ctx ≡ added_to before ctx
  pub raised : (w : ℕ) → raised_to after w ≡ raised_to before w

-- Why a table is torn, by these plans and a seat with all parts: a timeline's gathered value is not what its plan adds up to, or
-- the table's settlement failed with Torn, once the seat had looked at the values
abbrev pub IsTorn : Settles → List (List Act) → SeatModel → Type 0
IsTorn settles plans all =
    (gathered_values (length plans) all ≢ values_of plans)
    ⊎ ((after : SeatModel) × HasOnlyLooked all after × settles after plans (Err Torn))

-- all plans were worked off on the table, the seat with all parts has just the steps of their clients, and the table is torn
pub record HasTorn (puts : Puts) (exports : Exports) (settles : Settles) (words : WordsModel) (plans : List (List Act)) : Type 0 where
  pub all : SeatModel
  pub own : all.words ≡ words
  pub whole : all.parts ≡ PARTS
  pub worked : AreWorkedOff puts exports words plans all
  pub torn : IsTorn settles plans all

-- Why a run whose plans have no cause of refusal fails. Memory was refused; or on a table made for the plans a client was refused,
-- and of the refused clients the one with the least number was refused so; or all plans were worked off, and the table is torn
abbrev pub HasFailed : {T : Type 0} → (T → Puts) → (T → Exports) → (T → Settles) → (T → WordsModel) →
    ℕ → List (List Act) → Refusal → Type 0
HasFailed {T} puts exports settles made_for buffers plans refusal =
    (refusal ≡ Memory)
    ⊎ ((table : T) × ((made_for table).contexts ≡ length plans) × ((made_for table).buffers ≡ buffers)
    × (HasRefused (puts table) (exports table) (made_for table) plans refusal
    ⊎ ((refusal ≡ Torn) × HasTorn (puts table) (exports table) (settles table) (made_for table) plans)))
