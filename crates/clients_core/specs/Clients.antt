-- Seats, plans and refusals of clients on threads.
use Rattle.std.specs.Prelude.{◌≡◌, ◌⊎◌, ◌^◌, ◌<◌, ◌≤◌, List, length, All, IfErr}
use Rattle.point_core.specs.declared.context.TheConstants.{CONTEXTS}
use Rattle.point_core.specs.declared.refusal.Refusal.{Refusal}
use Rattle.point_core.specs.declared.refusal.Refusal.TheVariants.{Exists, TimedOut, Torn, Memory}
use Rattle.words_core.specs.theorem.Driver.{DriverModel}
use Rattle.words_core.specs.theorem.Seat.{SeatModel}
use Rattle.words_core.specs.theorem.Words.{WordsModel}
use Rattle.resv_core.specs.declared.plan.Act.{Act}
use Rattle.resv_core.specs.Settled.{IsWithin, increments_of}
use Rattle.clients_core.specs.declared.workers.Ended.{Ended}

-- a client's acts fail only with one of these
abbrev pub IsClientRefusal : Refusal → Type 0
IsClientRefusal e = (e ≡ Exists) ⊎ ((e ≡ TimedOut) ⊎ ((e ≡ Torn) ⊎ (e ≡ Memory)))

-- it is a seat of one part of these words
abbrev pub IsSinglePart : WordsModel → SeatModel → Type 0
IsSinglePart words seat = (seat.words ≡ words) × (seat.parts ≡ 1)

-- its seat is one of a single part of these words
abbrev pub IsDriving : WordsModel → DriverModel → Type 0
IsDriving words driver = IsSinglePart words driver.seat

-- a plan that a client of these words can act by
abbrev pub IsPlan : WordsModel → List Act → Type 0
IsPlan words acts = All (IsWithin words.contexts words.buffers) acts × (increments_of acts < 2 ^ 64)

-- both seats came back, and a refusal is one of a client's
abbrev pub IsGivenBack : WordsModel → Ended → Type 0
IsGivenBack words ended = IsSinglePart words ended.driving × IsSinglePart words ended.looking × IfErr ended.answer IsClientRefusal

-- there is one for each timeline of these words
abbrev pub ArePlans : WordsModel → List (List Act) → Type 0
ArePlans words plans = (length plans ≡ words.contexts) × (words.contexts ≤ CONTEXTS) × All (IsPlan words) plans
