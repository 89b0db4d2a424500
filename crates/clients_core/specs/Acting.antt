-- What a client's acts do, one after another.
use Rattle.std.specs.Prelude.{◌≡◌, ℕ, ◌+◌, ◌⊎◌, if◌then◌else◌, List, [], ◌∷◌, ◌++◌, Some, slice_get, Result, Ok, Err}
use Rattle.point_core.specs.declared.entry.Entry.{Entry}
use Rattle.point_core.specs.declared.entry.Usage.{Usage}
use Rattle.point_core.specs.declared.listing.Listing.{Listing}
use Rattle.point_core.specs.declared.refusal.Refusal.{Refusal}
use Rattle.point_core.specs.declared.refusal.Refusal.TheVariants.{TimedOut, Torn}
use Rattle.point_core.specs.Usage.{usage_number}
use Rattle.words_core.specs.theorem.Driver.{DriverModel}
use Rattle.words_core.specs.theorem.Layout.{value_word}
use Rattle.words_core.specs.theorem.Seat.{SeatModel, with_step}
use Rattle.words_core.specs.theorem.Trace.{add}
use Rattle.resv_core.specs.declared.plan.Act.{Act}
use Rattle.resv_core.specs.declared.plan.Act.TheVariants.{Inc, Put, Look}
use Rattle.resv_core.specs.Resv.{entry_of}
use Rattle.resv_core.specs.Settled.{puts_of}
use Rattle.clients_core.specs.declared.own_puts.OwnPuts.{OwnPuts}
use Rattle.clients_core.specs.Looks.{shows_all}
use Rattle.clients_core.specs.OwnPuts.{AreOwnPuts}

-- a client's driver, and the seat that it puts and looks with
pub record ClientModel : Type 0 where
  pub driver : DriverModel
  pub seat : SeatModel

abbrev pub client_of : DriverModel → SeatModel → ClientModel
client_of driver seat = record { driver = driver; seat = seat }

-- the driver, once it has added n to its context
abbrev pub advanced : DriverModel → ℕ → DriverModel
advanced driver n = record {
  seat = with_step driver.seat (add (value_word driver.ctx) n (driver.value + n));
  ctx = driver.ctx;
  value = driver.value + n;
}

-- of each buffer, what is kept is the latest points that these acts put into it
abbrev pub KnowPuts : ℕ → List OwnPuts → List Act → Type 0
KnowPuts contexts own done =
    (buffer : ℕ) (puts : OwnPuts) → slice_get own buffer ≡ Some puts → AreOwnPuts contexts puts (puts_of buffer done)

-- the answer of a look, given the table's: Torn if the listing doesn't show the client's own puts
abbrev pub judged : ℕ → List Entry → Result Listing Refusal → Result (Unit {0}) Refusal
judged level own (Ok listed) = if shows_all listed level own then Ok tt else Err Torn
judged level own (Err refusal) = Err refusal

-- what a table says of a put into a buffer, by the seat before it and after it, and the answer
abbrev pub Puts : Type 1
Puts = ℕ → Entry → SeatModel → SeatModel → Result (Unit {0}) Refusal → Type 0

-- what a table says of a look at a usage, by the seat before it and after it, and the answer
abbrev pub Exports : Type 1
Exports = ℕ → Usage → SeatModel → SeatModel → Result Listing Refusal → Type 0

-- one act, after these, and its answer
abbrev pub HasActed : Puts → Exports → List Act → Act → ClientModel → ClientModel → Result (Unit {0}) Refusal → Type 0
HasActed puts exports done (Inc n) before after answer =
    (answer ≡ Ok tt) × (after ≡ client_of (advanced before.driver n) before.seat)
HasActed puts exports done (Put buffer point usage) before after answer =
    (after.driver ≡ before.driver) × puts buffer (entry_of point usage) before.seat after.seat answer
HasActed puts exports done (Look buffer usage) before after answer =
    (after.driver ≡ before.driver)
    × ((listed : Result Listing Refusal)
    × exports buffer usage before.seat after.seat listed
    × (answer ≡ judged (usage_number usage) (puts_of buffer done) listed))

-- these acts in order, after others, each of them accepted
abbrev pub HaveActed : Puts → Exports → List Act → List Act → ClientModel → ClientModel → Type 0
HaveActed puts exports done [] before after = after ≡ before
HaveActed puts exports done (act ∷ acts) before after =
    (middle : ClientModel)
    × HasActed puts exports done act before middle (Ok tt)
    × HaveActed puts exports (done ++ act ∷ []) acts middle after

-- some of these acts were accepted, and at the next the gate gave up, or it was refused
pub record HasStopped (puts : Puts) (exports : Exports) (done acts : List Act) (before after : ClientModel)
    (refusal : Refusal) : Type 0 where
  pub accepted : List Act
  pub act : Act
  pub rest : List Act
  pub acts_are : acts ≡ accepted ++ act ∷ rest
  pub middle : ClientModel
  pub acted : HaveActed puts exports done accepted before middle
  pub stopped : ((refusal ≡ TimedOut) × (after ≡ middle))
      ⊎ HasActed puts exports (done ++ accepted) act middle after (Err refusal)
