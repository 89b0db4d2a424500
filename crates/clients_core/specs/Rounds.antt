-- What clients do in rounds: all of them write to one buffer, and each reads from the other what the next one makes.
use Rattle.std.specs.Prelude.{ℕ, ◌+◌, ◌*◌, ◌==◌, if◌then◌else◌, List, [], ◌∷◌, map, replicate}
use Rattle.std.specs.List.{flat_map, range_with_len}
use Rattle.point_core.specs.declared.entry.Usage.{Usage}
use Rattle.point_core.specs.declared.entry.Usage.TheVariants.{Write, Read, Bookkeep}
use Rattle.point_core.specs.declared.listing.TopRow.{TopRow}
use Rattle.point_core.specs.Agreement.{point_of}
use Rattle.resv_core.specs.declared.plan.Act.{Act}
use Rattle.resv_core.specs.declared.plan.Act.TheVariants.{Inc, Put, Look}
use Rattle.resv_core.specs.declared.plan.Settled.{Settled}
use Rattle.resv_core.specs.Rounds.{rounds_of}

-- the client that comes next; the first comes next to the last
abbrev pub next_client : ℕ → ℕ → ℕ
next_client clients client = if client == clients then 1 else client + 1

-- a round: a fence of the client's own timeline, one step of that timeline, a fence of the next client's, and a look
abbrev pub client_round : ℕ → ℕ → List Act
client_round client next =
    Put 0 (point_of client 2) Write
    ∷ Inc 1
    ∷ Put 1 (point_of next 3) Read
    ∷ Look 0 Read
    ∷ []

-- what a client does in all rounds
abbrev pub client_rounds : ℕ → ℕ → ℕ → List Act
client_rounds clients rounds client = rounds_of (client_round client (next_client clients client)) rounds

-- a plan for each client, numbered from 1
abbrev pub plans_of_rounds : ℕ → ℕ → List (List Act)
plans_of_rounds clients rounds = map (client_rounds clients rounds) (range_with_len 1 clients)

-- a row of the same point for each client's timeline, at a usage
abbrev pub rows_of_clients : ℕ → ℕ → Usage → List TopRow
rows_of_clients clients point usage =
    map (λ client. record { usage = usage; ctx = client; point = point }) (range_with_len 1 clients)

-- the settled state after all rounds: each timeline is at the number of rounds, and the points of the last round are pending
abbrev pub settled_of_rounds : ℕ → ℕ → Settled
settled_of_rounds clients rounds = record {
  values = replicate clients rounds;
  tables =
      flat_map (rows_of_clients clients (2 * rounds)) (Write ∷ Read ∷ Bookkeep ∷ [])
      ∷ flat_map (rows_of_clients clients (3 * rounds)) (Read ∷ Bookkeep ∷ [])
      ∷ [];
}
