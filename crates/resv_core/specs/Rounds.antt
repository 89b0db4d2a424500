-- Rounds of acts, numbered from 1. Every round has the same acts, but for the points that are put.
use Rattle.std.specs.Prelude.{ℕ, ◌*◌, ◌^◌, ◌<◌, ◌≤◌, ◌⊎◌, ◌&&◌, nat_lt, Bool, true, IsTrue, List, length, map, All}
use Rattle.std.specs.List.{flat_map, list_all, range_with_len}
use Rattle.point_core.specs.Agreement.{point_of}
use Rattle.resv_core.specs.declared.plan.Act.{Act}
use Rattle.resv_core.specs.declared.plan.Act.TheVariants.{Inc, Put, Look}
use Rattle.resv_core.specs.declared.plan.Round.{Round}

-- the act in round `number`: a point that it puts is multiplied by the number
abbrev pub in_round : ℕ → Act → Act
in_round number (Inc n) = Inc n
in_round number (Put into point usage) = Put into (point_of point.ctx (point.value * number)) usage
in_round number (Look into usage) = Look into usage

-- the acts of round `number`
abbrev pub round_of : List Act → ℕ → List Act
round_of acts number = map (in_round number) acts

-- the acts of this number of rounds
abbrev pub rounds_of : List Act → ℕ → List Act
rounds_of acts times = flat_map (round_of acts) (range_with_len 1 times)

-- all acts of a round that is repeated
abbrev pub acts_of : Round → List Act
acts_of round = rounds_of round.acts.now round.times

-- the point that the act puts in that round is at most the greatest u64, as a test
abbrev pub is_in_range : ℕ → Act → Bool
is_in_range number (Inc n) = true
is_in_range number (Put into point usage) = nat_lt (point.value * number) (2 ^ 64)
is_in_range number (Look into usage) = true

-- the acts can be made in this number of rounds: each point, and the number of all acts, is at most the greatest u64
abbrev pub is_repeatable : List Act → ℕ → Bool
is_repeatable acts times = nat_lt (length acts * times) (2 ^ 64) && list_all (is_in_range times) acts

-- the act can be made in that round; every act can in the first
abbrev pub IsInRange : ℕ → Act → Type 0
IsInRange number act = (number ≤ 1) ⊎ IsTrue (is_in_range number act)

-- the acts can be made in this number of rounds, and what follows
pub record IsRepeatable (acts : List Act) (times : ℕ) : Type 0 where
  pub points : All (IsInRange times) acts
  pub count : length acts * times < 2 ^ 64
