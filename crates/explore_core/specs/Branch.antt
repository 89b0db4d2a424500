-- What contracts see of a branch.
use Rattle.std.specs.Prelude.{ℕ, List}

-- the first line of an answer, with its line feed, and where a client continues after any other answer
pub record Branching : Type 0 where
  pub text : List ℕ
  pub otherwise : ℕ
