-- How much of some bytes was written, or is still pending.
use Rattle.std.specs.Prelude.{◌≡◌, ℕ, List, ◌++◌, Option}
use Rattle.std.specs.Io.KnownBytes.{Appends}

-- a prefix of the bytes was written
pub record AppendsFront (old new : Option (List ℕ)) (bytes : List ℕ) : Type 0 where
  pub front : List ℕ
  pub rest : List ℕ
  pub whole : bytes ≡ front ++ rest
  pub appended : Appends old new front

-- the bytes were appended to the pending ones: a prefix of all of them was written, and the rest is pending
pub record PassesOn (waiting left bytes : List ℕ) (old new : Option (List ℕ)) : Type 0 where
  pub written : List ℕ
  pub whole : waiting ++ bytes ≡ written ++ left
  pub appended : Appends old new written
