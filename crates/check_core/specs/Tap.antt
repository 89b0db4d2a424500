-- A test of the Test Anything Protocol.
use Rattle.std.specs.Prelude.{ℕ, Bool, true, false, List, ◌++◌, codes, Option}
use Rattle.std.specs.Io.KnownBytes.{Appends}

-- the words with which a test begins, by whether it passes
abbrev pub test_words : Bool → List ℕ
test_words true = codes "ok "
test_words false = codes "not ok "

-- a test was written that passes, or one that does not
abbrev pub TellsTest : Bool → Option (List ℕ) → Option (List ℕ) → Type 0
TellsTest passes old new = (rest : List ℕ) × Appends old new (test_words passes ++ rest)
