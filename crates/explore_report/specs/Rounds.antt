-- The number that the words of a note say.
use Rattle.std.specs.Prelude.{ℕ, ◌==◌, nat_le, ◌&&◌, if◌then◌else◌, List, [], ◌∷◌, length, Option, None, Some}
use Rattle.std.specs.Option.{option_and_then}
use Rattle.explore_report.specs.declared.cause.TheConstants.{PLAN_ROUNDS}
use Rattle.explore_report.specs.Filling.{grown}
use Rattle.explore_report.specs.Words.{first_word, words_after}

-- the number whose digits are those of that number and these
abbrev pub number_from : ℕ → List ℕ → Option ℕ
number_from n [] = Some n
number_from n (b ∷ digits) = option_and_then (λ m. number_from m digits) (grown n b)

-- a number from 1 to that one
abbrev pub allowed : ℕ → ℕ → Option ℕ
allowed most n = if nat_le 1 n && nat_le n most then Some n else None

-- the number that the words are, if they are one from 1 to that one
abbrev pub number_said : ℕ → List ℕ → Option ℕ
number_said most words = if length (words_after words) == 0 then option_and_then (allowed most) (number_from 0 (first_word words)) else None

-- the rounds that the words behind `#repeat` say
abbrev pub rounds_said : List ℕ → Option ℕ
rounds_said words = number_said PLAN_ROUNDS words
