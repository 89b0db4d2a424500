-- How many answers of a script were as expected.
use Rattle.std.specs.Prelude.{◌≡◌, ℕ, ◌+◌, ◌-◌, ◌^◌, ◌<◌, ◌≤◌, min, ◌==◌, Bool, if◌then◌else◌, List, [], ◌++◌, codes, decimal}
use Rattle.check_core.specs.declared.tally.CheckTally.{CheckTally}

-- what a line adds to a count
abbrev pub one_if : Bool → ℕ
one_if counted = if counted then 1 else 0

pub record IsEmpty (tally : CheckTally) : Type 0 where
  pub lines : tally.lines ≡ 0
  pub checked : tally.checked ≡ 0
  pub differing : tally.differing ≡ 0
  pub slips : tally.slips ≡ 0

-- one more finding can be counted
pub record HasRoom (tally : CheckTally) : Type 0 where
  pub checked : tally.checked + 1 < 2 ^ 64
  pub differing : tally.differing + 1 < 2 ^ 64

-- each count is below that number
pub record IsBelow (tally : CheckTally) (number : ℕ) : Type 0 where
  pub lines : tally.lines < number
  pub checked : tally.checked < number
  pub differing : tally.differing < number

-- at most one finding more is counted
pub record CountsOne (tally tally' : CheckTally) : Type 0 where
  pub lines : tally'.lines ≡ tally.lines
  pub checked : tally'.checked ≤ tally.checked + 1
  pub differing : tally'.differing ≤ tally.differing + 1

abbrev pub no_counts : CheckTally
no_counts = record { lines = 0; checked = 0; differing = 0; slips = 0 }

-- a sum that stays at the greatest number
abbrev pub sum_of : ℕ → ℕ → ℕ
sum_of a b = min (a + b) (2 ^ 64 - 1)

-- the counts of both together
abbrev pub with_counts : CheckTally → CheckTally → CheckTally
with_counts t u = record {
  lines = sum_of t.lines u.lines;
  checked = sum_of t.checked u.checked;
  differing = sum_of t.differing u.differing;
  slips = sum_of t.slips u.slips;
}

-- what is counted, and a count
abbrev pub count_text : List ℕ → ℕ → List ℕ
count_text words count = words ++ decimal count

-- slips are counted only if there are any
abbrev pub slips_text : ℕ → List ℕ
slips_text slips = if slips == 0 then [] else count_text (codes ", slips: ") slips

-- the line of counts
abbrev pub totals_text : ℕ → CheckTally → List ℕ
totals_text files tally =
    count_text (codes "files: ") files
    ++ count_text (codes ", answers: ") tally.lines
    ++ count_text (codes ", expectations: ") tally.checked
    ++ count_text (codes ", differences: ") tally.differing
    ++ slips_text tally.slips
    ++ codes "\n"
