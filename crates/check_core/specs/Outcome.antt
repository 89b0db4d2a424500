-- What came of the checks of scripts.
use Rattle.std.specs.Prelude.{◌≡◌, ◌⊎◌, ◌==◌, ◌&&◌, ◌||◌, ℕ, nat_lt, Bool, true, false, IsTrue, not, if◌then◌else◌, List, [], ◌∷◌, length, Option, Some, slice_get}
use Rattle.std.specs.List.{list_any}
use Rattle.std.specs.Io.KnownBytes.{Appends}
use Rattle.point_core.specs.declared.refusal.Refusal.TheVariants.{Limit, Read as ReadFault}
use Rattle.point_core.specs.declared.refusal.LimitKind.TheVariants.{Script}
use Rattle.line_core.specs.Reading.{IsInput}
use Rattle.check_core.specs.Check.{ChecksScript, IsTooLong}
use Rattle.check_core.specs.Tally.{no_counts, totals_text, with_counts}
use Rattle.check_core.specs.declared.form.CheckForm.{CheckForm}
use Rattle.check_core.specs.declared.form.CheckForm.TheVariants.{Lines, Counts, Tap}
use Rattle.check_core.specs.declared.outcome.CheckOutcome.{CheckOutcome}
use Rattle.check_core.specs.declared.outcome.CheckOutcome.TheVariants as outcome
use Rattle.check_core.specs.declared.outcome.Verdict.{Verdict}
use Rattle.check_core.specs.declared.outcome.Verdict.TheVariants.{Passed, Differs, Failed}
use Rattle.check_core.specs.declared.scripts.CheckOptions.{CheckOptions}
use Rattle.check_core.specs.declared.tally.CheckTally.{CheckTally}

abbrev pub is_failed : CheckOutcome → Bool
is_failed (outcome.Checked tally) = false
is_failed (outcome.Failed refusal) = true

-- of a script that was checked to its end: an answer differs, a note is a slip, or nothing is expected, which is not allowed
abbrev pub is_wrong : Bool → CheckOutcome → Bool
is_wrong allows_empty (outcome.Checked tally) = nat_lt 0 tally.differing || nat_lt 0 tally.slips || (tally.checked == 0 && not allows_empty)
is_wrong allows_empty (outcome.Failed refusal) = false

-- it was checked to its end, and is as it should be
abbrev pub is_passed : Bool → CheckOutcome → Bool
is_passed allows_empty o = not (is_failed o) && not (is_wrong allows_empty o)

-- the counts of a script, which are 0 if it was not checked to its end
abbrev pub tally_of : CheckOutcome → CheckTally
tally_of (outcome.Checked tally) = tally
tally_of (outcome.Failed refusal) = no_counts

-- the counts of all of them together
abbrev pub totals_of : List CheckOutcome → CheckTally
totals_of [] = no_counts
totals_of (o ∷ os) = with_counts (tally_of o) (totals_of os)

-- whether a report in that form ends in the counts
abbrev pub has_counts : CheckForm → Bool
has_counts (Lines bold) = true
has_counts Counts = true
has_counts (Tap version) = false

-- the line of counts was written last
abbrev pub EndsInCounts : ℕ → CheckTally → Option (List ℕ) → Type 0
EndsInCounts files tally new = (before : Option (List ℕ)) × Appends before new (totals_text files tally)

abbrev pub is_none : List CheckOutcome → Bool
is_none [] = true
is_none (o ∷ os) = false

-- no script at all is as one that expects nothing
abbrev pub verdict_of : List CheckOutcome → Bool → Verdict
verdict_of outcomes allows_empty =
    if list_any is_failed outcomes then Failed
    else if list_any (is_wrong allows_empty) outcomes || (is_none outcomes && not allows_empty) then Differs
    else Passed

-- What came of a script whose reader had these bytes unread, if that is known: the counts are the counts of these bytes, which
-- were all read; or a read failed; or more bytes were read than a script may have.
abbrev pub IsOutcome : Option (List ℕ) → CheckOutcome → Type 0
IsOutcome unread (outcome.Checked tally) = (script : List ℕ) × IsInput unread script × ChecksScript script tally
IsOutcome unread (outcome.Failed refusal) =
    (refusal ≡ ReadFault) ⊎ ((refusal ≡ Limit Script) × ((left : Option (List ℕ)) × IsTooLong unread left))

-- which bytes a script's reader may have unread when the script is opened
abbrev pub Opens : Type 1
Opens = Option (List ℕ) → Type 0

-- what came of a script: it could not be opened, or this came of its reader
abbrev pub CameOf : Opens → CheckOutcome → Type 0
CameOf opens o =
    (o ≡ outcome.Failed ReadFault) ⊎ ((unread : Option (List ℕ)) × opens unread × IsOutcome unread o)

-- this came of each of these scripts, in order
abbrev pub CameOfEach : {N : Type 0} → (N → Opens) → List N → List CheckOutcome → Type 0
CameOfEach {N} opens names outcomes =
    (index : ℕ) (name : N) (o : CheckOutcome) → slice_get names index ≡ Some name → slice_get outcomes index ≡ Some o
    → CameOf (opens name) o

-- Each of the scripts has its outcome, and this is what came of all of them. A report with counts ends in their counts.
pub record ComesOf {N : Type 0} (opens : N → Opens) (names : List N) (options : CheckOptions) (verdict : Verdict)
    (reported : Option (List ℕ)) : Type 0 where
  pub outcomes : List CheckOutcome
  pub count : length outcomes ≡ length names
  pub each : CameOfEach opens names outcomes
  pub is : verdict ≡ verdict_of outcomes options.allows_empty
  pub counts : IsTrue (has_counts options.form) → EndsInCounts (length names) (totals_of outcomes) reported
