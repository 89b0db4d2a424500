-- A script that passes its check, and what an update of several files reports.
use Rattle.std.specs.Prelude.{◌≡◌, ◌≢◌, ◌⊎◌, ℕ, ◌+◌, ◌<◌, Bool, true, false, if◌then◌else◌, List, [], ◌∷◌, ◌++◌, length, codes, decimal, All, Option}
use Rattle.std.specs.List.{list_any}
use Rattle.std.specs.Io.KnownBytes.{Appends}
use Rattle.point_core.specs.Refusal.{refusal_number, refusal_name}
use Rattle.point_core.specs.declared.refusal.Refusal.{Refusal}
use Rattle.point_core.specs.declared.refusal.Refusal.TheVariants.{Read as ReadFault}
use Rattle.line_core.specs.declared.script.TheConstants.{SCRIPT_BYTES}
use Rattle.check_core.specs.Asked.{asked, asked_by_update}
use Rattle.check_core.specs.Check.{AnswersAsExpected, ChecksScript}
use Rattle.check_core.specs.Kept.{kept}
use Rattle.check_core.specs.declared.outcome.Verdict.{Verdict}
use Rattle.check_core.specs.declared.outcome.Verdict.TheVariants as verdict
use Rattle.check_core.specs.declared.tally.CheckTally.{CheckTally}
use Rattle.check_core.specs.declared.updates.Update.{Update}
use Rattle.check_core.specs.declared.updates.Update.TheVariants.{Same, Written, Failed}

-- its answers are counted so, and none differs
pub record Passes (script : List ℕ) : Type 0 where
  pub tally : CheckTally
  pub checks : ChecksScript script tally
  pub none : tally.differing ≡ 0

-- The text is an update of the script: no answer of it differs from what its notes expect; these expect the answers that the
-- script expects, or each if it expects nothing; and its other lines are the script's.
pub record Updates (script text : List ℕ) : Type 0 where
  pub passes : Passes text
  pub asked : asked text ≡ asked_by_update script
  pub kept : kept text ≡ kept script

-- the text would be an update of the script, but no script may be as long
pub record IsLongUpdate (script text : List ℕ) : Type 0 where
  pub answers : AnswersAsExpected text
  pub asked : asked text ≡ asked_by_update script
  pub kept : kept text ≡ kept script
  pub long : SCRIPT_BYTES < length text

-- The script is too long, or an update of it is. A note has at most LINE_BYTES bytes, so an update is too long only by the
-- lines that the script keeps, and by the number of lines in its answers.
abbrev pub IsTooLongToUpdate : List ℕ → Type 0
IsTooLongToUpdate script = (SCRIPT_BYTES < length script) ⊎ ((text : List ℕ) × IsLongUpdate script text)

-- What an update made of a file. `reads` says of bytes that a file has them, and `given` that a file was given them: the script
-- that was read is its own update; or another text was written that is an update of it; or the script was read and not
-- updated, or not read.
abbrev pub IsUpdate : (List ℕ → Type 0) → (List ℕ → Type 0) → Update → Type 0
IsUpdate reads given Same = (script : List ℕ) × reads script × Updates script script
IsUpdate reads given Written =
    (script : List ℕ) × (text : List ℕ) × reads script × (text ≢ script) × Updates script text × given text
IsUpdate reads given (Failed refusal) = (refusal ≡ ReadFault) ⊎ ((script : List ℕ) × reads script)

abbrev pub is_failed : Update → Bool
is_failed Same = false
is_failed Written = false
is_failed (Failed refusal) = true

-- 1 for a file that was written
abbrev pub one_if_written : Update → ℕ
one_if_written Same = 0
one_if_written Written = 1
one_if_written (Failed refusal) = 0

abbrev pub written_count : List Update → ℕ
written_count [] = 0
written_count (u ∷ us) = one_if_written u + written_count us

abbrev pub verdict_of_updates : List Update → Verdict
verdict_of_updates updates = if list_any is_failed updates then verdict.Failed else verdict.Passed

-- why a file is as it was
abbrev pub failure_text : List ℕ → Refusal → List ℕ
failure_text name refusal =
    name ++ codes ": not updated: " ++ decimal (refusal_number refusal) ++ codes " " ++ refusal_name refusal ++ codes "\n"

-- what is reported of a file
abbrev pub update_text : List ℕ → Update → List ℕ
update_text name Same = []
update_text name Written = name ++ codes ": updated\n"
update_text name (Failed refusal) = failure_text name refusal

-- of all of them, in order
abbrev pub updates_text : {N : Type 0} → (N → List ℕ) → List N → List Update → List ℕ
updates_text text_of [] us = []
updates_text text_of (n ∷ ns) [] = []
updates_text text_of (n ∷ ns) (u ∷ us) = update_text (text_of n) u ++ updates_text text_of ns us

-- the line of counts
abbrev pub update_totals : ℕ → ℕ → List ℕ
update_totals files written = codes "files: " ++ decimal files ++ codes ", updated: " ++ decimal written ++ codes "\n"

-- what was made of each file is reported, and then the counts
pub record HasReported {N : Type 0} (reads given : List ℕ → Type 0) (text_of : N → List ℕ) (names : List N)
    (before after : Option (List ℕ)) (verdict : Verdict) : Type 0 where
  pub updates : List Update
  pub count : length updates ≡ length names
  pub each : All (IsUpdate reads given) updates
  pub report : Appends before after
      (updates_text text_of names updates ++ update_totals (length names) (written_count updates))
  pub is : verdict ≡ verdict_of_updates updates
