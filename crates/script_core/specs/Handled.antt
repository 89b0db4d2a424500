-- Lines of a script that were answered, from the first on.
use Rattle.std.specs.Prelude.{◌≡◌, ◌≤◌, ◌⊎◌, ℕ, List, length, Option}
use Rattle.point_core.specs.declared.refusal.Refusal.{Refusal}
use Rattle.point_core.specs.declared.refusal.Refusal.TheVariants.{Write as WriteFault, Memory}
use Rattle.line_core.specs.declared.line.Line.{Line}
use Rattle.script_core.specs.Answering.{AnswersState, HasAnswered}
use Rattle.script_core.specs.Output.{WritesPrefix}

-- `said` are the ones of the lines that have an answer, and they were answered
pub record HasHandled (lines : List (List ℕ)) (said : List Line) (s : AnswersState) (old new : Option (List ℕ)) : Type 0 where
  pub answered : HasAnswered said s old new
  pub few : s.totals.lines ≤ length lines

-- a write or an allocation failed, and a prefix of the answers of the lines `said` was written
pub record HasStopped (refusal : Refusal) (said : List Line) (old new : Option (List ℕ)) : Type 0 where
  pub is : (refusal ≡ WriteFault) ⊎ (refusal ≡ Memory)
  pub written : WritesPrefix said old new
