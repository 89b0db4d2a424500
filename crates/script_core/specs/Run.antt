-- What a run of a script did.
use Rattle.std.specs.Prelude.{◌≡◌, ◌+◌, ◌⊎◌, ℕ, List, Option, Result, Err, IfErr, IfOk, OnErr}
use Rattle.point_core.specs.declared.refusal.Refusal.{Refusal}
use Rattle.point_core.specs.declared.refusal.Refusal.TheVariants.{Read as ReadFault, Write as WriteFault, Memory}
use Rattle.line_core.specs.Reading.{ConsumesAtMost, ReadsScript}
use Rattle.line_core.specs.declared.script.TheConstants.{SCRIPT_BYTES}
use Rattle.script_core.specs.Output.{AnswersEndedLines, AnswersInput, WritesInputPrefix}
use Rattle.script_core.specs.declared.totals.Totals.{Totals}

-- how much of a script a run read, and which faults can end it
pub record ReadsInput (ended : Result Totals Refusal) (unread left : Option (List ℕ)) : Type 0 where
  -- the bytes that were read are the script, up to the byte after its limit
  pub reads : IfOk ended (λ totals. ReadsScript unread left)
  -- whatever the result, no byte was read past that one
  pub within : ConsumesAtMost (SCRIPT_BYTES + 1) unread left
  pub refusals : IfErr ended (λ refusal. (refusal ≡ ReadFault) ⊎ (refusal ≡ WriteFault) ⊎ (refusal ≡ Memory))

-- A run that ended so read the script, and wrote its answers. `unread` and `left` are the reader's bytes before and after
-- the run, `old` and `new` the writer's.
pub record RunsScript (ended : Result Totals Refusal) (unread left old new : Option (List ℕ)) : Type 0 where
  pub reading : ReadsInput ended unread left
  -- all lines were answered, and the totals count their answers
  pub ok : IfOk ended (λ totals. AnswersInput unread totals old new)
  -- after a failed read, the lines whose line feed was read were answered
  pub read : ended ≡ Err ReadFault → AnswersEndedLines unread left old new
  -- after any fault, a prefix of the answers was written
  pub err : OnErr ended (WritesInputPrefix unread old new)
