-- What a run of a script with JSON answers did.
use Rattle.std.specs.Prelude.{ℕ, List, Option, Result, IfOk}
use Rattle.point_core.specs.declared.refusal.Refusal.{Refusal}
use Rattle.line_core.specs.Reading.{IsInput}
use Rattle.line_core.specs.Script.{script_of}
use Rattle.script_core.specs.Output.{Grows}
use Rattle.script_core.specs.Run.{ReadsInput}
use Rattle.script_core.specs.declared.totals.Totals.{Totals}
use Rattle.json_core.specs.Answering.{CountsAnswers}

-- A run that ended so read the script, and counted its answers. `unread` and `left` are the reader's bytes before and after the
-- run, `old` and `new` the writer's.
pub record RunsJson (ended : Result Totals Refusal) (unread left old new : Option (List ℕ)) : Type 0 where
  pub reading : ReadsInput ended unread left
  -- all lines were answered, and the totals count their answers
  pub ok : IfOk ended (λ totals. (script : List ℕ) × IsInput unread script × CountsAnswers (script_of script) totals)
  -- whatever the result, no byte that was written is taken back
  pub grows : Grows old new
