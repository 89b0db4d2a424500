-- What a run did, by how it ended.
use Rattle.std.proofs.Common.{◌≡◌, ◌+◌, ◌⊎◌, ℕ, List, Option}
use Rattle.std.specs.Prelude.{Ok, Err}
use Rattle.point_core.specs.declared.refusal.Refusal.{Refusal}
use Rattle.point_core.specs.declared.refusal.Refusal.TheVariants.{Read as ReadFault, Write as WriteFault, Memory}
use Rattle.line_core.specs.Reading.{ConsumesAtMost, IsInput, ReadsScript}
use Rattle.line_core.specs.Script.{script_of}
use Rattle.line_core.specs.declared.script.TheConstants.{SCRIPT_BYTES}
use Rattle.script_core.specs.Output.{Grows}
use Rattle.script_core.specs.declared.totals.Totals.{Totals}
use Rattle.script_core.proofs.Runs.{ReadsInput-fault, ReadsInput-unread, ReadsInput-whole}
use Rattle.json_core.specs.Answering.{CountsAnswers}
use Rattle.json_core.specs.Run.{RunsJson}

module _ (unread left old new : Option (List ℕ)) (within : ConsumesAtMost (SCRIPT_BYTES + 1) unread left) (grows : Grows old new) where
  -- all lines were answered
  pub RunsJson-whole : (totals : Totals) → ReadsScript unread left → (script : List ℕ) × IsInput unread script × CountsAnswers (script_of script) totals → RunsJson (Ok totals) unread left old new
  RunsJson-whole totals reads answers = record { reading = ReadsInput-whole unread left within totals reads; ok = answers; grows = grows }

  -- a read failed
  pub RunsJson-unread : RunsJson (Err ReadFault) unread left old new
  RunsJson-unread = record { reading = ReadsInput-unread unread left within; ok = tt; grows = grows }

  -- a write or an allocation failed
  pub RunsJson-fault : (e : Refusal) → (e ≡ WriteFault) ⊎ (e ≡ Memory) → RunsJson (Err e) unread left old new
  RunsJson-fault e is = record { reading = ReadsInput-fault unread left within e is; ok = tt; grows = grows }
