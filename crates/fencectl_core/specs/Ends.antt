-- The exit status of the run of a script, and the report of a fault.
use Rattle.std.specs.Prelude.{ℕ, List, Option, Result, Ok, Err, ◌==◌, if◌then◌else◌, MatchResult}
use Rattle.std.specs.Io.KnownBytes.{Keeps}
use Rattle.point_core.specs.declared.refusal.Refusal.{Refusal}
use Rattle.script_core.specs.declared.totals.Totals.{Totals}
use Rattle.report_core.specs.Bytes.{AppendsFront}
use Rattle.fencectl_core.specs.Fault.{fault_text}

-- 0 if each line was accepted, 1 if one was refused, and 2 after a fault
abbrev pub run_status : Result Totals Refusal → ℕ
run_status (Ok totals) = if totals.refused == 0 then 0 else 1
run_status (Err refusal) = 2

-- the line of a fault is reported, or a prefix of it, and nothing else
abbrev pub ReportsFault : {T : Type 0} → Result T Refusal → Option (List ℕ) → Option (List ℕ) → Type 0
ReportsFault ended old new = MatchResult ended (λ _. Keeps old new) (λ refusal. AppendsFront old new (fault_text refusal))
