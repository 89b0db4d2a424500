-- The exit statuses of checks and of reports of traces.
use Rattle.std.specs.Prelude.{◌≡◌, ◌⊎◌, ℕ, Bool, true}
use Rattle.check_core.specs.declared.outcome.Verdict.{Verdict}
use Rattle.check_core.specs.declared.outcome.Verdict.TheVariants.{Passed, Differs, Failed}
use Rattle.fencectl_core.specs.declared.action.CheckReport.{CheckReport}
use Rattle.fencectl_core.specs.declared.action.CheckReport.TheVariants as report
use Rattle.trace_report.specs.declared.report.TraceOutcome.{TraceOutcome}
use Rattle.trace_report.specs.declared.report.TraceOutcome.TheVariants.{Sound, Broken, NoEvents}
use Rattle.trace_report.specs.declared.events.Written.{Written}
use Rattle.trace_report.specs.declared.events.Written.TheVariants as written
use Rattle.trace_script.specs.declared.text.Scripted.{Scripted}
use Rattle.trace_script.specs.declared.text.Scripted.TheVariants as scripted

-- 0 if each script passes, 1 if one does not, and 2 if one could not be checked to its end
abbrev pub verdict_status : Verdict → ℕ
verdict_status Passed = 0
verdict_status Differs = 1
verdict_status Failed = 2

-- Tests of the Test Anything Protocol tell themselves which of them fail: once they are written, the status is 0.
abbrev pub check_status : CheckReport → Verdict → ℕ
check_status report.All verdict = verdict_status verdict
check_status report.Counts verdict = verdict_status verdict
check_status report.Tap verdict = 0

-- 0 if nothing hangs and no rule is broken, 1 if something does, and 2 if there is no event of a fence
abbrev pub outcome_status : TraceOutcome → ℕ
outcome_status Sound = 0
outcome_status Broken = 1
outcome_status NoEvents = 2

-- 0 once the document is written, and 2 if there is no event of a fence
abbrev pub written_status : Written → ℕ
written_status written.Document = 0
written_status written.NoEvents = 2

-- 0 once the script is written or drawn, and 2 if there is none, or if it has too many commands for a picture
abbrev pub IsScriptStatus : Bool → Scripted → ℕ → Type 0
IsScriptStatus is_drawing (scripted.Script text) status = (status ≡ 0) ⊎ ((is_drawing ≡ true) × (status ≡ 2))
IsScriptStatus is_drawing scripted.NoEvents status = status ≡ 2
IsScriptStatus is_drawing scripted.TooLong status = status ≡ 2
