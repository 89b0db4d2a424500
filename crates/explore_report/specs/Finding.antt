-- What is wrong with an answer to a line of a plan.
use Rattle.std.specs.Prelude.{ℕ, if◌then◌else◌, Option, None, Some, slice_get}
use Rattle.std.specs.Option.{option_and_then}
use Rattle.command_core.specs.declared.answer.Answer.{Answer}
use Rattle.explore_core.specs.Expects.{is_expected}
use Rattle.explore_core.specs.declared.expects.Expects.{Expects}
use Rattle.explore_core.specs.declared.expects.Expects.TheVariants.{Texts}
use Rattle.explore_report.specs.declared.finding.Finding.{Finding}
use Rattle.explore_report.specs.declared.finding.Finding.TheVariants.{Unexpected, Refused}
use Rattle.explore_report.specs.declared.plan_script.PlanScript.{PlanScript}

-- an answer that is not expected is none of those that the notes expect; without notes it is a refusal
abbrev pub finding_where : Expects → Finding
finding_where (Texts answers) = Unexpected
finding_where _ = Refused

abbrev pub finding_by : Answer → Expects → Option Finding
finding_by given expects = if is_expected given expects then None else Some (finding_where expects)

-- What is wrong with an answer to the row of that index: it is none of those that the notes below expect, or a refusal though they
-- expect none. No command is answered with a line's number.
abbrev pub finding_of : PlanScript → ℕ → Answer → Option Finding
finding_of p index given = option_and_then (finding_by given) (slice_get p.expects.items index)
