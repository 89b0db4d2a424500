-- What a report says of an exploration.
use Rattle.std.specs.Prelude.{◌≡◌, ℕ, nat_lt, Bool, true, false, if◌then◌else◌, length, map, count_by, is_some}
use Rattle.explore_core.specs.declared.found.Found.{Found}
use Rattle.explore_report.specs.declared.case.Case.{Case}
use Rattle.explore_report.specs.declared.plan_script.PlanScript.{PlanScript}
use Rattle.explore_report.specs.declared.report.Outcome.{Outcome}
use Rattle.explore_report.specs.declared.report.Outcome.TheVariants.{Clean, Findings, NotCovered}
use Rattle.explore_report.specs.declared.report.Report.{Report}
use Rattle.explore_report.specs.declared.report.Wanted.{Wanted}
use Rattle.explore_report.specs.declared.report.Wanted.TheVariants as wanted
use Rattle.explore_report.specs.Cases.{cases_of, judged_of}

abbrev pub is_wrong : Case → Bool
is_wrong c = is_some c.finding

-- the report is of what was found of that plan, and its cases are all answers that were found, and no others
pub record IsReport (p : PlanScript) (found : Found) (findings : Wanted) (report : Report) : Type 0 where
  pub plan : report.plan.now ≡ p
  pub found_is : report.found.now ≡ found
  pub wanted : report.wanted ≡ findings
  pub cases : map judged_of report.cases.items ≡ cases_of p found

-- how many of the answers are wrong
abbrev pub findings_in : Report → ℕ
findings_in report = count_by is_wrong report.cases.items

-- how many schedules that get stuck are shown: one at most
abbrev pub stuck_in : Report → ℕ
stuck_in report = if is_some report.found.now.stuck then 1 else 0

-- how many races are shown
abbrev pub races_in : Report → ℕ
races_in report = length report.found.now.races.items

-- a schedule gets stuck, two clients race, or an answer is wrong
abbrev pub has_findings : Report → Bool
has_findings report =
    if nat_lt 0 (stuck_in report) then true else if nat_lt 0 (races_in report) then true else nat_lt 0 (findings_in report)

-- by whether every schedule was covered, and whether something is found, for which the search may end if only the first is wanted
abbrev pub outcome_by : Bool → Wanted → Bool → Outcome
outcome_by true findings any = if any then Findings else Clean
outcome_by false wanted.First any = if any then Findings else NotCovered
outcome_by false wanted.All any = NotCovered

-- nothing is wrong exactly if every schedule was covered, none of them gets stuck, no two clients race, and no answer is wrong
abbrev pub outcome_of : Report → Outcome
outcome_of report = outcome_by report.found.now.covered report.wanted (has_findings report)
