-- How many files a plan makes at most.
use Rattle.std.specs.Prelude.{◌≡◌, ℕ, ◌+◌, ◌<◌, ◌≤◌, List, Some, IfSome, All, slice_get}
use Rattle.std.specs.List.{sum_by}
use Rattle.command_core.specs.declared.command.Command.{Command}
use Rattle.command_core.specs.declared.command.Command.TheVariants as command
use Rattle.syncfile_core.specs.declared.files.TheConstants.{FILES}
use Rattle.explore_core.specs.Branch.{Branching}
use Rattle.explore_core.specs.declared.plan.Step.{Step}
use Rattle.explore_core.specs.Schedule.{Lines}

-- a client never goes back to a line above
abbrev pub LeadsForward : ℕ → Step → Type 0
LeadsForward place step = IfSome step.branch (λ (b : Branching). place < b.otherwise)

-- the client makes each of the lines once at most
abbrev pub LeadForward : List Step → Type 0
LeadForward lines = (place : ℕ) (step : Step) → slice_get lines place ≡ Some step → LeadsForward place step

-- how many files the command makes if it is accepted
abbrev pub files_by : Command → ℕ
files_by (command.Fence f t p) = 1
files_by (command.Merge f a b) = 1
files_by (command.Export f b flags) = 1
files_by _ = 0

abbrev pub files_by_lines : List Step → ℕ
files_by_lines lines = sum_by (λ (step : Step). files_by step.command) lines

-- how many files the plan makes at most, if each line is made once
abbrev pub files_by_plan : Lines → ℕ
files_by_plan plan = sum_by files_by plan.first + sum_by files_by_lines plan.clients

-- each line is made once at most, and once all were made there is room for two more files
pub record HasRoom (plan : Lines) : Type 0 where
  pub forward : All LeadForward plan.clients
  pub room : files_by_plan plan + 2 ≤ FILES
