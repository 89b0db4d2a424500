-- Lines inside blocks, with which clients never wait.
use Rattle.std.specs.Prelude.{◌≡◌, ℕ, Bool, true, not, ◌&&◌, ◌||◌, List, is_none}
use Rattle.std.specs.List.{list_all}
use Rattle.explore_core.specs.declared.plan.Step.{Step}
use Rattle.explore_core.specs.Schedule.{Lines, lines_of}

-- if the line is inside a block, the client never waits with it
abbrev pub is_prompt : Step → Bool
is_prompt step = not step.joined || (not step.waits && is_none step.after)

abbrev pub ArePrompt : List Step → Type 0
ArePrompt lines = list_all is_prompt lines ≡ true

-- no client waits inside a block
abbrev pub NeverWaits : Lines → Type 0
NeverWaits plan = (client : ℕ) → ArePrompt (lines_of plan client)
