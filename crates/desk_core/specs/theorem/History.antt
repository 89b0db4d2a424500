-- Histories: lists of accepted commands, and the worlds that they make.
use Rattle.std.specs.Prelude.{◌≡◌, ◌⊎◌, true, false, if◌then◌else◌, List, [], ◌∷◌, ◌++◌, ⊤}
use Rattle.std.specs.List.{flat_map}
use Rattle.point_core.specs.declared.refusal.Refusal.TheVariants.{Memory}
use Rattle.command_core.specs.declared.command.Command.{Command}
use Rattle.command_core.specs.declared.answer.Answer.{Answer}
use Rattle.command_core.specs.declared.answer.Answer.TheVariants as answer
use Rattle.desk_core.specs.theorem.World.{World, empty_world, after, fires_some, increment_in}
use Rattle.timeline_core.specs.Sums.{Increment}
use Rattle.desk_core.specs.theorem.Answer.{answer_to, is_refused, takes_memory}

abbrev pub world_from : World → List Command → World
world_from w [] = w
world_from w (c ∷ cs) = world_from (after w c) cs

-- the world that a history makes
abbrev pub world_of : List Command → World
world_of history = world_from empty_world history

-- each command is accepted in the world that those before it make
abbrev pub AreAccepted : World → List Command → Type 0
AreAccepted w [] = ⊤
AreAccepted w (c ∷ cs) = (is_refused (answer_to w c) ≡ false) × AreAccepted (after w c) cs

-- a history is a list of accepted commands
abbrev pub IsHistory : List Command → Type 0
IsHistory history = AreAccepted empty_world history

-- the accepted increments
abbrev pub increments_in : List Command → List Increment
increments_in history = flat_map increment_in history

-- the one answer of the command, or Memory if that is no refusal and the command takes memory
pub record IsAnswer (history : List Command) (command : Command) (given : Answer) : Type 0 where
  pub reported : (given ≡ answer_to (world_of history) command)
      ⊎ ((given ≡ answer.Refused Memory) × (takes_memory (fires_some (world_of history)) command ≡ true)
      × (is_refused (answer_to (world_of history) command) ≡ false))

-- the history after a command with that answer
abbrev pub history_after : List Command → Command → Answer → List Command
history_after history command given = if is_refused given then history else history ++ command ∷ []

-- the history after commands with these answers
abbrev pub history_of : List Command → List Command → List Answer → List Command
history_of history [] given = history
history_of history (c ∷ cs) [] = history
history_of history (c ∷ cs) (a ∷ rest) = history_of (history_after history c a) cs rest

-- each command has its answer, one after another
abbrev pub AreAnswers : List Command → List Command → List Answer → Type 0
AreAnswers history [] [] = Unit {0}
AreAnswers history [] (a ∷ rest) = ⊥
AreAnswers history (c ∷ cs) [] = ⊥
AreAnswers history (c ∷ cs) (a ∷ rest) = IsAnswer history c a × AreAnswers (history_after history c a) cs rest
