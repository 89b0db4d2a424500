-- Worked rows: what the definitions answer to lists of commands.
use Rattle.std.specs.Prelude.{◌≡◌, refl, List, [], ◌∷◌, if◌then◌else◌, codes}
use Rattle.point_core.specs.declared.refusal.Refusal.TheVariants.{NoEntry, Exists, Overflow, TimedOut}
use Rattle.point_core.specs.declared.status.Status.TheVariants.{Active, Signalled}
use Rattle.point_core.specs.Agreement.{contexts}
use Rattle.command_core.specs.declared.command.Command.{Command}
use Rattle.command_core.specs.declared.command.Command.TheVariants as command
use Rattle.command_core.specs.declared.answer.Answer.{Answer}
use Rattle.command_core.specs.declared.answer.Answer.TheVariants as answer
use Rattle.command_core.specs.declared.answer.Maker.TheVariants.{SwSync}
use Rattle.desk_core.specs.theorem.World.{World, empty_world, after}
use Rattle.desk_core.specs.theorem.Answer.{answer_to, is_refused}

-- the answers of commands that run after one another, with no want of memory
abbrev pub answers_from : World → List Command → List Answer
answers_from w [] = []
answers_from w (c ∷ cs) = answer_to w c ∷ answers_from (if is_refused (answer_to w c) then w else after w c) cs

both_orders : answers_from empty_world (
    command.Timeline (codes "a")
    ∷ command.Fence (codes "f") (codes "a") 5
    ∷ command.Fence (codes "g") (codes "a") 3
    ∷ command.Merge (codes "m") (codes "f") (codes "g")
    ∷ command.Merge (codes "n") (codes "g") (codes "f")
    ∷ command.Info (codes "m")
    ∷ command.Info (codes "n") ∷ [])
    ≡ (answer.Value 1
    ∷ answer.Done
    ∷ answer.Done
    ∷ answer.Done
    ∷ answer.Done
    ∷ answer.Info record { name = codes "m"; status = Active; fences = record { timeline = codes "a"; driver = SwSync; point = 5; status = Active } ∷ [] }
    ∷ answer.Info record { name = codes "n"; status = Active; fences = record { timeline = codes "a"; driver = SwSync; point = 5; status = Active } ∷ [] } ∷ [])
unfolding contexts
both_orders = refl

-- one of the six orders, then merged with itself
third_order : answers_from empty_world (
    command.Timeline (codes "a")
    ∷ command.Timeline (codes "b")
    ∷ command.Fence (codes "f") (codes "a") 5
    ∷ command.Fence (codes "g") (codes "b") 2
    ∷ command.Fence (codes "h") (codes "a") 7
    ∷ command.Merge (codes "q") (codes "g") (codes "h")
    ∷ command.Merge (codes "r") (codes "q") (codes "f")
    ∷ command.Merge (codes "s") (codes "r") (codes "r")
    ∷ command.Info (codes "s") ∷ [])
    ≡ (answer.Value 1
    ∷ answer.Value 2
    ∷ answer.Done
    ∷ answer.Done
    ∷ answer.Done
    ∷ answer.Done
    ∷ answer.Done
    ∷ answer.Done
    ∷ answer.Info record { name = codes "s"; status = Active; fences = record { timeline = codes "a"; driver = SwSync; point = 7; status = Active } ∷ record { timeline = codes "b"; driver = SwSync; point = 2; status = Active } ∷ [] } ∷ [])
unfolding contexts
third_order = refl

-- a name that is not there is reported before one that is there already
refusals_in_order : answers_from empty_world (
    command.Timeline (codes "a")
    ∷ command.Timeline (codes "a")
    ∷ command.Fence (codes "f") (codes "a") 1
    ∷ command.Fence (codes "f") (codes "b") 1
    ∷ command.Merge (codes "f") (codes "f") (codes "g")
    ∷ command.Fence (codes "f") (codes "a") 2
    ∷ command.Info (codes "g") ∷ [])
    ≡ (answer.Value 1
    ∷ answer.Refused Exists
    ∷ answer.Done
    ∷ answer.Refused NoEntry
    ∷ answer.Refused NoEntry
    ∷ answer.Refused Exists
    ∷ answer.Refused NoEntry ∷ [])
refusals_in_order = refl

merge_after_advance : answers_from empty_world (
    command.Timeline (codes "a")
    ∷ command.Timeline (codes "b")
    ∷ command.Fence (codes "f") (codes "a") 5
    ∷ command.Fence (codes "g") (codes "b") 2
    ∷ command.Merge (codes "m") (codes "f") (codes "g")
    ∷ command.Inc (codes "a") 5
    ∷ command.Info (codes "m")
    ∷ command.Merge (codes "n") (codes "m") (codes "m")
    ∷ command.Info (codes "n") ∷ [])
    ≡ (answer.Value 1
    ∷ answer.Value 2
    ∷ answer.Done
    ∷ answer.Done
    ∷ answer.Done
    ∷ answer.Raised 5 []
    ∷ answer.Info record { name = codes "m"; status = Active; fences = record { timeline = codes "a"; driver = SwSync; point = 5; status = Signalled } ∷ record { timeline = codes "b"; driver = SwSync; point = 2; status = Active } ∷ [] }
    ∷ answer.Done
    ∷ answer.Info record { name = codes "n"; status = Active; fences = record { timeline = codes "b"; driver = SwSync; point = 2; status = Active } ∷ [] } ∷ [])
unfolding contexts
merge_after_advance = refl

wait_then_advance : answers_from empty_world (
    command.Timeline (codes "a")
    ∷ command.Fence (codes "f") (codes "a") 5
    ∷ command.Inc (codes "a") 4
    ∷ command.Wait (codes "f")
    ∷ command.Inc (codes "a") 1
    ∷ command.Wait (codes "f")
    ∷ command.Close (codes "f")
    ∷ command.Wait (codes "f") ∷ [])
    ≡ (answer.Value 1
    ∷ answer.Done
    ∷ answer.Raised 4 []
    ∷ answer.Refused TimedOut
    ∷ answer.Raised 5 []
    ∷ answer.Done
    ∷ answer.Done
    ∷ answer.Refused NoEntry ∷ [])
wait_then_advance = refl

-- a refused increment leaves the value
overflow : answers_from empty_world (
    command.Timeline (codes "a")
    ∷ command.Inc (codes "a") 18446744073709551615
    ∷ command.Inc (codes "a") 1
    ∷ command.Value (codes "a")
    ∷ command.Inc (codes "a") 0 ∷ [])
    ≡ (answer.Value 1
    ∷ answer.Raised 18446744073709551615 []
    ∷ answer.Refused Overflow
    ∷ answer.Value 18446744073709551615
    ∷ answer.Raised 18446744073709551615 [] ∷ [])
overflow = refl
