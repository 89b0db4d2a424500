-- The watches that fire along a history.
use Rattle.std.specs.Prelude.{ℕ, List, [], ◌∷◌, ◌++◌, map}
use Rattle.std.specs.Option.{option_map_or}
use Rattle.command_core.specs.declared.command.Command.{Command}
use Rattle.desk_core.specs.theorem.World.{World, MadeWatch, empty_world, after, due_watches, reach_by}
use Rattle.desk_core.specs.theorem.History.{world_of}

-- the registrations, by number, that the command fires
abbrev pub fired_in : World → Command → List ℕ
fired_in w c = option_map_or (λ reach. map (λ (x : MadeWatch). x.number) (due_watches w reach)) (reach_by w.timelines c) []

abbrev pub fired_from : World → List Command → List ℕ
fired_from w [] = []
fired_from w (c ∷ cs) = fired_in w c ++ fired_from (after w c) cs

-- the registrations that fire along a history, in order
abbrev pub fired_along : List Command → List ℕ
fired_along history = fired_from empty_world history

-- the pending watches after a history, by registration
abbrev pub pending_after : List Command → List MadeWatch
pending_after history = (world_of history).watches
