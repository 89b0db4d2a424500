-- How often watches of a cookie were registered, removed and fired in a run, by its commands and their answers.
use Rattle.std.specs.Prelude.{ℕ, ◌==◌, Bool, false, not, ◌&&◌, List, [], count_by}
use Rattle.std.specs.List.{flat_map, zip}
use Rattle.command_core.specs.declared.command.Command.{Command}
use Rattle.command_core.specs.declared.command.Command.TheVariants as command
use Rattle.command_core.specs.declared.answer.Answer.{Answer}
use Rattle.command_core.specs.declared.answer.Answer.TheVariants as answer
use Rattle.fence_core.specs.Watch.{cookies_of}
use Rattle.desk_core.specs.theorem.Answer.{is_refused}
use Rattle.desk_core.specs.theorem.Desk.{DeskState}

-- the command is a `watch` of that cookie
abbrev pub is_watch_of : ℕ → Command → Bool
is_watch_of cookie (command.Watch f other) = other == cookie
is_watch_of cookie _ = false

-- the command is an `unwatch` of that cookie
abbrev pub is_unwatch_of : ℕ → Command → Bool
is_unwatch_of cookie (command.Unwatch other) = other == cookie
is_unwatch_of cookie _ = false

-- the answer of an `unwatch` that took a watch out
abbrev pub reports_one : Answer → Bool
reports_one (answer.Value n) = n == 1
reports_one _ = false

-- the cookies that are reported to have fired
abbrev pub fired_reported : Answer → List ℕ
fired_reported answer.Done = []
fired_reported (answer.Value n) = []
fired_reported (answer.Raised n fired) = fired
fired_reported (answer.Info info) = []
fired_reported (answer.Show rows) = []
fired_reported (answer.Report report) = []
fired_reported (answer.Refused refusal) = []

-- a `watch` of that cookie was accepted
abbrev pub registers : ℕ → Command × Answer → Bool
registers cookie both = not (is_refused both.1) && is_watch_of cookie both.0

-- an `unwatch` of that cookie took a watch out
abbrev pub removes : ℕ → Command × Answer → Bool
removes cookie both = is_unwatch_of cookie both.0 && reports_one both.1

abbrev pub times_registered : ℕ → List Command → List Answer → ℕ
times_registered cookie commands given = count_by (registers cookie) (zip commands given)

abbrev pub times_removed : ℕ → List Command → List Answer → ℕ
times_removed cookie commands given = count_by (removes cookie) (zip commands given)

-- how often the answers report that a watch of that cookie has fired
abbrev pub times_fired : ℕ → List Answer → ℕ
times_fired cookie given = count_by (λ k. k == cookie) (flat_map fired_reported given)

-- how many watches of that cookie the desk keeps
abbrev pub times_pending : ℕ → DeskState → ℕ
times_pending cookie desk = count_by (λ k. k == cookie) (cookies_of desk.watches.pending)
