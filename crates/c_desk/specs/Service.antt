-- A desk with its queue of cookies, and one command on both.
use Rattle.std.specs.Prelude.{◌≡◌, ℕ, ◌+◌, ◌≤◌, Bool, true, false, List, [], ◌++◌, length}
use Rattle.command_core.specs.declared.command.Command.{Command}
use Rattle.command_core.specs.declared.command.Command.TheVariants as command
use Rattle.command_core.specs.declared.answer.Answer.{Answer}
use Rattle.command_core.specs.declared.answer.Answer.TheVariants as answer
use Rattle.fence_core.specs.declared.watches.TheConstants.{WATCHES}
use Rattle.desk_core.specs.theorem.Answer.{OnRefused}
use Rattle.desk_core.specs.theorem.Desk.{DeskState, HasHistory, Answers}
use Rattle.desk_core.specs.theorem.History.{history_after}

pub record ServiceState : Type 0 where
  pub desk : DeskState
  pub fired : List ℕ

-- the cookies that the answer fires
abbrev pub cookies_of : Answer → List ℕ
cookies_of (answer.Raised n fired) = fired
cookies_of _ = []

-- the command registers a watch
abbrev pub registers_watch : Command → Bool
registers_watch (command.Watch f cookie) = true
registers_watch _ = false

-- a command that registers a watch finds room for all watches that can be pending
abbrev pub IsReadyFor : Command → ℕ → ℕ → Type 0
IsReadyFor command len capacity = registers_watch command ≡ true → len + WATCHES ≤ capacity

-- the queue has room for each pending watch
pub record HasRoom (desk : DeskState) (len capacity : ℕ) : Type 0 where
  pub history : List Command
  pub stands : HasHistory desk history
  pub room : len + length desk.watches.pending ≤ capacity

-- the command was answered as a desk answers it, and the cookies that it fired are queued after the earlier ones
pub record IsStep (old new : ServiceState) (command : Command) (given : Answer) : Type 0 where
  pub answered : Answers old.desk command given
  pub stands : (history : List Command) → HasHistory old.desk history → HasHistory new.desk (history_after history command given)
  pub unchanged : OnRefused given (new ≡ old)
  pub kept : new.fired ≡ old.fired ++ cookies_of given
