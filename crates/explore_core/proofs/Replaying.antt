-- A schedule that is run again, without the lines that only ask.
use Rattle.std.proofs.Common.{◌≡◌, ℕ, Bool, true, false, ◌||◌, refl, sym, ap, ◌∙◌, subst, List, [], ◌∷◌, ◌++◌, None, Some, if◌then◌else◌, get_or, set}
use Rattle.std.proofs.lemmas.Option.{same_Some, none-some}
use Rattle.command_core.specs.declared.command.Command.{Command}
use Rattle.desk_core.specs.theorem.Answer.{answer_to, is_refused}
use Rattle.desk_core.specs.theorem.Desk.{DeskState, Holds, HasHistory}
use Rattle.desk_core.specs.theorem.History.{IsHistory, world_of}
use Rattle.desk_core.specs.theorem.World.{empty_world}
use Rattle.desk_core.proofs.Answering.{AreAccepted-push}
use Rattle.explore_core.specs.declared.plan.Step.{Step}
use Rattle.explore_core.specs.declared.position.Position.{Position}
use Rattle.explore_core.specs.Schedule.{Lines, Standing, answer_now, history_with, next_line, can_be_made, place_after, after_line, made_line, after_one}
use Rattle.explore_core.specs.Search.{IsAt, keeps_world}
use Rattle.explore_core.proofs.Covering.{world-with}
use Rattle.explore_core.proofs.Visiting.{stays-world}

-- a command that only asks: a desk has the history with it too

accepted-by : (history : List Command) (c : Command) → IsHistory history → (r : Bool) → is_refused (answer_now history c) ≡ r → IsHistory (if r then history else history ++ c ∷ [])
accepted-by history c accepted true is = accepted
accepted-by history c accepted false is = AreAccepted-push empty_world history c accepted is

accepted-with : (history : List Command) (c : Command) → IsHistory history → IsHistory (history_with history c)
accepted-with history c accepted = accepted-by history c accepted (is_refused (answer_now history c)) refl

pub asked-history : (d : DeskState) (history : List Command) (c : Command) → keeps_world c ≡ true → HasHistory d history → HasHistory d (history_with history c)
asked-history d history c keeps has =
    let w = world_of history in
    let same = stays-world w c (answer_to w c) refl (ap (λ (b : Bool). b || is_refused (answer_to w c)) keeps) in
    record {
      accepted = accepted-with history c has.accepted;
      holds = subst (Holds d) (sym (world-with history c ∙ same)) has.holds;
    }

-- a line that is made, or passed over
pub IsAt-again : (plan : Lines) (now next : Standing) (client : ℕ) (step : Step) (old new : Position) → IsAt old now → next_line plan now client ≡ Some step
    → after_one plan now client ≡ Some next → HasHistory new.desk (history_with now.history step.command)
    → new.made.items ≡ set old.made.items client (place_after step (get_or old.made.items client 0) (answer_now now.history step.command)) → IsAt new next
IsAt-again plan now next client step old new at line goes desk made = by (can_be_made now step) (sym (ap (made_line now client) line) ∙ goes)
  where
    there : IsAt new (after_line now client step)
    there = record { desk = desk; made = made ∙ ap (λ (ps : List ℕ). set ps client (place_after step (get_or ps client 0) (answer_now now.history step.command))) at.made }

    by : (b : Bool) → (if b then Some (after_line now client step) else None) ≡ Some next → IsAt new next
    by true goes = subst (IsAt new) (same_Some (after_line now client step) next goes) there
    by false goes = absurd (cc)

pub no-line : (plan : Lines) (now next : Standing) (client : ℕ) → next_line plan now client ≡ None → after_one plan now client ≡ Some next → ⊥
no-line plan now next client none goes = none-some next (sym (ap (made_line now client) none) ∙ goes)
