-- A visit of a state, on which one client after another tries its next line.
use Rattle.std.proofs.Common.{◌≡◌, ℕ, Bool, true, false, not, ◌||◌, refl, sym, ap, ◌∙◌, subst, List, Option, None, Some, unwrap_or, if◌then◌else◌, set}
use Rattle.std.proofs.lemmas.Bool.{false≢true}
use Rattle.std.proofs.lemmas.List.{set-set, set-get_or}
use Rattle.std.proofs.lemmas.Option.{same_Some}
use Rattle.command_core.specs.declared.answer.Answer.{Answer}
use Rattle.command_core.specs.declared.command.Command.{Command}
use Rattle.command_core.specs.declared.command.Command.TheVariants as command
use Rattle.desk_core.specs.theorem.Answer.{answer_to, is_refused}
use Rattle.desk_core.specs.theorem.Desk.{DeskState, Holds, HasHistory}
use Rattle.desk_core.specs.theorem.History.{IsHistory, world_of}
use Rattle.desk_core.specs.theorem.World.{World, after}
use Rattle.explore_core.specs.declared.plan.Step.{Step}
use Rattle.explore_core.specs.declared.position.Position.{Position}
use Rattle.explore_core.specs.Alike.{after_answer}
use Rattle.explore_core.specs.Schedule.{Lines, Standing, answer_now, history_with, made_by, next_line, place_after, after_line, after_one}
use Rattle.explore_core.specs.Search.{Answers, IsAt, keeps_world, stays, standing_after}
use Rattle.explore_core.proofs.Covering.{world-with}
use Rattle.explore_core.proofs.Scheduling.{after-answers}

-- a command that only asks, or is refused, leaves the world

keeps-world : (w : World) (c : Command) → keeps_world c ≡ true → after w c ≡ w
keeps-world w (command.Value t) is = refl
keeps-world w (command.Wait f) is = refl
keeps-world w (command.Info f) is = refl
keeps-world w (command.Test b u) is = refl
keeps-world w (command.Trim b) is = refl
keeps-world w (command.Show b) is = refl
keeps-world w command.Report is = refl
keeps-world w _ is = absurd (false≢true is)

or-false : (a : Bool) → (a || false) ≡ true → a ≡ true
or-false true is = refl
or-false false is = absurd (false≢true is)

stays-by : (w : World) (c : Command) (refused : Bool) → (keeps_world c || refused) ≡ true → (if refused then w else after w c) ≡ w
stays-by w c true is = refl
stays-by w c false is = keeps-world w c (or-false (keeps_world c) is)

pub stays-world : (w : World) (c : Command) (given : Answer) → given ≡ answer_to w c → stays c given ≡ true → after_answer w c ≡ w
stays-world w c given is same = subst (λ (g : Answer). (if is_refused g then w else after w c) ≡ w) is (stays-by w c (is_refused given) same)

-- so the desk has the history before the command too
back-history : (d : DeskState) (history : List Command) (c : Command) (given : Answer) → IsHistory history → given ≡ answer_now history c → stays c given ≡ true
    → HasHistory d (history_with history c) → HasHistory d history
back-history d history c given accepted is same has = record {
  accepted = accepted;
  holds = subst (Holds d) (world-with history c ∙ stays-world (world_of history) c given is same) has.holds;
}

pub stays-here : (stays : Bool) → not stays ≡ false → stays ≡ true
stays-here true is = refl
stays-here false is = absurd (false≢true (sym is))

-- a line that is taken back
pub IsAt-back : (plan : Lines) (now : Standing) (client place : ℕ) (given : Answer) (old new : Position) → IsHistory now.history → Answers plan now client place given
    → (step : Step) → next_line plan now client ≡ Some step → stays step.command given ≡ true → IsAt old (standing_after plan now client) → new.desk ≡ old.desk → new.made.items ≡ set old.made.items client place → IsAt new now
IsAt-back plan now client place given old new accepted a line next same at desk made =
    let step = a.step in
    let there : IsAt old (after_line now client step) = subst (IsAt old) (ap (λ (o : Option Standing). unwrap_or o now) (after-answers a)) at in
    let kept : stays step.command given ≡ true = subst (λ (s : Step). stays s.command given ≡ true) (same_Some line step (sym next ∙ a.next)) same in
    record {
      desk = subst (λ (d : DeskState). HasHistory d now.history) (sym desk) (back-history old.desk now.history step.command given accepted a.answer kept there.desk);
      made = made ∙ ap (λ (ps : List ℕ). set ps client place) there.made ∙ set-set now.made client (place_after step (made_by now client) (answer_now now.history step.command)) place
          ∙ ap (set now.made client) (sym a.at) ∙ set-get_or now.made client 0;
    }

-- a client that makes no line
pub IsAt-stayed : (plan : Lines) (now : Standing) (client : ℕ) {position : Position} → after_one plan now client ≡ None → IsAt position (standing_after plan now client) → IsAt position now
IsAt-stayed plan now client {position} none at = subst (IsAt position) (ap (λ (o : Option Standing). unwrap_or o now) none) at
