-- A position after a client went.
use Rattle.std.proofs.Common.{◌≡◌, ℕ, Bool, true, false, not, ◌&&◌, sym, ap, ◌∙◌, subst, List, [], ◌∷◌, ◌++◌, Option, None, Some, unwrap_or, if◌then◌else◌, get_or, set}
use Rattle.std.proofs.lemmas.Bool.{and_from, and_parts}
use Rattle.command_core.specs.declared.answer.Answer.{Answer}
use Rattle.desk_core.specs.theorem.Answer.{is_refused}
use Rattle.desk_core.specs.theorem.Desk.{HasHistory}
use Rattle.explore_core.specs.declared.plan.Step.{Step}
use Rattle.explore_core.specs.declared.position.Position.{Position}
use Rattle.explore_core.specs.Schedule.{Lines, Standing, answer_now, history_with, is_due, made_by, next_line, place_after, after_line, made_line, after_one}
use Rattle.explore_core.specs.Search.{Answers, IsMade, IsAt, standing_after}

-- a line that is not due

pub none-due : (plan : Lines) (now : Standing) (client : ℕ) (step : Step) → next_line plan now client ≡ Some step → is_due now.made step.after ≡ false → after_one plan now client ≡ None
none-due plan now client step next due =
    ap (made_line now client) next
    ∙ ap (λ (b : Bool). if b && not (step.waits && is_refused (answer_now now.history step.command)) then Some (after_line now client step) else None) due

-- a line that is due

module _ (plan : Lines) (now : Standing) (client : ℕ) (step : Step) (given : Answer) (old new : Position) (at : IsAt old now) (next : next_line plan now client ≡ Some step)
    (due : is_due now.made step.after ≡ true) (made : IsMade old.desk step.command given new.desk) where
  given-is : given ≡ answer_now now.history step.command
  given-is = (made now.history at.desk).0

  after-by : (held : Bool) → (step.waits && is_refused given) ≡ held → after_one plan now client ≡ (if not held then Some (after_line now client step) else None)
  after-by held is =
      ap (made_line now client) next
      ∙ ap (λ (b : Bool). if b && not (step.waits && is_refused (answer_now now.history step.command)) then Some (after_line now client step) else None) due
      ∙ ap (λ (b : Bool). if not b then Some (after_line now client step) else None) (ap (λ (g : Answer). step.waits && is_refused g) (sym given-is) ∙ is)

  pub none-held : (step.waits && is_refused given) ≡ true → after_one plan now client ≡ None
  none-held held = after-by true held

  pub answers-free : (place : ℕ) → made_by now client ≡ place → (step.waits && is_refused given) ≡ false → Answers plan now client place given
  answers-free place here free = record {
    at = here;
    step = step;
    next = next;
    made = and_from (is_due now.made step.after) (not (step.waits && is_refused (answer_now now.history step.command))) due
        (ap not (ap (λ (g : Answer). step.waits && is_refused g) (sym given-is) ∙ free));
    answer = given-is;
  }

  pub IsAt-held : (step.waits && is_refused given) ≡ true → new.made.items ≡ old.made.items → IsAt new (standing_after plan now client)
  IsAt-held held same =
      let refused = (and_parts step.waits (is_refused given) held).1 in
      let stays : history_with now.history step.command ≡ now.history = ap (λ (b : Bool). if b then now.history else now.history ++ step.command ∷ []) (ap is_refused (sym given-is) ∙ refused) in
      subst (IsAt new) (sym (ap (λ (o : Option Standing). unwrap_or o now) (after-by true held)))
      (record { desk = subst (HasHistory new.desk) stays (made now.history at.desk).1; made = same ∙ at.made })

  pub IsAt-made : (step.waits && is_refused given) ≡ false → new.made.items ≡ set old.made.items client (place_after step (get_or old.made.items client 0) given) → IsAt new (standing_after plan now client)
  IsAt-made free set_is =
      subst (IsAt new) (sym (ap (λ (o : Option Standing). unwrap_or o now) (after-by false free)))
      (record { desk = (made now.history at.desk).1; made = set_is ∙ ap (λ (ps : List ℕ). set ps client (place_after step (get_or ps client 0) given)) at.made ∙ ap (λ (g : Answer). set now.made client (place_after step (made_by now client) g)) given-is })
