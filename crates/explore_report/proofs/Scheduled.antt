-- What a desk has made, command by command and line by line.
use Rattle.std.proofs.Common.{◌≡◌, ℕ, ◌+◌, ◌<◌, List, [], ◌∷◌, ◌++◌, None, Some, length, get_or, set, take, refl, sym, ap, subst, ◌∙◌, append_assoc, append-nil}
use Rattle.std.proofs.lemmas.List.{take_more}
use Rattle.command_core.specs.declared.answer.Answer.{Answer}
use Rattle.command_core.specs.declared.command.Command.{Command}
use Rattle.desk_core.specs.theorem.Desk.{HasHistory}
use Rattle.desk_core.specs.theorem.World.{empty_world}
use Rattle.explore_core.specs.Alike.{answers_along}
use Rattle.explore_core.specs.Schedule.{Lines, Schedule, Standing, answer_now, beginning, history_along, history_with, made_by, next_line, place_after}
use Rattle.explore_core.specs.Search.{IsMade}
use Rattle.explore_core.specs.declared.plan.Step.{Step}
use Rattle.explore_core.proofs.Scheduling.{history_along-push}
use Rattle.explore_report.specs.declared.context.Section.{Section}
use Rattle.explore_report.specs.declared.schedule.Making.{Making}
use Rattle.explore_report.specs.Making.{HasMade, after_step, case_commands, case_standing, command_at, command_of, commands_along, fresh, standing_along, standing_past, standing_with}
use Rattle.explore_report.proofs.Replaying.{answers-push}

-- what else a making keeps does not matter
pub made-same : (commands : List Command) (now : Standing) (old new : Making) → HasMade commands now old → new.desk ≡ old.desk
    → new.made.items ≡ old.made.items → new.answers.items ≡ old.answers.items → HasMade commands now new
made-same commands now old new has desk made answers = record {
  desk = subst (λ d. HasHistory d now.history) (sym desk) has.desk;
  made = made ∙ has.made;
  answers = answers ∙ has.answers;
  history = has.history;
}

pub made-one : (commands : List Command) (now : Standing) (old new : Making) (c : Command) (given : Answer) → HasMade commands now old
    → IsMade old.desk c given new.desk → new.made.items ≡ old.made.items → new.answers.items ≡ old.answers.items ++ given ∷ []
    → HasMade (commands ++ c ∷ []) (standing_past now (c ∷ [])) new
made-one commands now old new c given has made same pushed =
    let is = made now.history has.desk in
    record {
      desk = is.1;
      made = same ∙ has.made;
      answers =
          pushed
          ∙ ap (λ before. before ++ given ∷ []) has.answers
          ∙ ap (λ a. answers_along empty_world commands ++ a ∷ []) (is.0 ∙ ap (λ h. answer_now h c) has.history)
          ∙ sym (answers-push [] commands c);
      history = ap (λ h. history_with h c) has.history ∙ sym (history_along-push [] commands c);
    }

-- no command
pub own-none : (commands : List Command) (now : Standing) (making : Making) → HasMade commands now making → HasMade (commands ++ []) now making
own-none commands now making has = subst (λ cs. HasMade cs now making) (sym (append-nil commands)) has

-- commands of no client

pub past-none : (commands : List Command) (now : Standing) (making : Making) → HasMade commands now making
    → HasMade (commands ++ []) (standing_past now []) making
past-none commands now making has =
    subst (λ cs. HasMade cs (standing_past now []) making) (sym (append-nil commands))
    (record { desk = has.desk; made = has.made; answers = has.answers; history = has.history })

past-push : (commands own : List Command) (c : Command) (now : Standing) (making : Making)
    → HasMade ((commands ++ own) ++ c ∷ []) (standing_past (standing_past now own) (c ∷ [])) making
    → HasMade (commands ++ (own ++ c ∷ [])) (standing_past now (own ++ c ∷ [])) making
past-push commands own c now making has =
    let along = history_along-push now.history own c in
    let all = append_assoc commands own (c ∷ []) in
    record {
      desk = subst (HasHistory making.desk) (sym along) has.desk;
      made = has.made;
      answers = has.answers ∙ ap (answers_along empty_world) all;
      history = along ∙ has.history ∙ ap (history_along []) all;
    }

pub past-next : (commands own : List Command) (i : ℕ) (c : Command) (now : Standing) (making : Making) → i < length own → c ≡ get_or own i c
    → HasMade ((commands ++ take i own) ++ c ∷ []) (standing_past (standing_past now (take i own)) (c ∷ [])) making
    → HasMade (commands ++ take (i + 1) own) (standing_past now (take (i + 1) own)) making
past-next commands own i c now making low at has =
    let more : take (i + 1) own ≡ take i own ++ c ∷ [] = take_more own i c low ∙ ap (λ d. take i own ++ d ∷ []) (sym at) in
    subst (λ cs. HasMade (commands ++ cs) (standing_past now cs) making) (sym more) (past-push commands (take i own) c now making has)

-- the commands that come first, on a fresh desk
pub first-made : (plan : Lines) (clients : ℕ) (making : Making) → clients ≡ length plan.clients
    → HasMade plan.first (standing_past (fresh clients) plan.first) making → HasMade plan.first (beginning plan) making
first-made plan clients making count has = subst (λ n. HasMade plan.first (standing_past (fresh n) plan.first) making) count has

-- a line of a client, if it is not done

pub line-none : (plan : Lines) (commands : List Command) (now : Standing) (client : ℕ) (making : Making) → next_line plan now client ≡ None
    → HasMade commands now making → HasMade (commands ++ command_at plan now client) (standing_with plan now client) making
line-none plan commands now client making none has =
    subst (λ o. HasMade (commands ++ command_of o) (after_step now client o) making) (sym none)
    (own-none commands now making has)

pub line-some : (plan : Lines) (commands : List Command) (now : Standing) (client next : ℕ) (step : Step) (mid new : Making) → next_line plan now client ≡ Some step
    → HasMade (commands ++ step.command ∷ []) (standing_past now (step.command ∷ [])) mid
    → next ≡ place_after step (made_by now client) (answer_now now.history step.command)
    → new.desk ≡ mid.desk → new.answers.items ≡ mid.answers.items → new.made.items ≡ set mid.made.items client next
    → HasMade (commands ++ command_at plan now client) (standing_with plan now client) new
line-some plan commands now client next step mid new some has counted desk answers made =
    subst (λ o. HasMade (commands ++ command_of o) (after_step now client o) new) (sym some) (record {
      desk = subst (λ d. HasHistory d (history_with now.history step.command)) (sym desk) has.desk;
      made = made ∙ ap (λ ns. set ns client next) has.made ∙ ap (set now.made client) counted;
      answers = answers ∙ has.answers;
      history = has.history;
    })

-- a schedule, and then the line that the section's client comes to
pub case-made : (plan : Lines) (schedule given : Schedule) (making : Making) (section own : Section) → given ≡ schedule → own ≡ section
    → HasMade (case_commands plan own given) (case_standing plan own given) making
    → HasMade (case_commands plan section schedule) (case_standing plan section schedule) making
case-made plan schedule given making section own same is has =
    subst (λ s. HasMade (case_commands plan s schedule) (case_standing plan s schedule) making) is
    (subst (λ (s : Schedule). HasMade (case_commands plan own s) (case_standing plan own s) making) same has)

-- lines of clients, one after another

commands-push : (plan : Lines) (now : Standing) (schedule : Schedule) (client : ℕ)
    → commands_along plan now (schedule ++ client ∷ []) ≡ commands_along plan now schedule ++ command_at plan (standing_along plan now schedule) client
commands-push plan now [] client = append-nil (command_at plan now client)
commands-push plan now (first ∷ schedule) client =
    let next = standing_with plan now first in
    let own = command_at plan now first in
    ap (λ cs. own ++ cs) (commands-push plan next schedule client)
    ∙ sym (append_assoc own (commands_along plan next schedule) (command_at plan (standing_along plan next schedule) client))

standing-push : (plan : Lines) (now : Standing) (schedule : Schedule) (client : ℕ)
    → standing_along plan now (schedule ++ client ∷ []) ≡ standing_with plan (standing_along plan now schedule) client
standing-push plan now [] client = refl
standing-push plan now (first ∷ schedule) client = standing-push plan (standing_with plan now first) schedule client

pub lines-none : (plan : Lines) (commands : List Command) (now : Standing) (making : Making) → HasMade commands now making
    → HasMade (commands ++ commands_along plan now []) (standing_along plan now []) making
lines-none plan commands now making has = own-none commands now making has

pub lines-next : (plan : Lines) (commands : List Command) (now : Standing) (schedule : Schedule) (i d : ℕ) (making : Making) → i < length schedule
    → HasMade ((commands ++ commands_along plan now (take i schedule)) ++ command_at plan (standing_along plan now (take i schedule)) (get_or schedule i d))
    (standing_with plan (standing_along plan now (take i schedule)) (get_or schedule i d)) making
    → HasMade (commands ++ commands_along plan now (take (i + 1) schedule)) (standing_along plan now (take (i + 1) schedule)) making
lines-next plan commands now schedule i d making low has =
    let before = take i schedule in
    let client = get_or schedule i d in
    let mid = standing_along plan now before in
    let more : take (i + 1) schedule ≡ before ++ client ∷ [] = take_more schedule i d low in
    let all = ap (λ cs. commands ++ cs) (commands-push plan now before client) ∙ sym (append_assoc commands (commands_along plan now before) (command_at plan mid client)) in
    subst (λ (s : Schedule). HasMade (commands ++ commands_along plan now s) (standing_along plan now s) making) (sym more)
    (subst (λ cs. HasMade cs (standing_along plan now (before ++ client ∷ [])) making) (sym all)
    (subst (λ to. HasMade ((commands ++ commands_along plan now before) ++ command_at plan mid client) to making) (sym (standing-push plan now before client)) has))
