-- What the commands of a schedule are answered on a fresh desk.
use Rattle.std.proofs.Common.{◌≡◌, ℕ, Bool, true, false, refl, sym, ap, ◌∙◌, List, [], ◌∷◌, ◌++◌, Option, None, Some, if◌then◌else◌, slice_get, take}
use Rattle.std.proofs.lemmas.Option.{none-some, same_Some}
use Rattle.command_core.specs.declared.answer.Answer.{Answer}
use Rattle.command_core.specs.declared.command.Command.{Command}
use Rattle.desk_core.specs.theorem.History.{world_of}
use Rattle.desk_core.specs.theorem.World.{empty_world}
use Rattle.explore_core.proofs.Covering.{world-with}
use Rattle.explore_core.specs.declared.plan.Step.{Step}
use Rattle.explore_core.specs.Alike.{answers_along}
use Rattle.explore_core.specs.Schedule.{ComesTo, IsAnswered, IsEndAnswered, Leads, Lines, Schedule, Standing, after_line, answer_now, beginning, can_be_made, history_along, history_with, made_line, next_line}
use Rattle.explore_report.specs.Making.{after_step, command_of, commands_along, commands_to, commands_with, standing_along, standing_to, standing_with}

-- the answer of the last command
pub answers-push : (history cs : List Command) (c : Command)
    → answers_along (world_of history) (cs ++ c ∷ []) ≡ answers_along (world_of history) cs ++ answer_now (history_along history cs) c ∷ []
answers-push history [] c = refl
answers-push history (d ∷ cs) c =
    let next = history_with history d in
    ap (λ bs. answer_now history d ∷ bs) (
    ap (λ w. answers_along w (cs ++ c ∷ [])) (sym (world-with history d))
    ∙ answers-push next cs c
    ∙ ap (λ w. answers_along w cs ++ answer_now (history_along next cs) c ∷ []) (world-with history d)
    )

history_along-append : (history cs ds : List Command) → history_along history (cs ++ ds) ≡ history_along (history_along history cs) ds
history_along-append history [] ds = refl
history_along-append history (c ∷ cs) ds = history_along-append (history_with history c) cs ds

-- one line of a schedule

made-some : (b : Bool) (a next : Standing) → (if b then Some a else None) ≡ Some next → a ≡ next
made-some true a next is = same_Some a next is
made-some false a next is = absurd (none-some next is)

one-standing : (now : Standing) (client : ℕ) (o : Option Step) (next : Standing) → made_line now client o ≡ Some next → after_step now client o ≡ next
one-standing now client None next is = absurd (none-some next is)
one-standing now client (Some step) next is = made-some (can_be_made now step) (after_line now client step) next is

one-history : (now : Standing) (client : ℕ) (o : Option Step) → history_along now.history (command_of o) ≡ (after_step now client o).history
one-history now client None = refl
one-history now client (Some step) = refl

-- a schedule's commands lead to where the schedule leads

leads-standing : (plan : Lines) (from : Standing) (schedule : Schedule) (to : Standing) → Leads plan from schedule to → standing_along plan from schedule ≡ to
leads-standing plan from [] to leads = leads
leads-standing plan from (client ∷ schedule) to leads =
    ap (λ s. standing_along plan s schedule) (one-standing from client (next_line plan from client) leads.0 leads.1)
    ∙ leads-standing plan leads.0 schedule to leads.2

along-history : (plan : Lines) (from : Standing) (schedule : Schedule)
    → history_along from.history (commands_along plan from schedule) ≡ (standing_along plan from schedule).history
along-history plan from [] = refl
along-history plan from (client ∷ schedule) =
    let o = next_line plan from client in
    let next = standing_with plan from client in
    let rest = commands_along plan next schedule in
    history_along-append from.history (command_of o) rest
    ∙ ap (λ history. history_along history rest) (one-history from client o)
    ∙ along-history plan next schedule

comes-standing : (plan : Lines) (schedule : Schedule) (now : Standing) → ComesTo plan schedule now → standing_to plan schedule ≡ now
comes-standing plan schedule now comes = leads-standing plan (beginning plan) schedule now comes.leads

comes-history : (plan : Lines) (schedule : Schedule) (now : Standing) → ComesTo plan schedule now → history_along [] (commands_to plan schedule) ≡ now.history
comes-history plan schedule now comes =
    history_along-append [] plan.first (commands_along plan (beginning plan) schedule)
    ∙ along-history plan (beginning plan) schedule
    ∙ ap (λ (s : Standing). s.history) (comes-standing plan schedule now comes)

-- what the command is answered after others that come to that history
answered-after : (cs : List Command) (history : List Command) (c : Command) (given : Answer) → history_along [] cs ≡ history → given ≡ answer_now history c
    → answers_along empty_world (cs ++ c ∷ []) ≡ answers_along empty_world cs ++ given ∷ []
answered-after cs history c given along is =
    answers-push [] cs c
    ∙ ap (λ a. answers_along empty_world cs ++ a ∷ []) (ap (λ h. answer_now h c) along ∙ sym is)

pub line-replayed : (plan : Lines) (schedule : Schedule) (client place : ℕ) (given : Answer) → IsAnswered plan schedule client place given
    → answers_along empty_world (commands_with plan schedule client) ≡ answers_along empty_world (commands_to plan schedule) ++ given ∷ []
line-replayed plan schedule client place given answered =
    let line : next_line plan (standing_to plan schedule) client ≡ Some answered.step =
    ap (λ now. next_line plan now client) (comes-standing plan schedule answered.now answered.comes) ∙ answered.next in
    ap (λ o. answers_along empty_world (commands_to plan schedule ++ command_of o)) line
    ∙ answered-after (commands_to plan schedule) answered.now.history answered.step.command given
    (comes-history plan schedule answered.now answered.comes) answered.answer

pub end-replayed : (plan : Lines) (schedule : Schedule) (place : ℕ) (given : Answer) (command : Command) → IsEndAnswered plan schedule place given
    → slice_get plan.last place ≡ Some command
    → answers_along empty_world ((commands_to plan schedule ++ take place plan.last) ++ command ∷ [])
    ≡ answers_along empty_world (commands_to plan schedule ++ take place plan.last) ++ given ∷ []
end-replayed plan schedule place given command answered at =
    let before = take place plan.last in
    let same : answered.command ≡ command = same_Some answered.command command (sym answered.at ∙ at) in
    answered-after (commands_to plan schedule ++ before) (history_along answered.now.history before) command given
    (history_along-append [] (commands_to plan schedule) before
    ∙ ap (λ history. history_along history before) (comes-history plan schedule answered.now answered.comes))
    (answered.answer ∙ ap (answer_now (history_along answered.now.history before)) same)
