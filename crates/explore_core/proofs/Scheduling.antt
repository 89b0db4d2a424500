-- Where schedules lead.
use Rattle.std.proofs.Common.{◌≡◌, ℕ, Bool, true, false, refl, sym, ap, ◌∙◌, subst, List, [], ◌∷◌, ◌++◌, Option, None, Some, unwrap_or, if◌then◌else◌}
use Rattle.std.specs.Prelude.{All}
use Rattle.std.proofs.lemmas.List.Elements.{All-nil, All-head, All-tail, All-push}
use Rattle.std.proofs.lemmas.Option.{same_Some}
use Rattle.command_core.specs.declared.answer.Answer.{Answer}
use Rattle.command_core.specs.declared.command.Command.{Command}
use Rattle.command_core.specs.declared.command.Command.TheVariants as command
use Rattle.desk_core.specs.theorem.World.{World, empty_world, after}
use Rattle.desk_core.specs.theorem.Answer.{is_refused}
use Rattle.desk_core.specs.theorem.History.{world_from, world_of}
use Rattle.desk_core.specs.Sound.{IsSound}
use Rattle.explore_core.specs.declared.plan.Step.{Step}
use Rattle.explore_core.specs.Found.{CanBeExplored, RegistersNone}
use Rattle.explore_core.specs.Schedule.{Lines, Standing, Schedule, answer_now, history_with, history_along, beginning, next_line, made_by, can_be_made, after_line, made_line, after_one, Leads, Counts, ComesTo, GoesOn}
use Rattle.explore_core.specs.Search.{Answers, standing_after, standing_along}
use Rattle.explore_core.proofs.Covering.{sound-made, sound-along, sound-empty}

-- one more command

pub history_along-push : (history cs : List Command) (c : Command) → history_along history (cs ++ c ∷ []) ≡ history_with (history_along history cs) c
history_along-push history [] c = refl
history_along-push history (d ∷ cs) c = history_along-push (history_with history d) cs c

-- one more client

pub standing_along-push : (plan : Lines) (from : Standing) (schedule : Schedule) (client : ℕ) → standing_along plan from (schedule ++ client ∷ []) ≡ standing_after plan (standing_along plan from schedule) client
standing_along-push plan from [] client = refl
standing_along-push plan from (first ∷ schedule) client = standing_along-push plan (standing_after plan from first) schedule client

pub Leads-is : (plan : Lines) (from : Standing) (schedule : Schedule) (to : Standing) → Leads plan from schedule to → to ≡ standing_along plan from schedule
Leads-is plan from [] to leads = sym leads
Leads-is plan from (client ∷ schedule) to leads =
    Leads-is plan leads.0 schedule to leads.2 ∙ ap (λ o. standing_along plan (unwrap_or o from) schedule) (sym leads.1)

pub Leads-push : (plan : Lines) (from : Standing) (schedule : Schedule) (mid : Standing) (client : ℕ) (to : Standing) → Leads plan from schedule mid → after_one plan mid client ≡ Some to → Leads plan from (schedule ++ client ∷ []) to
Leads-push plan from [] mid client to leads goes = (to, ap (λ s. after_one plan s client) leads ∙ goes, refl)
Leads-push plan from (first ∷ schedule) mid client to leads goes = (leads.0, leads.1, Leads-push plan leads.0 schedule mid client to leads.2 goes)

pub Leads-split : (plan : Lines) (from : Standing) (schedule rest : Schedule) (to : Standing) → Leads plan from (schedule ++ rest) to → (mid : Standing) × Leads plan from schedule mid × Leads plan mid rest to
Leads-split plan from [] rest to leads = (from, refl, leads)
Leads-split plan from (first ∷ schedule) rest to leads =
    let split = Leads-split plan leads.0 schedule rest to leads.2 in
    (split.0, (leads.0, leads.1, split.1), split.2)

-- schedules that count

Counts-first : (plan : Lines) (from : Standing) (client : ℕ) (next : Standing) (schedule : Schedule) → GoesOn plan from client → after_one plan from client ≡ Some next → Counts plan next schedule → Counts plan from (client ∷ schedule)
Counts-first plan from client next schedule on goes counts =
    (on, λ later is. subst (λ (s : Standing). Counts plan s schedule) (same_Some next later (sym goes ∙ is)) counts)

Counts-push : (plan : Lines) (from : Standing) (schedule : Schedule) (mid : Standing) (client : ℕ) → Leads plan from schedule mid → Counts plan from schedule → GoesOn plan mid client → Counts plan from (schedule ++ client ∷ [])
Counts-push plan from [] mid client leads counts on = (subst (λ (s : Standing). GoesOn plan s client) (sym leads) on, λ next is. tt)
Counts-push plan from (first ∷ schedule) mid client leads counts on =
    Counts-first plan from first leads.0 (schedule ++ client ∷ []) counts.0 leads.1 (Counts-push plan leads.0 schedule mid client leads.2 (counts.1 leads.0 leads.1) on)

pub Counts-split : (plan : Lines) (from : Standing) (schedule rest : Schedule) (mid : Standing) → Leads plan from schedule mid → Counts plan from (schedule ++ rest) → Counts plan from schedule × Counts plan mid rest
Counts-split plan from [] rest mid leads counts = (tt, subst (λ (s : Standing). Counts plan s rest) leads counts)
Counts-split plan from (first ∷ schedule) rest mid leads counts =
    let split = Counts-split plan leads.0 schedule rest mid leads.2 (counts.1 leads.0 leads.1) in
    (Counts-first plan from first leads.0 schedule counts.0 leads.1 split.0, split.1)

pub Counts-append : (plan : Lines) (from : Standing) (schedule rest : Schedule) (mid : Standing) → Leads plan from schedule mid → Counts plan from schedule → Counts plan mid rest → Counts plan from (schedule ++ rest)
Counts-append plan from [] rest mid leads counts more = subst (λ (s : Standing). Counts plan s rest) (sym leads) more
Counts-append plan from (first ∷ schedule) rest mid leads counts more =
    Counts-first plan from first leads.0 (schedule ++ rest) counts.0 leads.1 (Counts-append plan leads.0 schedule rest mid leads.2 (counts.1 leads.0 leads.1) more)

pub comes-none : (plan : Lines) → ComesTo plan [] (beginning plan)
comes-none plan = record { leads = refl; counts = tt }

pub comes-push : (plan : Lines) (schedule : Schedule) (now : Standing) (client : ℕ) (to : Standing) → ComesTo plan schedule now → GoesOn plan now client → after_one plan now client ≡ Some to → ComesTo plan (schedule ++ client ∷ []) to
comes-push plan schedule now client to comes on goes = record {
  leads = Leads-push plan (beginning plan) schedule now client to comes.leads goes;
  counts = Counts-push plan (beginning plan) schedule now client comes.leads comes.counts on;
}

-- a client's line that is answered
pub after-answers : {plan : Lines} {now : Standing} {client place : ℕ} {given : Answer} (a : Answers plan now client place given) → after_one plan now client ≡ Some (after_line now client a.step)
after-answers {plan} {now} {client} a = ap (made_line now client) a.next ∙ ap (λ b. if b then Some (after_line now client a.step) else None) a.made

-- each schedule leads to a sound world

pub sound-leads : (plan : Lines) (from : Standing) (schedule : Schedule) (to : Standing) → Leads plan from schedule to → IsSound (world_of from.history) → IsSound (world_of to.history)
sound-leads plan from [] to leads sound = subst (λ (s : Standing). IsSound (world_of s.history)) leads sound
sound-leads plan from (client ∷ schedule) to leads sound =
    sound-leads plan leads.0 schedule to leads.2 (sound-made from client (next_line plan from client) leads.0 leads.1 sound)

pub sound-comes : (plan : Lines) (schedule : Schedule) (now : Standing) → ComesTo plan schedule now → IsSound (world_of now.history)
sound-comes plan schedule now comes = sound-leads plan (beginning plan) schedule now comes.leads (sound-along [] plan.first sound-empty)

-- no schedule registers a watch

with-by : (history : List Command) (c : Command) (r : Bool) → All RegistersNone history → RegistersNone c → All RegistersNone (if r then history else history ++ c ∷ [])
with-by history c true all none = all
with-by history c false all none = All-push RegistersNone history c all none

none-with : (history : List Command) (c : Command) → All RegistersNone history → RegistersNone c → All RegistersNone (history_with history c)
none-with history c all none = with-by history c (is_refused (answer_now history c)) all none

none-along : (history cs : List Command) → All RegistersNone history → All RegistersNone cs → All RegistersNone (history_along history cs)
none-along history [] all none = all
none-along history (c ∷ cs) all none = none-along (history_with history c) cs (none-with history c all (All-head RegistersNone c cs none)) (All-tail RegistersNone c cs none)

none-line : (s : Standing) (client : ℕ) (o : Option Step) (to : Standing) → ((step : Step) → o ≡ Some step → RegistersNone step.command) → made_line s client o ≡ Some to → All RegistersNone s.history → All RegistersNone to.history
none-line s client None to none goes all = absurd (cc)
none-line s client (Some step) to none goes all = by (can_be_made s step) goes
  where
    by : (b : Bool) → (if b then Some (after_line s client step) else None) ≡ Some to → All RegistersNone to.history
    by true goes = subst (λ (n : Standing). All RegistersNone n.history) (same_Some (after_line s client step) to goes) (none-with s.history step.command all (none step refl))
    by false goes = absurd (cc)

none-leads : (plan : Lines) → CanBeExplored plan → (from : Standing) (schedule : Schedule) (to : Standing) → Leads plan from schedule to → All RegistersNone from.history → All RegistersNone to.history
none-leads plan can from [] to leads all = subst (λ (s : Standing). All RegistersNone s.history) leads all
none-leads plan can from (client ∷ schedule) to leads all =
    none-leads plan can leads.0 schedule to leads.2 (none-line from client (next_line plan from client) leads.0 (can.lines client (made_by from client)) leads.1 all)

pub none-comes : (plan : Lines) → CanBeExplored plan → (schedule : Schedule) (now : Standing) → Leads plan (beginning plan) schedule now → All RegistersNone now.history
none-comes plan can schedule now leads = none-leads plan can (beginning plan) schedule now leads (none-along [] plan.first (All-nil RegistersNone) can.first)

-- so no watch is ever pending

pub record HasNoWatches (w : World) : Type 0 where
  pub watches : w.watches ≡ []
  pub made : w.watches_made ≡ 0

none-after : (w : World) (c : Command) → RegistersNone c → HasNoWatches w → HasNoWatches (after w c)
none-after w (command.Inc t n) none has = record { watches = rw has.watches refl; made = has.made }
none-after w (command.Shut t) none has = record { watches = rw has.watches refl; made = has.made }
none-after w (command.Unwatch cookie) none has = record { watches = rw has.watches refl; made = has.made }
none-after w (command.Watch f cookie) none has = absurd none
none-after w _ none has = record { watches = has.watches; made = has.made }

none-from : (w : World) (cs : List Command) → All RegistersNone cs → HasNoWatches w → HasNoWatches (world_from w cs)
none-from w [] all has = has
none-from w (c ∷ cs) all has = none-from (after w c) cs (All-tail RegistersNone c cs all) (none-after w c (All-head RegistersNone c cs all) has)

pub no_watches-of : (history : List Command) → All RegistersNone history → HasNoWatches (world_of history)
no_watches-of history all = none-from empty_world history all (record { watches = refl; made = refl })
