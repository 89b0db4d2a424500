-- What a client does at a state, and what the search keeps of it.
use Rattle.std.proofs.Common.{◌≡◌, ℕ, ◌+◌, ◌<◌, ◌≤◌, true, false, refl, sym, ap, ◌∙◌, subst, List, [], ◌∷◌, ◌++◌, length, length-append, map, take, slice_get, Option, None, Some, is_some, option_map, unwrap_or, get_or, replicate, arith}
use Rattle.std.specs.Prelude.{All, IsSome, Vec}
use Rattle.std.specs.Global.{Global}
use Rattle.std.proofs.lemmas.Bool.{false≢true}
use Rattle.std.proofs.lemmas.Option.{same_Some}
use Rattle.std.proofs.lemmas.List.{take_more, length-map}
use Rattle.std.proofs.lemmas.List.Elements.{All-nil}
use Rattle.command_core.specs.declared.answer.Answer.{Answer}
use Rattle.command_core.specs.declared.command.Command.{Command}
use Rattle.explore_core.specs.declared.plan.Step.{Step}
use Rattle.explore_core.specs.declared.found.Found.{Found}
use Rattle.explore_core.specs.declared.position.Position.{Position}
use Rattle.explore_core.specs.declared.state.State.{State}
use Rattle.explore_core.specs.declared.tour.Move.{Move}
use Rattle.explore_core.specs.declared.tour.Move.TheVariants as move
use Rattle.explore_core.specs.Found.{CanBeExplored, IsTrue, IsAll, Lists}
use Rattle.explore_core.specs.Expects.{is_expected}
use Rattle.explore_core.specs.Schedule.{Lines, Standing, Schedule, answer_now, history_with, history_along, lines_of, made_by, next_line, after_one, is_in_block, ComesTo, GoesOn, IsAnswered, IsExpected, MayGo}
use Rattle.explore_core.specs.Search.{Look, Seen, Shows, AreAsked, has_name, is_asked, standing_of, standing_at, states_of, standing_after, Answers, Grows, HasLike, IsAt, IsReached, IsState, IsSeen, IsTried, AreTried, AreMoves, Keeps, Records}
use Rattle.explore_core.proofs.Asking.{Shows-same}
use Rattle.explore_core.proofs.Scheduling.{after-answers, comes-none, history_along-push}
use Rattle.explore_core.proofs.Finding.{Grows-given, HasLike-kept, IsFollowed-none, IsFollowed-made, IsFollowed-held, none-next, comes-more}

-- the first state, and a level without any

pub first-state : (plan : Lines) (state : State) → state.schedule.items ≡ [] → state.made.items ≡ replicate (length plan.clients) 0 → IsState plan 0 state
first-state plan state none made = record {
  deep = ap length none;
  comes = subst (λ (s : Schedule). ComesTo plan s (standing_of plan s)) (sym none) (comes-none plan);
  made = made ∙ ap (λ (s : Schedule). (standing_of plan s).made) (sym none);
}

pub none-seen-yet : (plan : Lines) (depth : ℕ) (seen : List Seen) → seen ≡ [] → All (IsSeen plan depth) seen
none-seen-yet plan depth seen none = subst (All (IsSeen plan depth)) (sym none) (All-nil (IsSeen plan depth))

-- what is seen after a client's line

pub seen-after : {plan : Lines} (asked : List (List ℕ)) {schedule : Schedule} {state : State} {look : Look} {position : Position}
    → AreAsked plan asked → state.schedule.items ≡ schedule → state.made.items ≡ position.made.items → Shows (has_name asked) look position.desk
    → ComesTo plan schedule (standing_of plan schedule) → IsAt position (standing_of plan schedule) → IsSeen plan (length schedule) (record { state = state; look = look })
seen-after {plan} asked {schedule} {state} {look} {position} are more made shows comes at =
    let here = subst (λ (s : Schedule). IsAt position (standing_of plan s)) (sym more) at in
    record {
      state = record {
        deep = ap length more;
        comes = subst (λ (s : Schedule). ComesTo plan s (standing_of plan s)) (sym more) comes;
        made = made ∙ here.made;
      };
      desk = position.desk;
      history = here.desk;
      look = Shows-same (has_name asked) (is_asked plan) are shows;
    }

-- what a client does

pub reached-made : (plan : Lines) (schedule : Schedule) {client : ℕ} {seen : Seen} {position : Position}
    → ComesTo plan schedule (standing_of plan schedule) → GoesOn plan (standing_of plan schedule) client
    → after_one plan (standing_of plan schedule) client ≡ Some (standing_after plan (standing_of plan schedule) client)
    → IsAt position (standing_after plan (standing_of plan schedule) client) → seen.state.schedule.items ≡ schedule ++ client ∷ []
    → (ComesTo plan (schedule ++ client ∷ []) (standing_of plan (schedule ++ client ∷ [])) → IsAt position (standing_of plan (schedule ++ client ∷ []))
    → IsSeen plan (length (schedule ++ client ∷ [])) seen)
    → IsReached plan schedule client seen
reached-made plan schedule {client} {seen} {position} comes on goes at kept make =
    let now = standing_of plan schedule in
    let more : Schedule = schedule ++ client ∷ [] in
    let next = comes-more plan schedule client (standing_after plan now client) comes on goes in
    let size : length more ≡ length schedule + 1 = length-append schedule (client ∷ []) in
    (goes ∙ ap Some (next.0 ∙ ap (standing_of plan) (sym kept)), subst (λ n. IsSeen plan n seen) size (make next.1 (subst (IsAt position) next.0 at)))

pub next-here : (plan : Lines) (state : State) (client : ℕ) {place : ℕ} {made : List ℕ} {next : Option Step} → made ≡ (standing_at plan state).made → place ≡ get_or made client 0
    → slice_get (lines_of plan client) place ≡ next → (made_by (standing_at plan state) client ≡ place) × (next_line plan (standing_at plan state) client ≡ next)
next-here plan state client {place = place} made at is =
    let here : made_by (standing_at plan state) client ≡ place = sym (ap (λ (ps : List ℕ). get_or ps client 0) made) ∙ sym at in
    (here, ap (slice_get (lines_of plan client)) here ∙ is)

-- what is listed and kept of it

module _ {plan : Lines} {state : State} {client : ℕ} where
  pub tried-done : (found : Found) (next : List State) → next_line plan (standing_at plan state) client ≡ None → IsTried plan found next state client move.Done
  tried-done found next none = record { followed = IsFollowed-none plan found next (standing_at plan state) client (none-next plan (standing_at plan state) client none); is = none }

  pub tried-waits : (found : Found) (next : List State) → after_one plan (standing_at plan state) client ≡ None → IsSome (next_line plan (standing_at plan state) client)
      → IsTried plan found next state client move.Waits
  tried-waits found next held some = record { followed = IsFollowed-none plan found next (standing_at plan state) client held; is = (λ may. held, some) }

  -- another client is inside a block
  pub tried-held : (found : Found) (next : List State) → (MayGo plan (standing_at plan state).made client → ⊥) → IsSome (next_line plan (standing_at plan state) client)
      → IsTried plan found next state client move.Waits
  tried-held found next held some = record { followed = IsFollowed-held plan found next (standing_at plan state) client held; is = (λ may. absurd (held may), some) }

module _ (plan : Lines) (state : State) {client place : ℕ} {given : Answer} (a : Answers plan (standing_at plan state) client place given) where
  pub made-goes : after_one plan (standing_at plan state) client ≡ Some (standing_after plan (standing_at plan state) client)
  made-goes = after-answers a ∙ ap Some (ap (λ (o : Option Standing). unwrap_or o (standing_at plan state)) (sym (after-answers a)))

  module _ (line : Step) (is : next_line plan (standing_at plan state) client ≡ Some line) where
    -- the answer of that line
    given-is : answer_now (standing_at plan state).history line.command ≡ given
    given-is = ap (λ (s : Step). answer_now (standing_at plan state).history s.command) (same_Some line a.step (sym is ∙ a.next)) ∙ sym a.answer

    pub expected-here : is_expected given line.expects ≡ true → IsExpected plan (standing_at plan state) client
    expected-here is_right = λ step next.
        subst (λ (s : Step). is_expected (answer_now (standing_at plan state).history s.command) s.expects ≡ true) (same_Some line step (sym is ∙ next)) (ap (λ g. is_expected g line.expects) given-is ∙ is_right)

    -- no schedule goes on after the line
    pub tried-ended : (found : Found) (next : List State) → MayGo plan (standing_at plan state).made client → Lists found.given.items client place given → is_expected given line.expects ≡ false → IsTried plan found next state client move.Alone
    tried-ended found next may lists isnt = record {
      followed = IsFollowed-made plan found next (standing_at plan state) client place given (standing_after plan (standing_at plan state) client) a made-goes lists
          (λ on. absurd (false≢true (sym isnt ∙ sym (ap (λ g. is_expected g line.expects) given-is) ∙ on.expected line is)));
      is = (may, standing_after plan (standing_at plan state) client, made-goes);
    }

    module _ (found : Found) (next : List State) (may : MayGo plan (standing_at plan state).made client) (lists : Lists found.given.items client place given) (has : HasLike plan next (standing_after plan (standing_at plan state) client)) where
      -- a client that is inside a block after its line
      pub tried-inside : IsTried plan found next state client move.Alone
      tried-inside = record {
        followed = IsFollowed-made plan found next (standing_at plan state) client place given (standing_after plan (standing_at plan state) client) a made-goes lists (λ on. has);
        is = (may, standing_after plan (standing_at plan state) client, made-goes);
      }

      pub tried-made : is_expected given line.expects ≡ true → is_in_block plan (standing_after plan (standing_at plan state) client).made client ≡ false → IsTried plan found next state client move.Goes
      tried-made is_right outside = record {
        followed = IsFollowed-made plan found next (standing_at plan state) client place given (standing_after plan (standing_at plan state) client) a made-goes lists (λ on. has);
        is = (
          (may, standing_after plan (standing_at plan state) client, made-goes),
          λ may later goes. record {
            expected = expected-here is_right;
            outside = subst (λ (s : Standing). is_in_block plan s.made client ≡ false) (same_Some (standing_after plan (standing_at plan state) client) later (sym made-goes ∙ goes)) outside;
          },
        );
      }

module _ {plan : Lines} {state : State} {schedule : Schedule} {client : ℕ} (is : schedule ≡ state.schedule.items) where
  pub Grows-answered : {depth place : ℕ} {given : Answer} → IsState plan depth state → MayGo plan (standing_at plan state).made client → Answers plan (standing_at plan state) client place given
      → (old new : Found) → Records old.given.items new.given.items client place given schedule → new.ended ≡ old.ended → new.races ≡ old.races → new.stuck ≡ old.stuck → new.states ≡ old.states → new.covered ≡ old.covered → Grows plan depth old new
  Grows-answered {depth} {place} {given} from may a old new records ended races stuck states covered =
      let answered : IsAnswered plan state.schedule.items client place given =
      record { now = standing_at plan state; comes = from.comes; may = may; at = a.at; step = a.step; next = a.next; made = a.made; answer = a.answer } in
      Grows-given plan depth old new client place given schedule records (subst (λ (s : Schedule). IsAnswered plan s client place given) (sym is) answered) ended races stuck states covered

  module _ {depth : ℕ} (from : IsState plan depth state) (on : GoesOn plan (standing_at plan state) client) (goes : after_one plan (standing_at plan state) client ≡ Some (standing_after plan (standing_at plan state) client)) where
    pub later-reached : {later : Seen} {position : Position} → IsAt position (standing_after plan (standing_at plan state) client) → later.state.schedule.items ≡ schedule ++ client ∷ []
        → (ComesTo plan (schedule ++ client ∷ []) (standing_of plan (schedule ++ client ∷ [])) → IsAt position (standing_of plan (schedule ++ client ∷ []))
        → IsSeen plan (length (schedule ++ client ∷ [])) later)
        → IsReached plan state.schedule.items client later
    later-reached {later} {position} at kept make =
        subst (λ (s : Schedule). later.state.schedule.items ≡ s ++ client ∷ []
        → (ComesTo plan (s ++ client ∷ []) (standing_of plan (s ++ client ∷ [])) → IsAt position (standing_of plan (s ++ client ∷ [])) → IsSeen plan (length (s ++ client ∷ [])) later)
        → IsReached plan state.schedule.items client later) (sym is) (reached-made plan state.schedule.items from.comes on goes at) kept make

    module _ {later : Seen} (r : IsReached plan state.schedule.items client later) where
      pub later-seen : IsSeen plan (depth + 1) later
      later-seen = subst (λ n. IsSeen plan (n + 1) later) from.deep r.1

      pub later-kept : {old new : List Seen} → CanBeExplored plan → All (IsSeen plan (depth + 1)) old → Keeps old later new → HasLike plan (states_of new) (standing_after plan (standing_at plan state) client)
      later-kept {old} {new} can all keeps =
          let to = same_Some (standing_after plan (standing_at plan state) client) (standing_at plan later.state) (sym goes ∙ r.0) in
          subst (HasLike plan (states_of new)) (sym to) (HasLike-kept can all keeps later-seen)

-- of some clients, the first of them

fewer : (plan : Lines) (now : Standing) (n m : ℕ) (moves : Move) → m ≤ n → AreMoves plan now n moves → AreMoves plan now m moves
fewer plan now n m move.Done less are = λ client few. are client (omega (arith, few, less))
fewer plan now n m move.Waits less are = (λ client few. are.0 client (omega (arith, few, less)), are.1, are.2)
fewer plan now n m move.Goes less are = are
fewer plan now n m move.Alone less are = are

pub AreTried-fewer : {plan : Lines} {found : Found} {next : List State} {state : State} {n m : ℕ} {moves : Move} → m ≤ n → AreTried plan found next state n moves → AreTried plan found next state m moves
AreTried-fewer {plan} {found} {next} {state} {n} {m} {moves} less tried = record {
  followed = λ client few. tried.followed client (omega (arith, few, less));
  are = fewer plan (standing_at plan state) n m moves less tried.are;
}

-- the schedule that is shown

pub some-stuck : (o : Option (Vec ℕ Global)) → is_some o ≡ true → (shown : List ℕ) × (option_map (λ (v : Vec ℕ Global). v.items) o ≡ Some shown)
some-stuck None is = absurd (false≢true is)
some-stuck (Some v) is = (v.items, refl)

pub not-stuck : (o : Option (Vec ℕ Global)) → is_some o ≡ false → o ≡ None
not-stuck None is = refl
not-stuck (Some v) is = absurd (false≢true (sym is))

-- how many clients a plan has

pub clients-count : (plan : Lines) (clients : List (Vec Step Global)) → map (λ (steps : Vec Step Global). steps.items) clients ≡ plan.clients → length clients ≡ length plan.clients
clients-count plan clients is = sym (length-map clients (λ (steps : Vec Step Global). steps.items)) ∙ ap length is

-- the next command of a list

pub history_along-next : (history commands : List Command) (i : ℕ) (command : Command) → i < length commands → command ≡ get_or commands i command
    → history_along history (take (i + 1) commands) ≡ history_with (history_along history (take i commands)) command
history_along-next history commands i command low at =
    ap (history_along history) (take_more commands i command low ∙ ap (λ (d : Command). take i commands ++ d ∷ []) (sym at)) ∙ history_along-push history (take i commands) command

-- what is found, but for how the search ended

pub IsTrue-same : (plan : Lines) (found new : Found) → new.given ≡ found.given → new.ended ≡ found.ended → new.races ≡ found.races → new.stuck ≡ found.stuck → IsTrue plan found → IsTrue plan new
IsTrue-same plan found new given ended races stuck t = record { given = rw given t.given; ended = rw ended t.ended; races = rw races t.races; stuck = rw stuck t.stuck }

pub IsAll-same : (plan : Lines) (found new : Found) → new.given ≡ found.given → new.ended ≡ found.ended → new.races ≡ found.races → new.stuck ≡ found.stuck → IsAll plan found → IsAll plan new
IsAll-same plan found new given ended races stuck a = record {
  given = λ schedule client place answer is. rw given (a.given schedule client place answer is);
  ended = λ schedule place answer is. rw ended (a.ended schedule place answer is);
  races = λ schedule one other is. rw races (a.races schedule one other is);
  stuck = λ schedule now comes is. rw stuck (a.stuck schedule now comes is);
}
