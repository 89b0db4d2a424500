-- What a visit finds: answers, states, and a schedule that gets stuck.
use Rattle.std.proofs.Common.{◌≡◌, ◌⊎◌, ℕ, Bool, true, false, zero, suc, ◌+◌, ◌<◌, ◌≤◌, refl, sym, ap, ◌∙◌, subst, List, [], ◌∷◌, ◌++◌, length, take, Option, None, Some, option_map, unwrap_or, slice_get, get_or, arith, inl, inr, Contains}
use Rattle.std.specs.Prelude.{All, IsSome, Vec}
use Rattle.std.specs.Global.{Global}
use Rattle.std.specs.List.{AllPairs}
use Rattle.std.proofs.lemmas.Bool.{cases_lt, false≢true}
use Rattle.std.proofs.lemmas.List.Elements.{All-get_or, All-nil, All-cons, All-head, All-tail, All-push, All-append, All-weaker, All-contains, Contains-append_left, Contains-append_right}
use Rattle.std.proofs.lemmas.List.{append-nil, append_assoc, map-append, length-map, get_or-map, take_more}
use Rattle.std.proofs.lemmas.List.Quantifiers.{all_pairs_push}
use Rattle.std.proofs.lemmas.Option.{same_Some, none-some}
use Rattle.command_core.specs.declared.answer.Answer.{Answer}
use Rattle.command_core.specs.declared.command.Command.{Command}
use Rattle.explore_core.specs.declared.plan.Step.{Step}
use Rattle.explore_core.specs.declared.choice.Choice.{Choice}
use Rattle.explore_core.specs.declared.chooser.Chooser.{Chooser}
use Rattle.explore_core.specs.declared.found.Found.{Found}
use Rattle.explore_core.specs.declared.found.Given.{Given}
use Rattle.explore_core.specs.declared.state.State.{State}
use Rattle.explore_core.specs.declared.tour.Move.{Move}
use Rattle.explore_core.specs.declared.tour.Move.TheVariants as move
use Rattle.explore_core.specs.Found.{CanBeExplored, IsOther, Lists, stuck_of}
use Rattle.explore_core.specs.Schedule.{Lines, Standing, Schedule, answer_now, history_along, beginning, lines_of, next_line, made_by, made_line, after_one, ComesTo, GoesOn, IsStuck, IsAnswered, IsEndAnswered, MayGo}
use Rattle.explore_core.specs.Search.{Seen, LevelState, is_asked, standing_of, standing_at, states_of, Answers, HasLike, Grows, Extends, IsState, IsSeen, Keeps, Records, IsGiven, IsFollowed, IsOnward, IsTried, AreTried, IsMove, AreMoves, Makes, is_alone, together, HasEnds, EndsAre, IsEnd, AreEndsListed}
use Rattle.explore_core.specs.Choice.{choice_of}
use Rattle.explore_core.specs.Choosing.{IsChoiceAt, IsReady}
use Rattle.explore_core.specs.Flow.{bounds_of}
use Rattle.explore_core.specs.Levels.{IsLeft}
use Rattle.explore_core.proofs.Following.{calm-later}
use Rattle.explore_core.proofs.Levels.{go-on-refl, IsFollowed-grows}
use Rattle.explore_core.proofs.Scheduling.{Leads-is, after-answers, comes-push}
use Rattle.explore_core.proofs.Showing.{same-state}

-- the elements of a list, one after another

pub All-item : {X : Type 0} (P : X → Type 0) (xs : List X) (i : ℕ) (x : X) → i < length xs → x ≡ get_or xs i x → All P xs → P x
All-item P xs i x low at all = subst P (sym at) (All-get_or P xs i x low all)

pub All-next : {X : Type 0} (P : X → Type 0) (xs : List X) (i : ℕ) (x : X) → i < length xs → x ≡ get_or xs i x → All P (take i xs) → P x → All P (take (i + 1) xs)
All-next P xs i x low at before here =
    subst (All P) (sym (take_more xs i x low ∙ ap (λ d. take i xs ++ d ∷ []) (sym at))) (All-push P (take i xs) x before here)

-- an answer that is recorded

Lists-grow : {old new : List Given} {client place : ℕ} {answer : Answer} {schedule : Schedule} → Records old new client place answer schedule → (c p : ℕ) (a : Answer) → Lists old c p a → Lists new c p a
Lists-grow {old} {new} records c p a lists = elim records [
  | inl same ↦ subst (λ gs. Lists gs c p a) (sym same) lists
  | inr more ↦ subst (λ gs. Lists gs c p a) (sym more.1) (lists.0, Contains-append_left old (more.0 ∷ []) lists.0 lists.1, lists.2, lists.3, lists.4)
]

All-grow : {old new : List Given} {client place : ℕ} {answer : Answer} {schedule : Schedule} (P : Given → Type 0) → Records old new client place answer schedule → ((g : Given) → IsGiven client place answer schedule g → P g) → All P old → All P new
All-grow {old} P records is all = elim records [
  | inl same ↦ subst (All P) (sym same) all
  | inr more ↦ subst (All P) (sym more.1) (All-push P old more.0 all (is more.0 more.2))
]

pub get_or-any : {X : Type 0} (xs : List X) (i : ℕ) (d e : X) → i < length xs → get_or xs i d ≡ get_or xs i e
get_or-any [] i d e low = absurd (omega (arith, low))
get_or-any (x ∷ xs) zero d e low = refl
get_or-any (x ∷ xs) (suc i) d e low = get_or-any xs i d e (omega (arith, low))

Once-grow : {old new : List Given} {client place : ℕ} {answer : Answer} {schedule : Schedule} → Records old new client place answer schedule → AllPairs IsOther old → AllPairs IsOther new
Once-grow {old} records once = elim records [
  | inl same ↦ subst (AllPairs IsOther) (sym same) once
  | inr more ↦ subst (AllPairs IsOther) (sym more.1) (all_pairs_push IsOther old more.0 once (λ k d few client_is place_is answer_is.
      let g = get_or old k d in
      let is = more.2 in
      more.3 (g, (k, few, get_or-any old k g d few), client_is ∙ is.client_is, place_is ∙ is.place_is, answer_is ∙ is.answer_is)))
]

pub Grows-given : (plan : Lines) (depth : ℕ) (old new : Found) (client place : ℕ) (answer : Answer) (schedule : Schedule) → Records old.given.items new.given.items client place answer schedule
    → IsAnswered plan schedule client place answer → new.ended ≡ old.ended → new.races ≡ old.races → new.stuck ≡ old.stuck → new.states ≡ old.states → new.covered ≡ old.covered → Grows plan depth old new
Grows-given plan depth old new client place answer schedule records comes ended races stuck states covered = record {
  once = λ o. record { given = Once-grow records o.given; ended = rw ended o.ended; races = rw races o.races };
  states = states;
  covered = covered;
  shown = λ t. record {
    given = All-grow (λ (g : Given). IsAnswered plan g.schedule.items g.client g.place g.answer) records
        (λ g is. rw (is.schedule_is, is.client_is, is.place_is, is.answer_is) comes) t.given;
    ended = rw ended t.ended;
    races = rw races t.races;
    stuck = rw stuck t.stuck;
  };
  given = Lists-grow records;
  ended = λ c p a lists. rw ended lists;
  races = λ one other lists. rw races lists;
  stuck = λ shown is. ap (option_map (λ (v : Vec ℕ Global). v.items)) stuck ∙ is;
  soon = λ soon shown is. soon shown (sym (ap (option_map (λ (v : Vec ℕ Global). v.items)) stuck) ∙ is);
}

-- a state that is kept

pub states-push : (old : List Seen) (seen : Seen) → states_of (old ++ seen ∷ []) ≡ states_of old ++ seen.state ∷ []
states-push old seen = map-append (λ (s : Seen). s.state) old (seen ∷ [])

pub states-taken : (states : List State) (rest behind : List Seen) (seen : Seen) → rest ≡ seen ∷ behind → states ++ states_of rest ≡ states ++ seen.state ∷ [] ++ states_of behind
states-taken states rest behind seen is = ap (λ (r : List Seen). states ++ states_of r) is ∙ sym (append_assoc states (seen.state ∷ []) (states_of behind))

pub no-states : (states : List State) (rest : List Seen) → length rest ≡ 0 → states ++ states_of rest ≡ states
no-states states [] none = append-nil states
no-states states (s ∷ rest) none = absurd (omega (arith, none))

Contains-state : (seen : List Seen) (one : Seen) → Contains seen one → Contains (states_of seen) one.state
Contains-state seen one there = (
  there.0,
  omega (arith, there.1, length-map seen (λ (s : Seen). s.state)),
  get_or-map (λ (s : Seen). s.state) seen there.0 one one.state there.1 ∙ ap (λ (s : Seen). s.state) there.2,
)

pub All-states : (plan : Lines) (depth : ℕ) (seen : List Seen) → All (IsSeen plan depth) seen → All (IsState plan depth) (states_of seen)
All-states plan depth [] all = All-nil (IsState plan depth)
All-states plan depth (s ∷ seen) all =
    All-cons (IsState plan depth) s.state (states_of seen) (All-head (IsSeen plan depth) s seen all).state (All-states plan depth seen (All-tail (IsSeen plan depth) s seen all))

pub Extends-kept : {plan : Lines} {depth : ℕ} {old new : LevelState} {seen : Seen} → Keeps old.seen seen new.seen → new.room ≡ old.room → IsSeen plan depth seen → Extends plan depth old new
Extends-kept {plan} {depth} {old} {new} {seen} keeps room is = elim keeps [
  | inl same ↦ record {
    seen = λ all. subst (All (IsSeen plan depth)) (sym same.0) all;
    alike = λ now has. subst (λ (all : List Seen). HasLike plan (states_of all) now) (sym same.0) has;
    room = room;
  }
  | inr more ↦ record {
    seen = λ all. subst (All (IsSeen plan depth)) (sym more) (All-push (IsSeen plan depth) old.seen seen all is);
    alike = λ now has. subst (λ states. HasLike plan states now) (sym (ap states_of more ∙ states-push old.seen seen)) (has.0, Contains-append_left (states_of old.seen) (seen.state ∷ []) has.0 has.1, has.2);
    room = room;
  }
]

pub HasLike-kept : {plan : Lines} {depth : ℕ} {old new : List Seen} {seen : Seen} → CanBeExplored plan → All (IsSeen plan depth) old → Keeps old seen new → IsSeen plan depth seen
    → HasLike plan (states_of new) (standing_at plan seen.state)
HasLike-kept {plan} {depth} {old} {new} {seen} can all keeps is = elim keeps [
  | inl same ↦ (
      let other = same.1 in
      let other_is = All-contains (IsSeen plan depth) old other all same.2 in
      (other.state, subst (λ (all : List Seen). Contains (states_of all) other.state) (sym same.0) (Contains-state old other same.2), same-state can seen other is other_is same.3))
  | inr more ↦ (
    seen.state,
    subst (λ states. Contains states seen.state) (sym (ap states_of more ∙ states-push old seen)) (Contains-append_right (states_of old) (seen.state ∷ []) seen.state (0, omega arith, refl)),
    go-on-refl (is_asked plan) (standing_at plan seen.state),
  )
]

-- what a client does

pub none-next : (plan : Lines) (now : Standing) (client : ℕ) → next_line plan now client ≡ None → after_one plan now client ≡ None
none-next plan now client none = ap (made_line now client) none

-- where the schedule comes to with one more client
pub comes-more : (plan : Lines) (schedule : Schedule) (client : ℕ) (to : Standing) → ComesTo plan schedule (standing_of plan schedule) → GoesOn plan (standing_of plan schedule) client → after_one plan (standing_of plan schedule) client ≡ Some to
    → (to ≡ standing_of plan (schedule ++ client ∷ [])) × ComesTo plan (schedule ++ client ∷ []) (standing_of plan (schedule ++ client ∷ []))
comes-more plan schedule client to comes on goes =
    let more = comes-push plan schedule (standing_of plan schedule) client to comes on goes in
    let is = Leads-is plan (beginning plan) (schedule ++ client ∷ []) to more.leads in
    (is, subst (ComesTo plan (schedule ++ client ∷ [])) is more)

pub IsFollowed-none : (plan : Lines) (found : Found) (next : List State) (now : Standing) (client : ℕ) → after_one plan now client ≡ None → IsFollowed plan found next now client
IsFollowed-none plan found next now client none = record {
  listed = λ may place answer a. absurd (none-some _ (sym none ∙ after-answers a));
  kept = λ on later goes. absurd (none-some later (sym none ∙ goes));
}

-- a client that may not go
pub IsFollowed-held : (plan : Lines) (found : Found) (next : List State) (now : Standing) (client : ℕ) → (MayGo plan now.made client → ⊥) → IsFollowed plan found next now client
IsFollowed-held plan found next now client held = record {
  listed = λ may place answer a. absurd (held may);
  kept = λ on later goes. absurd (held on.may);
}

pub IsFollowed-made : (plan : Lines) (found : Found) (next : List State) (now : Standing) (client place : ℕ) (given : Answer) (after : Standing)
    → Answers plan now client place given → after_one plan now client ≡ Some after → Lists found.given.items client place given → (GoesOn plan now client → HasLike plan next after) → IsFollowed plan found next now client
IsFollowed-made plan found next now client place given after a goes lists has = record {
  listed = λ may place' answer' b.
      let step : a.step ≡ b.step = same_Some a.step b.step (sym a.next ∙ b.next) in
      let same : given ≡ answer' = a.answer ∙ ap (λ (s : Step). answer_now now.history s.command) step ∙ sym b.answer in
      subst (λ p. Lists found.given.items client p answer') (sym a.at ∙ b.at) (subst (λ g. Lists found.given.items client place g) same lists);
  kept = λ on later is. subst (HasLike plan next) (same_Some after later (sym goes ∙ is)) (has on);
}

-- what the first clients do

pub AreTried-none : (plan : Lines) (found : Found) (next : List State) (state : State) → AreTried plan found next state 0 move.Done
AreTried-none plan found next state = record {
  followed = λ client few. absurd (omega (arith, few));
  are = λ client few. absurd (omega (arith, few));
}

below : (client n : ℕ) → client < n + 1 → (client < n) ⊎ (client ≡ n)
below client n few = elim (cases_lt client n) [
  | inl less ↦ inl less
  | inr not_less ↦ inr (omega (arith, few, not_less))
]

module _ (plan : Lines) (now : Standing) (n : ℕ) where
  abbrev Waits : ℕ → Type 0
  Waits client = MayGo plan now.made client → after_one plan now client ≡ None

  nobody : ((client : ℕ) → client < n → Waits client) → Waits n → (client : ℕ) → client < n + 1 → Waits client
  nobody before last client few = elim (below client n few) [
    | inl less ↦ before client less
    | inr is ↦ subst Waits (sym is) last
  ]

  moves-push : (moves one : Move) → AreMoves plan now n moves → IsMove plan now n one → AreMoves plan now (n + 1) (together moves one)
  moves-push move.Goes one are is = are
  moves-push move.Alone one are is = are
  moves-push move.Waits move.Goes are is = (n, is.0)
  moves-push move.Waits move.Alone are is = (n, is)
  moves-push move.Waits move.Done are is = (nobody are.0 (λ may. none-next plan now n is), are.1, are.2)
  moves-push move.Waits move.Waits are is = (nobody are.0 is.0, are.1, are.2)
  moves-push move.Done move.Goes are is = (n, is.0)
  moves-push move.Done move.Alone are is = (n, is)
  moves-push move.Done move.Waits are is = (nobody (λ client few may. none-next plan now client (are client few)) is.0, n, is.1)
  moves-push move.Done move.Done are is = λ client few. elim (below client n few) [
    | inl less ↦ are client less
    | inr same ↦ subst (λ c. next_line plan now c ≡ None) (sym same) is
  ]

pub AreTried-push : {plan : Lines} {depth deeper : ℕ} {old new : Found} {next more : LevelState} {state : State} {n : ℕ} {moves one : Move}
    → AreTried plan old (states_of next.seen) state n moves → Grows plan depth old new → Extends plan deeper next more → IsTried plan new (states_of more.seen) state n one
    → AreTried plan new (states_of more.seen) state (n + 1) (together moves one)
AreTried-push {plan} {depth} {deeper} {old} {new} {next} {more} {state} {n} {moves} {one} before g x last = record {
  followed = λ client few. elim (below client n few) [
    | inl less ↦ IsFollowed-grows (standing_at plan state) client g x (before.followed client less)
    | inr is ↦ subst (IsFollowed plan new (states_of more.seen) (standing_at plan state)) (sym is) last.followed
  ];
  are = moves-push plan (standing_at plan state) n moves one before.are last.is;
}

-- a visit

no-lines : (plan : Lines) (client : ℕ) → length plan.clients ≤ client → lines_of plan client ≡ []
no-lines plan client past = ap (λ o. unwrap_or o []) (past-get plan.clients client past)
  where
    past-get : {X : Type 0} (xs : List X) (k : ℕ) → length xs ≤ k → slice_get xs k ≡ None
    past-get [] k past = refl
    past-get (x ∷ xs) zero past = absurd (omega (arith, past))
    past-get (x ∷ xs) (suc k) past = past-get xs k (omega (arith, past))

pub no-next : (plan : Lines) (now : Standing) (client : ℕ) → length plan.clients ≤ client → next_line plan now client ≡ None
no-next plan now client past = ap (λ lines. slice_get lines (made_by now client)) (no-lines plan client past)

some-none : (o : Option Step) → IsSome o → o ≡ None → ⊥
some-none None some is = false≢true some
some-none (Some step) some is = absurd (cc)

module _ (plan : Lines) (found : Found) (next : List State) (state : State) where
  abbrev here : Standing
  here = standing_at plan state

  followed-all : {moves : Move} → AreTried plan found next state (length plan.clients) moves → (client : ℕ) → IsFollowed plan found next here client
  followed-all tried client = elim (cases_lt client (length plan.clients)) [
    | inl less ↦ tried.followed client less
    | inr not_less ↦ IsFollowed-none plan found next here client (none-next plan here client (no-next plan here client (omega (arith, not_less))))
  ]

  some-next : (client : ℕ) (later : Standing) → after_one plan here client ≡ Some later → next_line plan here client ≡ None → ⊥
  some-next client later goes none = none-some later (sym (none-next plan here client none) ∙ goes)

  pub stuck-waits : AreTried plan found next state (length plan.clients) move.Waits → IsStuck plan here
  stuck-waits tried = record {
    nobody = λ client may. elim (cases_lt client (length plan.clients)) [
      | inl less ↦ tried.are.0 client less may
      | inr not_less ↦ none-next plan here client (no-next plan here client (omega (arith, not_less)))
    ];
    waiting = (tried.are.1, tried.are.2);
  }

  pub done-all : AreTried plan found next state (length plan.clients) move.Done → (client : ℕ) → next_line plan here client ≡ None
  done-all tried client = elim (cases_lt client (length plan.clients)) [
    | inl less ↦ tried.are client less
    | inr not_less ↦ no-next plan here client (omega (arith, not_less))
  ]

  -- one of the clients makes its line
  one-goes : {moves : Move} → AreTried plan found next state (length plan.clients) moves → (client : ℕ) → Makes plan here client → IsLeft plan found next state
  one-goes tried client makes = inl (record {
    followed = followed-all tried;
    ended = λ place answer e. absurd (some-next client makes.1 makes.2 (e.done client));
    stuck = λ stuck. absurd (none-some makes.1 (sym (stuck.nobody client makes.0) ∙ makes.2));
  })

  pub IsLeft-goes : AreTried plan found next state (length plan.clients) move.Goes → IsLeft plan found next state
  IsLeft-goes tried = one-goes tried tried.are.0 tried.are.1

  pub IsLeft-alone : AreTried plan found next state (length plan.clients) move.Alone → IsLeft plan found next state
  IsLeft-alone tried = one-goes tried tried.are.0 tried.are.1

module _ {plan : Lines} {depth deeper : ℕ} {old new : Found} {next more : LevelState} (state : State) (a : Grows plan depth old new × Extends plan deeper next more) where
  abbrev there : Standing
  there = standing_at plan state

  abbrev before : List State
  before = states_of next.seen

  abbrev after : List State
  after = states_of more.seen

  grown : (client : ℕ) → IsFollowed plan old before there client → IsFollowed plan new after there client
  grown client f = IsFollowed-grows there client a.0 a.1 f

  pub IsLeft-waits : AreTried plan old before state (length plan.clients) move.Waits → (shown : List ℕ) → stuck_of new ≡ Some shown → IsLeft plan new after state
  IsLeft-waits tried shown is = inl (record {
    followed = λ client. grown client (followed-all plan old before state tried client);
    ended = λ place answer e. absurd (some-none (next_line plan there tried.are.1) tried.are.2 (e.done tried.are.1));
    stuck = λ stuck. (shown, is);
  })

  pub IsLeft-done : AreTried plan old before state (length plan.clients) move.Done → HasEnds plan new there → IsLeft plan new after state
  IsLeft-done tried ends = inl (record {
    followed = λ client. grown client (followed-all plan old before state tried client);
    ended = ends;
    stuck = λ stuck. absurd (some-none (next_line plan there stuck.waiting.0) stuck.waiting.1 (done-all plan old before state tried stuck.waiting.0));
  })

-- the chosen clients

pub chosen-push : {plan : Lines} {depth deeper : ℕ} {old new : Found} {next more : LevelState} (now : Standing) (n : ℕ) (chosen : ℕ → Bool)
    → ((client : ℕ) → client < n → chosen client ≡ true → IsFollowed plan old (states_of next.seen) now client) → Grows plan depth old new → Extends plan deeper next more
    → IsFollowed plan new (states_of more.seen) now n → (client : ℕ) → client < n + 1 → chosen client ≡ true → IsFollowed plan new (states_of more.seen) now client
chosen-push {plan} {new = new} {more = more} now n chosen before g x last client few is = elim (below client n few) [
  | inl less ↦ IsFollowed-grows now client g x (before client less is)
  | inr same ↦ subst (IsFollowed plan new (states_of more.seen) now) (sym same) last
]

pub chosen-skip : {plan : Lines} {found : Found} {next : List State} (now : Standing) (n : ℕ) (chosen : ℕ → Bool)
    → ((client : ℕ) → client < n → chosen client ≡ true → IsFollowed plan found next now client) → chosen n ≡ false
    → (client : ℕ) → client < n + 1 → chosen client ≡ true → IsFollowed plan found next now client
chosen-skip now n chosen before isnt client few is = elim (below client n few) [
  | inl less ↦ before client less is
  | inr same ↦ absurd (false≢true (sym isnt ∙ ap chosen (sym same) ∙ is))
]

pub chosen-all : (plan : Lines) {found : Found} {next : List State} (now : Standing) (n : ℕ) (chosen : ℕ → Bool) → length plan.clients ≤ n
    → ((client : ℕ) → client < n → chosen client ≡ true → IsFollowed plan found next now client) → (client : ℕ) → chosen client ≡ true → IsFollowed plan found next now client
chosen-all plan {found} {next} now n chosen all before client is = elim (cases_lt client n) [
  | inl less ↦ before client less is
  | inr not_less ↦ IsFollowed-none plan found next now client (none-next plan now client (no-next plan now client (omega (arith, not_less, all))))
]

-- the first of them, and others may go after each

pub onward-push : {plan : Lines} {found : Found} {next : List State} {state : State} (n : ℕ) (chosen : ℕ → Bool) (one : Move) → ((client : ℕ) → client < n → chosen client ≡ true → IsOnward plan (standing_at plan state) client)
    → IsTried plan found next state n one → is_alone one ≡ false → (client : ℕ) → client < n + 1 → chosen client ≡ true → IsOnward plan (standing_at plan state) client
onward-push {plan} {state = state} n chosen one before tried isnt client few is = elim (below client n few) [
  | inl less ↦ before client less is
  | inr same ↦ subst (IsOnward plan (standing_at plan state)) (sym same) (by one tried.is isnt)
]
  where
    now : Standing
    now = standing_at plan state

    by : (one : Move) → IsMove plan now n one → is_alone one ≡ false → IsOnward plan now n
    by move.Goes is isnt = is.1
    by move.Alone is isnt = absurd (false≢true (sym isnt))
    by move.Waits is isnt = λ may later goes. absurd (none-some later (sym (is.0 may) ∙ goes))
    by move.Done is isnt = λ may later goes. absurd (none-some later (sym (none-next plan now n is) ∙ goes))

pub onward-skip : {plan : Lines} (now : Standing) (n : ℕ) (chosen : ℕ → Bool) → ((client : ℕ) → client < n → chosen client ≡ true → IsOnward plan now client) → chosen n ≡ false
    → (client : ℕ) → client < n + 1 → chosen client ≡ true → IsOnward plan now client
onward-skip now n chosen before isnt client few is = elim (below client n few) [
  | inl less ↦ before client less is
  | inr same ↦ absurd (false≢true (sym isnt ∙ ap chosen (sym same) ∙ is))
]

pub onward-all : (plan : Lines) (now : Standing) (n : ℕ) (chosen : ℕ → Bool) → length plan.clients ≤ n
    → ((client : ℕ) → client < n → chosen client ≡ true → IsOnward plan now client) → (client : ℕ) → chosen client ≡ true → IsOnward plan now client
onward-all plan now n chosen all before client is = elim (cases_lt client n) [
  | inl less ↦ before client less is
  | inr not_less ↦ λ may later goes. absurd (none-some later (sym (none-next plan now client (no-next plan now client (omega (arith, not_less, all)))) ∙ goes))
]

pub IsLeft-chosen : {plan : Lines} {depth : ℕ} {found : Found} {next : List State} {chooser : Chooser} {kept : Choice} (state : State) → IsState plan depth state → IsReady plan chooser
    → IsChoiceAt plan chooser (standing_at plan state) kept → ((client : ℕ) → (choice_of kept).chosen client ≡ true → IsFollowed plan found next (standing_at plan state) client)
    → ((client : ℕ) → (choice_of kept).chosen client ≡ true → IsOnward plan (standing_at plan state) client) → IsLeft plan found next state
IsLeft-chosen {plan} {chooser = chooser} {kept = kept} state is ready chosen followed onward = inr (record {
  bounds = bounds_of kept.flow;
  calm = calm-later plan state.schedule.items (standing_at plan state) (ready.calm chosen.chooses) is.comes;
  prompt = ready.prompt chosen.chooses;
  outside = chosen.outside;
  choice = choice_of kept;
  persistent = chosen.persistent;
  followed = followed;
  onward = onward;
})

-- a schedule that gets stuck is shown

pub Grows-stuck : (plan : Lines) (depth : ℕ) (old new : Found) (shown : Vec ℕ Global) (now : Standing) → old.stuck ≡ None → new.stuck ≡ Some shown → new.given ≡ old.given → new.ended ≡ old.ended → new.races ≡ old.races → new.states ≡ old.states → new.covered ≡ old.covered
    → ComesTo plan shown.items now → IsStuck plan now → length shown.items ≡ depth → Grows plan depth old new
Grows-stuck plan depth old new shown now none is given ended races states covered comes stuck deep =
    let items : Option (Vec ℕ Global) → Option (List ℕ) = option_map (λ (v : Vec ℕ Global). v.items) in
    record {
      shown = λ t. record { given = rw given t.given; ended = rw ended t.ended; races = rw races t.races; stuck = rw is (now, comes, stuck) };
      once = λ o. record { given = rw given o.given; ended = rw ended o.ended; races = rw races o.races };
      states = states;
      covered = covered;
      given = λ c p a lists. rw given lists;
      ended = λ c p a lists. rw ended lists;
      races = λ one other lists. rw races lists;
      stuck = λ s was. absurd (none-some s (sym (ap items none) ∙ was));
      soon = λ soon s now_is. let same : shown.items ≡ s = same_Some shown.items s (sym (ap items is) ∙ now_is) in omega (arith, ap length same, deep);
    }

-- the commands at the end

abbrev EndAt : Lines → List Command → ℕ → Command → Answer
EndAt plan history place command = answer_now (history_along history (take place plan.last)) command

pub EndsAre-refl : (plan : Lines) (history : List Command) (schedule : Schedule) (ended : List Given) → EndsAre plan history schedule ended ended
EndsAre-refl plan history schedule ended = record { once = λ o. o; added = []; is = sym (append-nil ended); ends = All-nil (IsEnd plan history schedule) }

ends-pushed : {plan : Lines} {history : List Command} {schedule : Schedule} {first old new : List Given} {client place : ℕ} {answer : Answer} (command : Command)
    → EndsAre plan history schedule first old → Records old new client place answer schedule → slice_get plan.last place ≡ Some command → answer ≡ EndAt plan history place command
    → (added : List Given) × (new ≡ first ++ added) × All (IsEnd plan history schedule) added
ends-pushed {plan} {history} {schedule} {first} {old} {new} {client} {place} {answer} command before records at is = elim records [
  | inl same ↦ (before.added, same ∙ before.is, before.ends)
  | inr more ↦ (
      let g = more.0 in
      let given = more.2 in (
        before.added ++ g ∷ [],
        more.1 ∙ ap (λ gs. gs ++ g ∷ []) before.is ∙ append_assoc first before.added (g ∷ []),
        All-push (IsEnd plan history schedule) before.added g before.ends (record {
          schedule_is = given.schedule_is;
          command = command;
          at = ap (slice_get plan.last) given.place_is ∙ at;
          answer = given.answer_is ∙ is ∙ ap (λ p. EndAt plan history p command) (sym given.place_is);
        }),
      ))
]

pub EndsAre-push : {plan : Lines} {history : List Command} {schedule : Schedule} {first old new : List Given} {client place : ℕ} {answer : Answer} (command : Command)
    → EndsAre plan history schedule first old → Records old new client place answer schedule → slice_get plan.last place ≡ Some command → answer ≡ EndAt plan history place command → EndsAre plan history schedule first new
EndsAre-push command before records at is =
    let pushed = ends-pushed command before records at is in
    record { once = λ o. Once-grow records (before.once o); added = pushed.0; is = pushed.1; ends = pushed.2 }

pub AreEndsListed-push : (plan : Lines) {history : List Command} {old new : List Given} {place : ℕ} {answer : Answer} {schedule : Schedule} (command : Command)
    → AreEndsListed plan history old place → Records old new (length plan.clients) place answer schedule → Lists new (length plan.clients) place answer
    → slice_get plan.last place ≡ Some command → answer ≡ EndAt plan history place command → AreEndsListed plan history new (place + 1)
AreEndsListed-push plan {history} {old} {new} {place} {answer} command before records lists at is = λ p c few there. elim (below p place few) [
  | inl less ↦ Lists-grow records (length plan.clients) p (EndAt plan history p c) (before p c less there)
  | inr same ↦ (
      let command_is : command ≡ c = same_Some command c (sym at ∙ ap (slice_get plan.last) (sym same) ∙ there) in
      let answer_is : answer ≡ EndAt plan history p c = is ∙ ap (EndAt plan history place) command_is ∙ ap (λ q. EndAt plan history q c) (sym same) in
      subst (λ q. Lists new (length plan.clients) q (EndAt plan history p c)) (sym same) (subst (Lists new (length plan.clients) place) answer_is lists))
]

pub Grows-ended : (plan : Lines) (depth : ℕ) (old new : Found) (now : Standing) (schedule : Schedule) → EndsAre plan now.history schedule old.ended.items new.ended.items
    → ComesTo plan schedule now → ((client : ℕ) → next_line plan now client ≡ None) → new.given ≡ old.given → new.races ≡ old.races → new.stuck ≡ old.stuck → new.states ≡ old.states → new.covered ≡ old.covered → Grows plan depth old new
Grows-ended plan depth old new now schedule ends comes done given races stuck states covered = record {
  once = λ o. record { given = rw given o.given; ended = ends.once o.ended; races = rw races o.races };
  states = states;
  covered = covered;
  shown = λ t. record {
    given = rw given t.given;
    ended =
        let P : Given → Type 0 = λ g. IsEndAnswered plan g.schedule.items g.place g.answer in
        subst (All P) (sym ends.is)
        (All-append P old.ended.items ends.added t.ended
        (All-weaker (IsEnd plan now.history schedule) P
        (λ g end. rw end.schedule_is (record { now = now; comes = comes; done = done; command = end.command; at = end.at; answer = end.answer }))
        ends.added ends.ends));
    races = rw races t.races;
    stuck = rw stuck t.stuck;
  };
  given = λ c p a lists. rw given lists;
  ended = λ c p a lists. subst (λ gs. Lists gs c p a) (sym ends.is) (lists.0, Contains-append_left old.ended.items ends.added lists.0 lists.1, lists.2, lists.3, lists.4);
  races = λ one other lists. rw races lists;
  stuck = λ shown is. ap (option_map (λ (v : Vec ℕ Global). v.items)) stuck ∙ is;
  soon = λ soon shown is. soon shown (sym (ap (option_map (λ (v : Vec ℕ Global). v.items)) stuck) ∙ is);
}

pub past-within : {X : Type 0} (xs : List X) (k : ℕ) (x : X) → slice_get xs k ≡ Some x → k < length xs
past-within [] k x at = absurd (none-some x at)
past-within (y ∷ xs) zero x at = omega arith
past-within (y ∷ xs) (suc k) x at = let rest = past-within xs k x at in omega (arith, rest)

pub HasEnds-listed : (plan : Lines) (found : Found) (now : Standing) → AreEndsListed plan now.history found.ended.items (length plan.last) → HasEnds plan found now
HasEnds-listed plan found now lists = λ place answer e.
    subst (Lists found.ended.items (length plan.clients) place) (sym e.answer) (lists place e.command (past-within plan.last place e.command e.at) e.at)
