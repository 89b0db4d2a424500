-- What a search knows of every schedule once it has visited a level.
use Rattle.std.proofs.Common.{◌≡◌, ◌⊎◌, ℕ, ◌+◌, ◌≤◌, Bool, true, refl, sym, ap, ◌∙◌, subst, List, [], ◌∷◌, ◌++◌, length, length-append, Option, None, Some, option_map, arith, inl, inr, Contains}
use Rattle.std.specs.Prelude.{All, SomeIff, Vec}
use Rattle.std.specs.Global.{Global}
use Rattle.std.specs.List.{AllPairs}
use Rattle.std.proofs.lemmas.List.{length-map, get_or-map}
use Rattle.std.proofs.lemmas.List.Elements.{All-nil, All-cons, All-head, All-tail, All-append, All-contains, Contains-append_left, Contains-append_right}
use Rattle.std.proofs.lemmas.Option.{same_Some, none-some}
use Rattle.command_core.specs.declared.answer.Answer.{Answer}
use Rattle.desk_core.specs.Sound.{IsSound}
use Rattle.desk_core.specs.theorem.History.{world_of}
use Rattle.explore_core.specs.declared.found.Found.{Found}
use Rattle.explore_core.specs.declared.state.State.{State}
use Rattle.explore_core.specs.Access.{RaceAt}
use Rattle.explore_core.specs.Covering.{GoOnAlike, HasAlike, MayAsk}
use Rattle.explore_core.specs.Found.{CanBeExplored, IsAll, IsOther, IsOtherRace, IsReachable, Suffice, stuck_of}
use Rattle.explore_core.specs.Levels.{FollowsAll, Gives, IsComplete, IsCovered, IsKnown, IsFinished, IsVisited, LeadsOn}
use Rattle.explore_core.specs.Moving.{LineAnswer}
use Rattle.explore_core.specs.Schedule.{Lines, Standing, Schedule, beginning, next_line, ComesTo, Counts, IsAnswered, IsLast, Leads}
use Rattle.explore_core.specs.Search.{is_asked, standing_of, standing_at, standings_of, HasRaces, Grows, IsFollowed, IsState, IsEmptyFound, IsRight, counted}
use Rattle.explore_core.proofs.Asking.{may-ask}
use Rattle.explore_core.proofs.Blocks.{counts-alike, gives-alike}
use Rattle.explore_core.proofs.Following.{FirstGoes, chosen-goes, client-goes}
use Rattle.explore_core.proofs.Covering.{go-on-trans, last-alike, sound-made, stuck-alike}
use Rattle.explore_core.proofs.Finding.{none-next}
use Rattle.explore_core.proofs.Levels.{HasEnds-alike, IsTrue-empty, go-on-refl, length-none}
use Rattle.explore_core.proofs.Moving.{leads-alike}
use Rattle.explore_core.proofs.Scheduling.{sound-comes, sound-leads}
use Rattle.explore_core.proofs.Trying.{IsAll-same, IsTrue-same}

-- what is found

none-once : {X : Type 0} (P : X → X → Type 0) (xs : List X) → xs ≡ [] → AllPairs P xs
none-once P xs none = λ i j d before within. absurd (omega (arith, before, within, ap length none))

none-stuck : (found : Found) → IsEmptyFound found → stuck_of found ≡ None
none-stuck found empty = rw empty.stuck refl

pub IsRight-empty : (plan : Lines) (bound : ℕ) (found : Found) → IsEmptyFound found → IsRight plan bound found
IsRight-empty plan bound found empty = record {
  shown = IsTrue-empty plan found empty;
  once = record { given = none-once IsOther found.given.items empty.given; ended = none-once IsOther found.ended.items empty.ended; races = none-once IsOtherRace found.races.items empty.races };
  shortest = λ shown schedule now is comes stuck. absurd (none-some shown (sym (none-stuck found empty) ∙ is));
  within = omega (arith, empty.states);
}

-- the standings of states

has-more : (asked : List ℕ → Bool) (kept more : List Standing) (now : Standing) → HasAlike asked kept now → HasAlike asked (kept ++ more) now
has-more asked kept more now has = (has.0, Contains-append_left kept more has.0 has.1, has.2)

Contains-standing : (plan : Lines) (states : List State) (state : State) → Contains states state → Contains (standings_of plan states) (standing_at plan state)
Contains-standing plan states state there = (
  there.0,
  omega (arith, there.1, length-map states (standing_at plan)),
  get_or-map (standing_at plan) states there.0 state (standing_at plan state) there.1 ∙ ap (standing_at plan) there.2,
)

reached-all : (plan : Lines) (depth : ℕ) (states : List State) → All (IsState plan depth) states → All (IsReachable plan) (standings_of plan states)
reached-all plan depth [] are = All-nil (IsReachable plan)
reached-all plan depth (state ∷ states) are =
    All-cons (IsReachable plan) (standing_at plan state) (standings_of plan states)
    (state.schedule.items, (All-head (IsState plan depth) state states are).comes) (reached-all plan depth states (All-tail (IsState plan depth) state states are))

-- the first level

pub IsCovered-first : (plan : Lines) (found : Found) (state : State) → IsEmptyFound found → IsState plan 0 state → IsCovered plan found 0 (state ∷ [])
IsCovered-first plan found state empty is = record {
  are = All-cons (IsState plan 0) state [] is (All-nil (IsState plan 0));
  visited = [];
  count = sym empty.states;
  reached = All-nil (IsReachable plan);
  covers = λ schedule now comes.
      let same : beginning plan ≡ standing_at plan state = ap (standing_of plan) (sym (length-none state.schedule.items is.deep)) in
      inr (record {
        state = state;
        there = (0, omega arith, refl);
        rest = schedule;
        later = now;
        leads = subst (λ (s : Standing). Leads plan s schedule now) same comes.leads;
        counts = subst (λ (s : Standing). Counts plan s schedule) same comes.counts;
        answers = λ a gives. inr gives;
        races = λ one other race. inr race;
        last = λ end. (omega arith, go-on-refl (is_asked plan) now);
      });
  soon = λ shown is. absurd (none-some shown (sym (none-stuck found empty) ∙ is));
}

-- the next level

module _ {plan : Lines} {old new : Found} {depth : ℕ} {states next : List State} (can : CanBeExplored plan) (covered : IsCovered plan old depth states)
    (grows : Grows plan depth (counted old (length states)) new) (visits : All (IsVisited plan new next) states) where
  may : MayAsk (is_asked plan) plan
  may = may-ask can

  abbrev visited : List Standing
  visited = covered.visited ++ standings_of plan states

  abbrev Known : LineAnswer → Type 0
  Known = IsKnown plan new visited

  known-more : (a : LineAnswer) → IsKnown plan old covered.visited a → Known a
  known-more a k =
      let t = k.there in
      record {
        there = record { now = t.now; there = Contains-append_left covered.visited (standings_of plan states) t.now t.there; may = t.may; at = t.at; step = t.step; next = t.next; made = t.made; answer = t.answer };
        listed = grows.given a.client a.place a.answer k.listed;
      }

  -- what a client that is followed is answered at a visited state
  known-here : (state : State) → Contains states state → (a : LineAnswer) → IsFollowed plan new next (standing_at plan state) a.client → Gives plan (standing_at plan state) a → Known a
  known-here state there a followed gives =
      let given = gives.given in
      record {
        there = record {
          now = standing_at plan state;
          there = Contains-append_right covered.visited (standings_of plan states) (standing_at plan state) (Contains-standing plan states state there);
          may = gives.may;
          at = given.at;
          step = given.step;
          next = given.next;
          made = given.made;
          answer = given.answer;
        };
        listed = followed.listed gives.may a.place a.answer given;
      }

  soon-next : (shown : List ℕ) → stuck_of new ≡ Some shown → length shown ≤ depth
  soon-next = grows.soon covered.soon

  finished-more : (schedule : Schedule) (now : Standing) → IsFinished plan old covered.visited schedule now → IsFinished plan new visited schedule now
  finished-more schedule now s = record {
    answers = λ a gives. known-more a (s.answers a gives);
    last = λ end. has-more (is_asked plan) covered.visited (standings_of plan states) now (s.last end);
    ended = λ place answer e. grows.ended (length plan.clients) place answer (s.ended place answer e);
    races = λ other one race. grows.races one other (s.races other one race);
    stuck = λ stuck. let shown = s.stuck stuck in (shown.0, grows.stuck shown.0 shown.1, shown.2);
  }

  -- a schedule that ends at a visited state
  finished-here : (schedule : Schedule) (now : Standing) → ComesTo plan schedule now → (g : LeadsOn plan old covered.visited depth states schedule now) → [] ≡ g.rest
      → HasRaces plan new (standing_at plan g.state) → FollowsAll plan new next (standing_at plan g.state) → IsFinished plan new visited schedule now
  finished-here schedule now comes g none has f =
      let from = standing_at plan g.state in
      let sound = sound-comes plan schedule now comes in
      let here : from ≡ g.later = subst (λ (r : Schedule). Leads plan from r g.later) (sym none) g.leads in
      let alike : IsLast plan now → GoOnAlike (is_asked plan) now from = λ end. subst (GoOnAlike (is_asked plan) now) (sym here) (g.last end).1 in
      record {
        answers = λ a gives. elim (g.answers a gives) [
          | inl known ↦ known-more a known
          | inr later ↦ known-here g.state g.there a (f.followed a.client) (subst (λ (s : Standing). Gives plan s a) (sym here) later)
        ];
        last = λ end. (from, Contains-append_right covered.visited (standings_of plan states) from (Contains-standing plan states g.state g.there), alike end);
        ended = λ place answer e.
            let end : IsLast plan now = λ client may. none-next plan now client (e.done client) in
            HasEnds-alike new may (alike end) sound f.ended place answer e;
        races = λ other one race. elim (g.races one other race) [
          | inl listed ↦ grows.races one other listed
          | inr later ↦ has other one (subst (λ (s : Standing). RaceAt plan s.made one other) (sym here) later)
        ];
        stuck = λ stuck.
            let shown = f.stuck (stuck-alike may (alike stuck.nobody) sound stuck) in
            let deep : length schedule ≡ depth + length g.rest = (g.last stuck.nobody).0 in
            (shown.0, shown.1, omega (arith, soon-next shown.0 shown.1, deep));
      }

  -- a client that is followed leads to a state of the next level, from which the rest of the schedule leads on
  goes-on : (schedule : Schedule) (now : Standing) → ComesTo plan schedule now → (g : LeadsOn plan old covered.visited depth states schedule now) (chosen : ℕ → Bool)
      → HasRaces plan new (standing_at plan g.state) → ((client : ℕ) → chosen client ≡ true → IsFollowed plan new next (standing_at plan g.state) client) → FirstGoes (is_asked plan) plan chosen (standing_at plan g.state) g.rest g.later
      → LeadsOn plan new visited (depth + 1) next schedule now
  goes-on schedule now comes g chosen has-races followed f =
      let from = standing_at plan g.state in
      let sound-from = sound-comes plan g.state.schedule.items from (All-contains (IsState plan depth) states g.state covered.are g.there).comes in
      let sound-start : IsSound (world_of f.start.history) = sound-made from f.client (next_line plan from f.client) f.start f.goes sound-from in
      let one = followed f.client f.one in
      let has = one.kept f.on f.start f.goes in
      let there = standing_at plan has.0 in
      let r = leads-alike may f.rest f.start there f.to sound-start has.2 f.leads in
      record {
        state = has.0;
        there = has.1;
        rest = f.rest;
        later = r.last;
        leads = r.leads;
        counts = counts-alike plan f.rest f.start there f.to r.last has.2 r.answers f.leads r.leads f.counts;
        answers = λ a gives. elim (g.answers a gives) [
          | inl known ↦ inl (known-more a known)
          | inr later ↦ elim (f.answers a later) [
            | inl here ↦ inl (known-here g.state g.there a (followed a.client here.0) here.1)
            | inr behind ↦ inr (gives-alike may r.alike (sound-leads plan f.start f.rest f.to f.leads sound-start) a behind)
          ]
        ];
        races = λ one other race. elim (g.races one other race) [
          | inl listed ↦ inl (grows.races one other listed)
          | inr later ↦ elim (f.races one other later) [
            | inl here ↦ inl (has-races other one here)
            | inr there ↦ inr (subst (λ (made : List ℕ). RaceAt plan made one other) r.alike.made there)
          ]
        ];
        last = λ end.
            let before = g.last end in
            let step = f.ends (last-alike may before.1 (sound-comes plan schedule now comes) end) in
            let deep : length schedule ≡ depth + length g.rest = before.0 in
            let one-less : length g.rest ≡ length f.rest + 1 = step.0 in
            (omega (arith, deep, one-less), go-on-trans (go-on-trans before.1 step.1) r.alike);
      }

  -- from a state where all clients are followed, the first client of the rest goes, if there is one
  on-all : (schedule : Schedule) (now : Standing) → ComesTo plan schedule now → (g : LeadsOn plan old covered.visited depth states schedule now) → HasRaces plan new (standing_at plan g.state) → FollowsAll plan new next (standing_at plan g.state)
      → (rest : Schedule) → rest ≡ g.rest → IsFinished plan new visited schedule now ⊎ LeadsOn plan new visited (depth + 1) next schedule now
  on-all schedule now comes g has f [] is = inl (finished-here schedule now comes g is has f)
  on-all schedule now comes g has f (client ∷ rest) is =
      let from = standing_at plan g.state in
      let leads = subst (λ (r : Schedule). Leads plan from r g.later) (sym is) g.leads in
      let counts = subst (λ (r : Schedule). Counts plan from r) (sym is) g.counts in
      let first = client-goes plan from client rest g.later (go-on-refl (is_asked plan) g.later) leads counts in
      inr (goes-on schedule now comes g (λ k. true) has (λ k is. f.followed k)
      (subst (λ (r : Schedule). FirstGoes (is_asked plan) plan (λ k. true) from r g.later) is first))

  covers-next : (schedule : Schedule) (now : Standing) → ComesTo plan schedule now → IsFinished plan new visited schedule now ⊎ LeadsOn plan new visited (depth + 1) next schedule now
  covers-next schedule now comes = elim (covered.covers schedule now comes) [
    | inl is ↦ inl (finished-more schedule now is)
    | inr g ↦ (
        let visit = All-contains (IsVisited plan new next) states g.state visits g.there in
        elim visit.left [
          | inl all ↦ on-all schedule now comes g visit.races all g.rest refl
          | inr some ↦ (
              let from = standing_at plan g.state in
              let sound = sound-comes plan g.state.schedule.items from (All-contains (IsState plan depth) states g.state covered.are g.there).comes in
              inr (goes-on schedule now comes g some.choice.chosen visit.races some.followed (chosen-goes may from some.choice some.persistent some.calm sound some.prompt some.outside some.onward g.rest g.later g.leads g.counts)))
        ])
  ]

  pub IsCovered-next : All (IsState plan (depth + 1)) next → IsCovered plan new (depth + 1) next
  IsCovered-next are = record {
    are = are;
    visited = visited;
    count = (let count : new.states ≡ old.states + length states = grows.states in omega (arith, length-append covered.visited (standings_of plan states), covered.count, length-map states (standing_at plan), count));
    reached = All-append (IsReachable plan) covered.visited (standings_of plan states) covered.reached (reached-all plan depth states covered.are);
    covers = covers-next;
    soon = λ shown is. omega (arith, soon-next shown is);
  }

-- what is found is right, also if the search stops within a level
pub IsRight-next : {plan : Lines} {bound depth : ℕ} {old new : Found} {states : List State} → IsCovered plan old depth states → Grows plan depth (counted old (length states)) new
    → IsRight plan bound old → old.states + length states ≤ bound → IsRight plan bound new
IsRight-next {plan} {bound} {depth} {old} {new} {states} covered grows right room =
    let count : new.states ≡ old.states + length states = grows.states in
    record {
      shown = grows.shown (IsTrue-same plan old (counted old (length states)) refl refl refl refl right.shown);
      once = grows.once (record { given = right.once.given; ended = right.once.ended; races = right.once.races });
      shortest = λ shown schedule now is comes stuck. elim (covered.covers schedule now comes) [
        | inl is_finished ↦ (
            let sooner = is_finished.stuck stuck in
            let same : sooner.0 ≡ shown = same_Some sooner.0 shown (sym (grows.stuck sooner.0 sooner.1) ∙ is) in
            omega (arith, sooner.2, ap length same))
        | inr g ↦ (
            let deep : length schedule ≡ depth + length g.rest = (g.last stuck.nobody).0 in
            let soon : length shown ≤ depth = grows.soon covered.soon shown is in
            omega (arith, soon, deep))
      ];
      within = omega (arith, count, room);
    }

-- a sum that fits
pub some-is : (P : Type 0) (o : Option ℕ) (v x : ℕ) → o ≡ Some x → SomeIff o P v → x ≡ v
some-is P o v x is iff = (subst (λ (o : Option ℕ). SomeIff o P v) is iff).1

-- what is found is right, however the search has ended
pub IsRight-same : (plan : Lines) (bound : ℕ) (found new : Found) → new.given ≡ found.given → new.ended ≡ found.ended → new.races ≡ found.races → new.stuck ≡ found.stuck → new.states ≡ found.states
    → IsRight plan bound found → IsRight plan bound new
IsRight-same plan bound found new given ended races stuck states r = record {
  shown = IsTrue-same plan found new given ended races stuck r.shown;
  once = record { given = rw given r.once.given; ended = rw ended r.once.ended; races = rw races r.once.races };
  shortest = λ shown schedule now is. r.shortest shown schedule now (sym (ap (option_map (λ (v : Vec ℕ Global). v.items)) stuck) ∙ is);
  within = rw states r.within;
}

-- the last level

module _ {plan : Lines} {found : Found} {depth : ℕ} (covered : IsCovered plan found depth []) where
  finished : (schedule : Schedule) (now : Standing) → ComesTo plan schedule now → IsFinished plan found covered.visited schedule now
  finished schedule now comes = elim (covered.covers schedule now comes) [
    | inl is ↦ is
    | inr g ↦ (let low = g.there.1 in absurd (omega (arith, low)))
  ]

  -- the answer is given where the schedule leads
  known : (schedule : Schedule) (client place : ℕ) (answer : Answer) → IsAnswered plan schedule client place answer
      → IsKnown plan found covered.visited (record { client = client; place = place; answer = answer })
  known schedule client place answer a =
      (finished schedule a.now a.comes).answers (record { client = client; place = place; answer = answer })
      (record { may = a.may; given = record { at = a.at; step = a.step; next = a.next; made = a.made; answer = a.answer } })

  pub IsAll-covered : IsAll plan found
  IsAll-covered = record {
    given = λ schedule client place answer a. (known schedule client place answer a).listed;
    ended = λ schedule place answer e. (finished schedule e.now e.comes).ended place answer (record { done = e.done; command = e.command; at = e.at; answer = e.answer });
    races = λ schedule one other r. (finished schedule r.now r.comes).races other one r.both;
    stuck = λ schedule now comes stuck. (finished schedule now comes).stuck stuck;
  }

  pub Suffice-covered : CanBeExplored plan → Suffice plan found.states
  Suffice-covered can = record {
    asked = is_asked plan;
    may = may-ask can;
    kept = covered.visited;
    count = covered.count;
    reached = covered.reached;
    answered = λ schedule client place given a. (known schedule client place given a).there;
    last = λ schedule now comes end. (finished schedule now comes).last end;
  }

  pub IsComplete-covered : CanBeExplored plan → (new : Found) → new.given ≡ found.given → new.ended ≡ found.ended → new.races ≡ found.races → new.stuck ≡ found.stuck → new.states ≡ found.states → IsComplete plan new
  IsComplete-covered can new given ended races stuck states =
      record { all = IsAll-same plan found new given ended races stuck IsAll-covered; enough = rw states (Suffice-covered can) }
