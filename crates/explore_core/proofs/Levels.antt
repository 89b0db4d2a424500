-- What grows while a level is visited.
use Rattle.std.proofs.Common.{◌≡◌, ℕ, ◌+◌, zero, suc, Bool, refl, sym, ◌∙◌, subst, List, [], ◌∷◌, length, take, Some, slice_get, arith, inl, inr}
use Rattle.std.specs.Prelude.{All}
use Rattle.std.specs.List.{AllZip}
use Rattle.std.proofs.lemmas.List.Elements.{All-nil, All-cons, All-head, All-tail}
use Rattle.std.proofs.lemmas.Option.{same_Some, none-some}
use Rattle.point_core.proofs.Agreement.{AgreesAbove-refl}
use Rattle.timeline_core.specs.Timeline.{reach_of}
use Rattle.command_core.specs.declared.command.Command.{Command}
use Rattle.desk_core.specs.theorem.World.{World, MadeWatch, put_set, buffer_put_set}
use Rattle.desk_core.specs.theorem.History.{world_of}
use Rattle.desk_core.specs.Sound.{IsSound}
use Rattle.explore_core.specs.declared.found.Found.{Found}
use Rattle.explore_core.specs.declared.found.Given.{Given}
use Rattle.explore_core.specs.declared.found.Race.{Race}
use Rattle.explore_core.specs.Access.{IsRace}
use Rattle.explore_core.specs.declared.state.State.{State}
use Rattle.explore_core.specs.declared.tour.Tour.{Tour}
use Rattle.explore_core.specs.Tour.{Advances}
use Rattle.explore_core.specs.Alike.{AsksOnly, AreAlike, IsSameWatch}
use Rattle.explore_core.specs.Covering.{MayAsk, GoOnAlike}
use Rattle.explore_core.specs.Found.{IsTrue}
use Rattle.explore_core.specs.Schedule.{Lines, Standing, answer_now, history_with, history_along, IsAnswered, IsEndAnswered}
use Rattle.explore_core.specs.Levels.{IsLeft, IsVisited}
use Rattle.explore_core.specs.Search.{LevelState, is_asked, standing_at, states_of, HasEnds, HasRaces, Grows, Extends, IsFollowed, IsEmptyFound}
use Rattle.explore_core.proofs.Answering.{same_answer}
use Rattle.explore_core.proofs.Staying.{alike-answered}
use Rattle.explore_core.proofs.Covering.{world-with, sound-with, next-same}

-- finding more

pub Grows-refl : (plan : Lines) (depth : ℕ) (found : Found) → Grows plan depth found found
Grows-refl plan depth found = record {
  shown = λ t. t;
  once = λ o. o;
  states = refl;
  covered = refl;
  given = λ client place answer h. h;
  ended = λ client place answer h. h;
  races = λ one other h. h;
  stuck = λ shown h. h;
  soon = λ h. h;
}

pub Grows-trans : {plan : Lines} {depth : ℕ} {a b c : Found} → Grows plan depth a b → Grows plan depth b c → Grows plan depth a c
Grows-trans g h = record {
  shown = λ t. h.shown (g.shown t);
  once = λ o. h.once (g.once o);
  states = h.states ∙ g.states;
  covered = h.covered ∙ g.covered;
  given = λ client place answer l. h.given client place answer (g.given client place answer l);
  ended = λ client place answer l. h.ended client place answer (g.ended client place answer l);
  races = λ one other l. h.races one other (g.races one other l);
  stuck = λ shown is. h.stuck shown (g.stuck shown is);
  soon = λ s. h.soon (g.soon s);
}

pub Extends-refl : (plan : Lines) (depth : ℕ) (level : LevelState) → Extends plan depth level level
Extends-refl plan depth level = record { seen = λ all. all; alike = λ now has. has; room = refl }

pub Extends-trans : {plan : Lines} {depth : ℕ} {a b c : LevelState} → Extends plan depth a b → Extends plan depth b c → Extends plan depth a c
Extends-trans g h = record { seen = λ all. h.seen (g.seen all); alike = λ now has. h.alike now (g.alike now has); room = h.room ∙ g.room }

module _ {plan : Lines} {depth : ℕ} {old new : Found} where
  -- more is found, and the next level is the same
  pub Advances-found : (level : LevelState) → Grows plan depth old new → Grows plan depth old new × Extends plan (depth + 1) level level
  Advances-found level grows = (grows, Extends-refl plan (depth + 1) level)

  pub Advances-trans : {later : Found} {next more all : LevelState} → Grows plan depth old new × Extends plan (depth + 1) next more → Grows plan depth new later × Extends plan (depth + 1) more all
      → Grows plan depth old later × Extends plan (depth + 1) next all
  Advances-trans g h = (Grows-trans g.0 h.0, Extends-trans g.1 h.1)

pub Advances-refl : (plan : Lines) (depth : ℕ) (tour : Tour) → Advances plan depth tour tour
Advances-refl plan depth tour = Advances-found tour.next (Grows-refl plan depth tour.found)

-- a standing goes on as itself

watches-refl : (reach : List ℕ) (xs : List MadeWatch) → AllZip (IsSameWatch reach) xs xs
watches-refl reach [] = tt
watches-refl reach (x ∷ xs) = (record { cookie = refl; put = AgreesAbove-refl reach x.put }, watches-refl reach xs)

alike-refl : (asked : List ℕ → Bool) (w : World) → AreAlike asked w w
alike-refl asked w = record {
  timelines = refl;
  file_counts = λ n. refl;
  files_made = refl;
  files = λ n. AgreesAbove-refl (reach_of w.timelines) (put_set w.files n);
  lists = λ n is. refl;
  buffer_names = refl;
  buffers = λ n. AgreesAbove-refl (reach_of w.timelines) (buffer_put_set w.buffers n);
  watches = watches-refl (reach_of w.timelines) w.watches;
  watches_made = refl;
}

pub go-on-refl : (asked : List ℕ → Bool) (now : Standing) → GoOnAlike asked now now
go-on-refl asked now = record { made = refl; worlds = alike-refl asked (world_of now.history) }

-- what is listed of a standing is listed of one that goes on alike

All-get : {X : Type 0} (P : X → Type 0) (xs : List X) (k : ℕ) (x : X) → All P xs → slice_get xs k ≡ Some x → P x
All-get P [] k x all at = absurd (none-some x at)
All-get P (y ∷ ys) zero x all at = subst P (same_Some y x at) (All-head P y ys all)
All-get P (y ∷ ys) (suc k) x all at = All-get P ys k x (All-tail P y ys all) at

All-front : {X : Type 0} (P : X → Type 0) (n : ℕ) (xs : List X) → All P xs → All P (take n xs)
All-front P zero xs all = All-nil P
All-front P (suc n) [] all = All-nil P
All-front P (suc n) (x ∷ xs) all = All-cons P x (take n xs) (All-head P x xs all) (All-front P n xs (All-tail P x xs all))

module _ {asked : List ℕ → Bool} where
  alike-along : (history other cs : List Command) → IsSound (world_of history) → AreAlike asked (world_of history) (world_of other) → All (AsksOnly asked) cs
      → AreAlike asked (world_of (history_along history cs)) (world_of (history_along other cs)) × IsSound (world_of (history_along history cs))
  alike-along history other [] sound alike asks = (alike, sound)
  alike-along history other (c ∷ cs) sound alike asks =
      alike-along (history_with history c) (history_with other c) cs (sound-with history c sound)
      (rw (world-with history c, world-with other c) (alike-answered alike c (All-head (AsksOnly asked) c cs asks) sound))
      (All-tail (AsksOnly asked) c cs asks)

  same-end : (plan : Lines) → MayAsk asked plan → (now other : Standing) → GoOnAlike asked now other → IsSound (world_of now.history) → (place : ℕ) (command : Command) → slice_get plan.last place ≡ Some command
      → answer_now (history_along now.history (take place plan.last)) command ≡ answer_now (history_along other.history (take place plan.last)) command
  same-end plan may now other g sound place command at =
      let along = alike-along now.history other.history (take place plan.last) sound g.worlds (All-front (AsksOnly asked) place plan.last may.last) in
      same_answer along.0 command (All-get (AsksOnly asked) plan.last place command may.last at) along.1

pub HasEnds-alike : {plan : Lines} (found : Found) {now other : Standing} → MayAsk (is_asked plan) plan → GoOnAlike (is_asked plan) now other → IsSound (world_of now.history) → HasEnds plan found other → HasEnds plan found now
HasEnds-alike {plan} found {now} {other} may g sound ends place answer e =
    ends place answer (record {
      done = λ client. sym (next-same may g sound client) ∙ e.done client;
      command = e.command;
      at = e.at;
      answer = e.answer ∙ same-end plan may now other g sound place e.command e.at;
    })

-- what is listed stays listed

pub HasEnds-grows : {plan : Lines} {depth : ℕ} {old new : Found} (now : Standing) → Grows plan depth old new → HasEnds plan old now → HasEnds plan new now
HasEnds-grows {plan} now g ends = λ place answer e. g.ended (length plan.clients) place answer (ends place answer e)

pub HasRaces-grows : {plan : Lines} {depth : ℕ} {old new : Found} (now : Standing) → Grows plan depth old new → HasRaces plan old now → HasRaces plan new now
HasRaces-grows now g has = λ other one race. g.races one other (has other one race)

pub IsFollowed-grows : {plan : Lines} {depth deeper : ℕ} {old new : Found} {next more : LevelState} (now : Standing) (client : ℕ) → Grows plan depth old new → Extends plan deeper next more
    → IsFollowed plan old (states_of next.seen) now client → IsFollowed plan new (states_of more.seen) now client
IsFollowed-grows now client g x f = record {
  listed = λ may place answer a. g.given client place answer (f.listed may place answer a);
  kept = λ on later goes. x.alike later (f.kept on later goes);
}

IsLeft-grows : {plan : Lines} {depth deeper : ℕ} {old new : Found} {next more : LevelState} (state : State) → Grows plan depth old new → Extends plan deeper next more
    → IsLeft plan old (states_of next.seen) state → IsLeft plan new (states_of more.seen) state
IsLeft-grows {plan} state g x v = elim v [
  | inl all ↦ inl (record {
    followed = λ client. IsFollowed-grows (standing_at plan state) client g x (all.followed client);
    ended = HasEnds-grows (standing_at plan state) g all.ended;
    stuck = λ stuck. let shown = all.stuck stuck in (shown.0, g.stuck shown.0 shown.1);
  })
  | inr some ↦ inr (record {
    bounds = some.bounds;
    calm = some.calm;
    prompt = some.prompt;
    outside = some.outside;
    choice = some.choice;
    persistent = some.persistent;
    followed = λ client chosen. IsFollowed-grows (standing_at plan state) client g x (some.followed client chosen);
    onward = some.onward;
  })
]

pub IsVisited-grows : {plan : Lines} {depth deeper : ℕ} {old new : Found} {next more : LevelState} (state : State) → Grows plan depth old new → Extends plan deeper next more
    → IsVisited plan old (states_of next.seen) state → IsVisited plan new (states_of more.seen) state
IsVisited-grows {plan} state g x v = record { races = HasRaces-grows (standing_at plan state) g v.races; left = IsLeft-grows state g x v.left }

pub length-none : {X : Type 0} (xs : List X) → length xs ≡ 0 → xs ≡ []
length-none [] is = refl
length-none (x ∷ xs) is = absurd (omega (arith, is))

pub IsTrue-empty : (plan : Lines) (found : Found) → IsEmptyFound found → IsTrue plan found
IsTrue-empty plan found empty = record {
  given = rw empty.given (All-nil (λ (g : Given). IsAnswered plan g.schedule.items g.client g.place g.answer));
  ended = rw empty.ended (All-nil (λ (g : Given). IsEndAnswered plan g.schedule.items g.place g.answer));
  races = rw empty.races (All-nil (λ (r : Race). IsRace plan r.schedule.items r.one r.other));
  stuck = rw empty.stuck tt;
}
