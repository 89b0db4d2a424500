-- What a run of a schedule shows, how far its lines are from the plan's order of turns, and what is found once schedules are shortened.
use Rattle.std.specs.Prelude.{◌≡◌, ℕ, ◌+◌, ◌≤◌, nat_lt, Bool, false, List, [], ◌∷◌, ◌++◌, length, map, drop, get_or, All, Option, None, Some}
use Rattle.std.specs.List.{prefix_len, range_with_len, sum_by}
use Rattle.explore_core.specs.declared.best.Aim.{Aim}
use Rattle.explore_core.specs.declared.best.Aim.TheVariants as aim
use Rattle.explore_core.specs.declared.best.Best.{Best}
use Rattle.explore_core.specs.declared.best.Purpose.{Purpose}
use Rattle.explore_core.specs.declared.found.Found.{Found}
use Rattle.explore_core.specs.declared.found.Given.{Given}
use Rattle.explore_core.specs.declared.found.Race.{Race}
use Rattle.explore_core.specs.declared.plan.Step.{Step}
use Rattle.explore_core.specs.declared.position.Position.{Position}
use Rattle.explore_core.specs.declared.rerun.Rerun.{Rerun}
use Rattle.explore_core.specs.declared.shown.Shown.{Shown}
use Rattle.explore_core.specs.declared.shown.Shown.TheVariants as shown
use Rattle.explore_core.specs.Access.{RaceAt, IsRace}
use Rattle.explore_core.specs.Moving.{LineAnswer}
use Rattle.explore_core.specs.Schedule.{Lines, lines_of, Standing, Schedule, beginning, next_line, after_one, ComesTo, GoesOn, IsStuck, IsAnswered, MayGo}
use Rattle.explore_core.specs.Search.{Answers, IsAt}

-- the lines that each client has still to make, where each has made or skipped that many
abbrev pub lines_ahead : Lines → List ℕ → List (List Step)
lines_ahead plan made = map (λ client. drop (get_or made client 0) (lines_of plan client)) (range_with_len 0 (length plan.clients))

abbrev pub comes_before : ℕ → Step → Bool
comes_before turn step = nat_lt step.turn turn

-- how many lines a line of that turn overtakes: of each client the next ones, as long as their turns are less
abbrev pub overtaken_by : Lines → List ℕ → ℕ → ℕ
overtaken_by plan made turn = sum_by (prefix_len (comes_before turn)) (lines_ahead plan made)

abbrev pub overtaken_by_line : Lines → Standing → Option Step → ℕ
overtaken_by_line plan now None = 0
overtaken_by_line plan now (Some step) = overtaken_by plan now.made step.turn

-- how many lines the lines of the schedule overtake, from a standing on
abbrev pub overtaken_along : Lines → Option Standing → Schedule → ℕ
overtaken_along plan standing [] = 0
overtaken_along plan None (client ∷ clients) = 0
overtaken_along plan (Some now) (client ∷ clients) =
    overtaken_by_line plan now (next_line plan now client) + overtaken_along plan (after_one plan now client) clients

-- How far a schedule is from the plan's order: how many lines its lines overtake. It is none if the lines are made by their turns.
abbrev pub overtaken : Lines → Schedule → ℕ
overtaken plan schedule = overtaken_along plan (Some (beginning plan)) schedule

-- the schedule of an answer, and the line that gets it
abbrev pub with_line : Given → Schedule
with_line g = g.schedule.items ++ g.client ∷ []

-- The clients that have gone could go one after another, and what their lines overtake is counted. The desk is where they come to, unless a
-- line was made after which no schedule goes on.
pub record HasRun (plan : Lines) (rerun : Rerun) : Type 0 where
  pub to : Standing
  pub comes : ComesTo plan rerun.gone.items to
  pub at : rerun.has_ended ≡ false → IsAt rerun.position to
  pub counted : rerun.overtaken ≡ overtaken plan rerun.gone.items

-- a schedule goes on after the client's next line, and the desk is at the standing after it
abbrev pub GoesTo : Lines → Standing → ℕ → Position → Type 0
GoesTo plan now client position =
    GoesOn plan now client × (later : Standing) × (after_one plan now client ≡ Some later) × IsAt position later

-- a client that may not go, or can't make its next line, leaves the desk where it is
abbrev pub StaysAt : Lines → Standing → ℕ → Position → Type 0
StaysAt plan now client position = (MayGo plan now.made client → after_one plan now client ≡ None) × IsAt position now

-- the schedule gets stuck
abbrev pub GetsStuck : Lines → Schedule → Type 0
GetsStuck plan schedule = (now : Standing) × ComesTo plan schedule now × IsStuck plan now

-- at the standing the line gets the answer, the accesses are a race, or the schedule is stuck
abbrev pub Happens : Lines → Standing → Shown → Type 0
Happens plan now (shown.Answer client place answer) = MayGo plan now.made client × Answers plan now client place answer.now
Happens plan now (shown.Race one other) = RaceAt plan now.made one other
Happens plan now shown.Stuck = IsStuck plan now

-- the line gets the answer after the schedule, the accesses are a race there, or the schedule gets stuck
abbrev pub IsShownAfter : Lines → Shown → Schedule → Type 0
IsShownAfter plan (shown.Answer client place answer) schedule = IsAnswered plan schedule client place answer.now
IsShownAfter plan (shown.Race one other) schedule = IsRace plan schedule one other
IsShownAfter plan shown.Stuck schedule = GetsStuck plan schedule

-- the schedule, and the line whose answer it is shown for
abbrev pub through : Shown → Schedule → Schedule
through (shown.Answer client place answer) schedule = schedule ++ client ∷ []
through _ schedule = schedule

-- what a schedule costs: its lines, or what these overtake
abbrev pub cost_by : Lines → Shown → Aim → Schedule → ℕ
cost_by plan what aim.Few schedule = length schedule
cost_by plan what aim.Near schedule = overtaken plan (through what schedule)

abbrev pub cost_of : Lines → Purpose → Schedule → ℕ
cost_of plan purpose schedule = cost_by plan purpose.shown purpose.aim schedule

-- what was shown is shown still, at no higher cost, which is known if it was
pub record IsBetter (plan : Lines) (purpose : Purpose) (old new : Best) : Type 0 where
  pub shown : IsShownAfter plan purpose.shown old.schedule.items → IsShownAfter plan purpose.shown new.schedule.items
  pub cost : new.cost ≤ old.cost
  pub known : old.cost ≡ cost_of plan purpose old.schedule.items → new.cost ≡ cost_of plan purpose new.schedule.items

-- the line of an answer, and the answer, whatever the schedule that is shown with it
abbrev pub line_of : Given → LineAnswer
line_of g = record { client = g.client; place = g.place; answer = g.answer }

-- the two accesses of a race, whatever the schedule that is shown with it
pub record AccessPair : Type 0 where
  pub one : ℕ
  pub other : ℕ

abbrev pub pair_of : Race → AccessPair
pair_of r = record { one = r.one; other = r.other }

-- the answer is given after the schedule that is shown with it
abbrev pub IsTrueAnswer : Lines → Given → Type 0
IsTrueAnswer plan g = IsAnswered plan g.schedule.items g.client g.place g.answer

-- the accesses are a race after the schedule that is shown with them
abbrev pub IsTrueRace : Lines → Race → Type 0
IsTrueRace plan r = IsRace plan r.schedule.items r.one r.other

-- what an element is for is the same in both lists, and each element is right if each was before
pub record AreShortened {X Y : Type 0} (for_what : X → Y) (IsTrueOne : X → Type 0) (old new : List X) : Type 0 where
  pub same : map for_what new ≡ map for_what old
  pub right : All IsTrueOne old → All IsTrueOne new

-- the same is found, after other schedules
pub record IsShortened (plan : Lines) (old new : Found) : Type 0 where
  pub given : AreShortened line_of (IsTrueAnswer plan) old.given.items new.given.items
  pub races : AreShortened pair_of (IsTrueRace plan) old.races.items new.races.items
  pub rest : new ≡ record old { given = new.given; races = new.races }
