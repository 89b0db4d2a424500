-- A search by levels: the states of a level are the states after schedules of one length.
use Rattle.std.specs.Prelude.{◌≡◌, ◌⊎◌, ℕ, ◌+◌, ◌<◌, ◌≤◌, ◌==◌, Bool, true, false, not, ◌&&◌, ◌||◌, if◌then◌else◌, filter, List, [], ◌∷◌, ◌++◌, length, map, take, All, Contains, Option, None, Some, IsSome, slice_get, get_or, unwrap_or}
use Rattle.std.specs.List.{list_any, AllPairs}
use Rattle.point_core.specs.declared.entry.Point.{Point}
use Rattle.point_core.specs.declared.timeline_row.TimelineRow.{TimelineRow}
use Rattle.point_core.specs.Clocks.{status_at}
use Rattle.point_core.specs.Named.{same_name}
use Rattle.point_core.specs.Status.{is_signalled}
use Rattle.command_core.specs.declared.command.Command.{Command}
use Rattle.command_core.specs.declared.command.Command.TheVariants as command
use Rattle.command_core.specs.declared.answer.Answer.{Answer}
use Rattle.timeline_core.specs.Timeline.{Timeline, clocks_of, reach_of, rows_of as timeline_rows}
use Rattle.syncfile_core.specs.Files.{HasDistinctNames, names_of as file_names}
use Rattle.dmabuf_core.specs.Buffers.{names_of as buffer_names, entries_of}
use Rattle.resv_core.specs.Resv.{rows_of as table_rows}
use Rattle.desk_core.specs.theorem.Answer.{is_refused}
use Rattle.desk_core.specs.theorem.Desk.{DeskState, HasHistory}
use Rattle.desk_core.specs.Keeping.{points_at}
use Rattle.explore_core.specs.declared.plan.Step.{Step}
use Rattle.explore_core.specs.declared.found.Found.{Found}
use Rattle.explore_core.specs.declared.look.FileLook.{FileLook}
use Rattle.explore_core.specs.declared.look.BufferLook.{BufferLook}
use Rattle.explore_core.specs.declared.position.Position.{Position}
use Rattle.explore_core.specs.declared.parts.Parts.{Parts}
use Rattle.explore_core.specs.declared.parts.Places.{Places}
use Rattle.explore_core.specs.declared.state.State.{State}
use Rattle.explore_core.specs.declared.visit.Visit.{Visit}
use Rattle.explore_core.specs.declared.tour.Move.{Move}
use Rattle.explore_core.specs.declared.tour.Move.TheVariants as move
use Rattle.explore_core.specs.declared.found.Given.{Given}
use Rattle.explore_core.specs.declared.found.Race.{Race}
use Rattle.explore_core.specs.Access.{RaceAt}
use Rattle.explore_core.specs.Covering.{GoOnAlike}
use Rattle.explore_core.specs.Found.{IsTrue, IsOther, ListsOnce, ListsRace, IsShortest, Lists, stuck_of}
use Rattle.explore_core.specs.Schedule.{Lines, Standing, Schedule, answer_now, history_with, history_along, beginning, made_by, next_line, can_be_made, after_one, is_in_block, ComesTo, GoesOn, IsExpected, MayGo}

-- the standing after the client's next line, or the same standing if it can't make one
abbrev pub standing_after : Lines → Standing → ℕ → Standing
standing_after plan now client = unwrap_or (after_one plan now client) now

abbrev pub standing_along : Lines → Standing → Schedule → Standing
standing_along plan from [] = from
standing_along plan from (client ∷ clients) = standing_along plan (standing_after plan from client) clients

-- the standing after the schedule
abbrev pub standing_of : Lines → Schedule → Standing
standing_of plan schedule = standing_along plan (beginning plan) schedule

-- the command was made, and no memory was missing
abbrev pub IsMade : DeskState → Command → Answer → DeskState → Type 0
IsMade old command given new =
    (history : List Command) → HasHistory old history
    → (given ≡ answer_now history command) × HasHistory new (history_with history command)

-- the desk has the standing's history, and each client is at the same line as at the standing
pub record IsAt (position : Position) (now : Standing) : Type 0 where
  pub desk : HasHistory position.desk now.history
  pub made : position.made.items ≡ now.made

-- the desk is at that standing, unless it has left it
abbrev pub IsVisitOf : Visit → Standing → Type 0
IsVisitOf visit now = visit.has_left ≡ false → IsAt visit.position now

-- the command changes no world
abbrev pub keeps_world : Command → Bool
keeps_world (command.Value t) = true
keeps_world (command.Wait f) = true
keeps_world (command.Info f) = true
keeps_world (command.Test b u) = true
keeps_world (command.Trim b) = true
keeps_world (command.Show b) = true
keeps_world command.Report = true
keeps_world _ = false

-- after that answer the world is the same
abbrev pub stays : Command → Answer → Bool
stays command given = keeps_world command || is_refused given

-- at the standing the client makes its line at this place, and gets this answer
pub record Answers (plan : Lines) (now : Standing) (client place : ℕ) (given : Answer) : Type 0 where
  pub at : made_by now client ≡ place
  pub step : Step
  pub next : next_line plan now client ≡ Some step
  pub made : can_be_made now step ≡ true
  pub answer : given ≡ answer_now now.history step.command

-- at the standing every client is done, and the command at this place among the commands at the end gets this answer
pub record Ends (plan : Lines) (now : Standing) (place : ℕ) (given : Answer) : Type 0 where
  pub done : (client : ℕ) → next_line plan now client ≡ None
  pub command : Command
  pub at : slice_get plan.last place ≡ Some command
  pub answer : given ≡ answer_now (history_along now.history (take place plan.last)) command

-- the client waits with its line, or has made the line at this place and got this answer
abbrev pub IsTurn : Lines → Standing → ℕ → ℕ → Option Answer → Position → Type 0
IsTurn plan now client place None position =
    (after_one plan now client ≡ None) × IsSome (next_line plan now client) × IsAt position now
IsTurn plan now client place (Some given) position =
    Answers plan now client place given × IsAt position (standing_after plan now client)

-- the file for which the command asks what it lists
abbrev pub asked_file : Command → Option (List ℕ)
asked_file (command.Info f) = Some f
asked_file _ = None

-- the command asks what the file of that name lists
abbrev pub asks_for : List ℕ → Command → Bool
asks_for name (command.Info f) = same_name f name
asks_for name _ = false

-- a line of the client asks what the file of that name lists
abbrev pub client_asks : List ℕ → List Step → Bool
client_asks name lines = list_any (λ (step : Step). asks_for name step.command) lines

-- a line of a client, or a command at the end, asks what the file of that name lists
abbrev pub is_asked : Lines → List ℕ → Bool
is_asked plan name = list_any (client_asks name) plan.clients || list_any (asks_for name) plan.last

-- one of the names is that name
abbrev pub is_name : List ℕ → List ℕ → Bool
is_name name n = same_name n name

abbrev pub has_name : List (List ℕ) → List ℕ → Bool
has_name names name = list_any (is_name name) names

-- the names are the names of the files for which a line of the plan asks what they list
abbrev pub AreAsked : Lines → List (List ℕ) → Type 0
AreAsked plan names = (name : List ℕ) → has_name names name ≡ is_asked plan name

-- the names are those before, and others
abbrev pub Adds : (List ℕ → Bool) → List (List ℕ) → List (List ℕ) → Type 0
Adds others old new = (name : List ℕ) → has_name new name ≡ (has_name old name || others name)

-- its timeline has not reached the point
abbrev pub is_to_come : List Timeline → Point → Bool
is_to_come ts p = not (is_signalled (status_at (clocks_of ts) p))

-- what is seen of the points of the file of that name: all of them if the file may be asked for them, or else the points to come
abbrev pub seen_points : (List ℕ → Bool) → DeskState → List ℕ → List Point
seen_points asked d name = if asked name then points_at d.files name else filter (is_to_come d.timelines) (points_at d.files name)

abbrev pub file_look : (List ℕ → Bool) → DeskState → List ℕ → FileLook
file_look asked d name = record { name = name; points = seen_points asked d name }

-- the pending tops of the buffer of that name
abbrev pub buffer_look : DeskState → List ℕ → BufferLook
buffer_look d name = record { name = name; tops = table_rows (entries_of d.buffers name) (reach_of d.timelines) }

-- the timelines, files and buffers of a desk, each by the order of making
pub record Look : Type 0 where
  pub timelines : List TimelineRow
  pub files : List FileLook
  pub buffers : List BufferLook

-- the look shows what the desk holds, but for its watches
pub record Shows (asked : List ℕ → Bool) (look : Look) (d : DeskState) : Type 0 where
  pub timelines : look.timelines ≡ timeline_rows d.timelines
  pub files : look.files ≡ map (file_look asked d) (file_names d.files)
  pub distinct : HasDistinctNames d.files
  pub buffers : look.buffers ≡ map (buffer_look d) (buffer_names d.buffers)

-- the same timelines and buffers, in order, and the same files in whatever order
pub record AreSameLooks (a b : Look) : Type 0 where
  pub timelines : a.timelines ≡ b.timelines
  pub buffers : a.buffers ≡ b.buffers
  pub there : All (λ (f : FileLook). Contains b.files f) a.files
  pub here : All (λ (f : FileLook). Contains a.files f) b.files
  pub count : length a.files ≡ length b.files

-- the standing after the state's schedule
abbrev pub standing_at : Lines → State → Standing
standing_at plan state = standing_of plan state.schedule.items

-- the state is the state after its schedule, which has that length
pub record IsState (plan : Lines) (depth : ℕ) (state : State) : Type 0 where
  pub deep : length state.schedule.items ≡ depth
  pub comes : ComesTo plan state.schedule.items (standing_at plan state)
  pub made : state.made.items ≡ (standing_at plan state).made

-- a state, and what is seen of its desk
pub record Seen : Type 0 where
  pub state : State
  pub look : Look

-- the states that a level keeps, and how many there may be
pub record LevelState : Type 0 where
  pub seen : List Seen
  pub room : ℕ

-- the look is seen at that state
pub record IsSeen (plan : Lines) (depth : ℕ) (seen : Seen) : Type 0 where
  pub state : IsState plan depth seen.state
  pub desk : DeskState
  pub history : HasHistory desk (standing_at plan seen.state).history
  pub look : Shows (is_asked plan) seen.look desk

abbrev pub states_of : List Seen → List State
states_of seen = map (λ (s : Seen). s.state) seen

-- one of the states continues as the standing does
abbrev pub HasLike : Lines → List State → Standing → Type 0
HasLike plan states now =
    (state : State) × Contains states state × GoOnAlike (is_asked plan) now (standing_at plan state)

-- in both, each client is at the same line, and the desks look the same
pub record AreSameSeen (a b : Seen) : Type 0 where
  pub made : a.state.made.items ≡ b.state.made.items
  pub look : AreSameLooks a.look b.look

-- the state is kept as the last, or one that is the same was kept before
abbrev pub Keeps : List Seen → Seen → List Seen → Type 0
Keeps old seen new =
    ((new ≡ old) × (other : Seen) × Contains old other × AreSameSeen seen other) ⊎ (new ≡ old ++ seen ∷ [])

-- the state is kept with what is seen of the desk
abbrev pub KeepsAt : (List ℕ → Bool) → List Seen → State → DeskState → List Seen → Type 0
KeepsAt asked old state d new = (look : Look) × Shows asked look d × Keeps old (record { state = state; look = look }) new

-- the new list begins with the old one
pub record Begins {X : Type 0} (old new : List X) : Type 0 where
  pub added : List X
  pub is : new ≡ old ++ added

abbrev pub no_parts : Parts
no_parts = record { timelines = []; files = []; buffers = [] }

abbrev pub no_file : FileLook
no_file = record { name = []; points = [] }

abbrev pub file_at : List FileLook → ℕ → FileLook
file_at files place = get_or files place no_file

-- the look that has its parts at these places
abbrev pub look_of : Parts → Places → Look
look_of parts places = record {
  timelines = get_or parts.timelines places.timelines [];
  files = map (file_at parts.files) places.files.items;
  buffers = get_or parts.buffers places.buffers [];
}

-- there is a part at each of the places
pub record Fits (parts : Parts) (places : Places) : Type 0 where
  pub timelines : places.timelines < length parts.timelines
  pub files : All (λ (i : ℕ). i < length parts.files) places.files.items
  pub buffers : places.buffers < length parts.buffers

-- no part has changed its place
pub record IsGrown (old new : Parts) : Type 0 where
  pub timelines : Begins old.timelines new.timelines
  pub files : Begins old.files new.files
  pub buffers : Begins old.buffers new.buffers

-- the same places, with the files in whatever order
pub record AreSamePlaces (a b : Places) : Type 0 where
  pub timelines : a.timelines ≡ b.timelines
  pub buffers : a.buffers ≡ b.buffers
  pub there : All (Contains b.files.items) a.files.items
  pub here : All (Contains a.files.items) b.files.items
  pub count : length a.files.items ≡ length b.files.items

-- the states, each with the look that has its parts at these places
abbrev pub seen_in : Parts → List State → List Places → List Seen
seen_in parts [] all = []
seen_in parts (state ∷ states) [] = []
seen_in parts (state ∷ states) (places ∷ all) = record { state = state; look = look_of parts places } ∷ seen_in parts states all

-- at one of the states, each client is at the same line, and the look has the same parts
pub record HasSame (states : List State) (all : List Places) (state : State) (places : Places) : Type 0 where
  pub place : ℕ
  pub other : State
  pub state_at : slice_get states place ≡ Some other
  pub others : Places
  pub places_at : slice_get all place ≡ Some others
  pub made : state.made.items ≡ other.made.items
  pub look : AreSamePlaces places others

-- whatever was found before is found still, and what is found anew happens in schedules of that length
pub record Grows (plan : Lines) (depth : ℕ) (old new : Found) : Type 0 where
  pub shown : IsTrue plan old → IsTrue plan new
  pub once : ListsOnce old → ListsOnce new
  pub states : new.states ≡ old.states
  pub covered : new.covered ≡ old.covered
  pub given : (client place : ℕ) (answer : Answer) →
      Lists old.given.items client place answer → Lists new.given.items client place answer
  pub ended : (client place : ℕ) (answer : Answer) →
      Lists old.ended.items client place answer → Lists new.ended.items client place answer
  pub races : (one other : ℕ) → ListsRace old.races.items one other → ListsRace new.races.items one other
  pub stuck : (shown : List ℕ) → stuck_of old ≡ Some shown → stuck_of new ≡ Some shown
  pub soon : ((shown : List ℕ) → stuck_of old ≡ Some shown → length shown ≤ depth)
      → (shown : List ℕ) → stuck_of new ≡ Some shown → length shown ≤ depth

-- the answer with that schedule
pub record IsGiven (client place : ℕ) (answer : Answer) (schedule : Schedule) (g : Given) : Type 0 where
  pub client_is : g.client ≡ client
  pub place_is : g.place ≡ place
  pub answer_is : g.answer ≡ answer
  pub schedule_is : g.schedule.items ≡ schedule

-- the answer was listed last, with that schedule, and was not listed before; or nothing was listed
abbrev pub Records : List Given → List Given → ℕ → ℕ → Answer → Schedule → Type 0
Records old new client place answer schedule =
    (new ≡ old)
    ⊎ ((g : Given) × (new ≡ old ++ g ∷ []) × IsGiven client place answer schedule g × (Lists old client place answer → ⊥))

-- the race of the two accesses
abbrev pub is_of : ℕ → ℕ → Race → Bool
is_of one other race = (race.one == one) && (race.other == other)

-- the two accesses with that schedule
pub record IsRaceOf (one other : ℕ) (schedule : Schedule) (r : Race) : Type 0 where
  pub one_is : r.one ≡ one
  pub other_is : r.other ≡ other
  pub schedule_is : r.schedule.items ≡ schedule

-- the race was listed last, with that schedule, and was not listed before; or nothing was listed
abbrev pub RecordsRace : List Race → List Race → ℕ → ℕ → Schedule → Type 0
RecordsRace old new one other schedule =
    (new ≡ old) ⊎ ((r : Race) × (new ≡ old ++ r ∷ []) × IsRaceOf one other schedule r × (ListsRace old one other → ⊥))

-- Each look is one that is seen if each was before. A standing that continued as a state did still continues as one does. There may
-- be as many states as before.
pub record Extends (plan : Lines) (depth : ℕ) (old new : LevelState) : Type 0 where
  pub seen : All (IsSeen plan depth) old.seen → All (IsSeen plan depth) new.seen
  pub alike : (now : Standing) → HasLike plan (states_of old.seen) now → HasLike plan (states_of new.seen) now
  pub room : new.room ≡ old.room

-- after the schedule the client makes its line, which leads to this state
abbrev pub IsReached : Lines → Schedule → ℕ → Seen → Type 0
IsReached plan schedule client seen =
    (after_one plan (standing_of plan schedule) client ≡ Some (standing_at plan seen.state))
    × IsSeen plan (length schedule + 1) seen

-- after the client's line, which leads to that standing, other clients may go
pub record LetsOthers (plan : Lines) (now : Standing) (client : ℕ) (later : Standing) : Type 0 where
  pub expected : IsExpected plan now client
  pub outside : is_in_block plan later.made client ≡ false

-- if the client makes its line, other clients may go after it
abbrev pub IsOnward : Lines → Standing → ℕ → Type 0
IsOnward plan now client =
    MayGo plan now.made client → (later : Standing) → after_one plan now client ≡ Some later → LetsOthers plan now client later

-- the client may go, and makes its line
abbrev pub Makes : Lines → Standing → ℕ → Type 0
Makes plan now client = MayGo plan now.made client × (later : Standing) × (after_one plan now client ≡ Some later)

-- the client is done, waits, or makes its line, after which others may go or not
abbrev pub IsMove : Lines → Standing → ℕ → Move → Type 0
IsMove plan now client move.Done = next_line plan now client ≡ None
IsMove plan now client move.Waits = (MayGo plan now.made client → after_one plan now client ≡ None) × IsSome (next_line plan now client)
IsMove plan now client move.Goes = Makes plan now client × IsOnward plan now client
IsMove plan now client move.Alone = Makes plan now client

-- If the client may go from the standing, its answer is listed. If a schedule goes on after it, the state that it leads to is kept.
pub record IsFollowed (plan : Lines) (found : Found) (next : List State) (now : Standing) (client : ℕ) : Type 0 where
  pub listed : MayGo plan now.made client → (place : ℕ) (answer : Answer) →
      Answers plan now client place answer → Lists found.given.items client place answer
  pub kept : GoesOn plan now client → (later : Standing) → after_one plan now client ≡ Some later → HasLike plan next later

pub record IsTried (plan : Lines) (found : Found) (next : List State) (state : State) (client : ℕ) (move : Move) : Type 0 where
  pub followed : IsFollowed plan found next (standing_at plan state) client
  pub is : IsMove plan (standing_at plan state) client move

-- the first clients are done, wait, or one of them makes its line
abbrev pub AreMoves : Lines → Standing → ℕ → Move → Type 0
AreMoves plan now clients move.Done = (client : ℕ) → client < clients → next_line plan now client ≡ None
AreMoves plan now clients move.Waits =
    ((client : ℕ) → client < clients → MayGo plan now.made client → after_one plan now client ≡ None)
    × (client : ℕ) × IsSome (next_line plan now client)
AreMoves plan now clients move.Goes = (client : ℕ) × Makes plan now client
AreMoves plan now clients move.Alone = (client : ℕ) × Makes plan now client

pub record AreTried (plan : Lines) (found : Found) (next : List State) (state : State) (clients : ℕ) (moves : Move) : Type 0 where
  pub followed : (client : ℕ) → client < clients → IsFollowed plan found next (standing_at plan state) client
  pub are : AreMoves plan (standing_at plan state) clients moves

-- what some clients do, and one more client
abbrev pub together : Move → Move → Move
together move.Goes one = move.Goes
together move.Alone one = move.Goes
together move.Waits move.Goes = move.Goes
together move.Waits move.Alone = move.Goes
together move.Waits move.Done = move.Waits
together move.Waits move.Waits = move.Waits
together move.Done one = one

-- no other client goes after the client
abbrev pub is_alone : Move → Bool
is_alone move.Alone = true
is_alone move.Goes = false
is_alone move.Waits = false
is_alone move.Done = false

-- the answers of the first commands at the end are listed
abbrev pub AreEndsListed : Lines → List Command → List Given → ℕ → Type 0
AreEndsListed plan history ended count =
    (place : ℕ) (command : Command) → place < count → slice_get plan.last place ≡ Some command
    → Lists ended (length plan.clients) place (answer_now (history_along history (take place plan.last)) command)

-- the answer is the answer to the command at this place among the commands at the end, with that schedule
pub record IsEnd (plan : Lines) (history : List Command) (schedule : Schedule) (g : Given) : Type 0 where
  pub schedule_is : g.schedule.items ≡ schedule
  pub command : Command
  pub at : slice_get plan.last g.place ≡ Some command
  pub answer : g.answer ≡ answer_now (history_along history (take g.place plan.last)) command

-- answers at the end were listed last, each once
pub record EndsAre (plan : Lines) (history : List Command) (schedule : Schedule) (old new : List Given) : Type 0 where
  pub once : AllPairs IsOther old → AllPairs IsOther new
  pub added : List Given
  pub is : new ≡ old ++ added
  pub ends : All (IsEnd plan history schedule) added

-- all answers at the end are listed
abbrev pub HasEnds : Lines → Found → Standing → Type 0
HasEnds plan found now = (place : ℕ) (answer : Answer) →
    Ends plan now place answer → Lists found.ended.items (length plan.clients) place answer

-- the races of the access with those before it are listed
abbrev pub HasRacesOf : Lines → Found → Standing → ℕ → Type 0
HasRacesOf plan found now other = (one : ℕ) → RaceAt plan now.made one other → ListsRace found.races.items one other

-- all races at the standing are listed
abbrev pub HasRaces : Lines → Found → Standing → Type 0
HasRaces plan found now = (other : ℕ) → HasRacesOf plan found now other

-- nothing is found
pub record IsEmptyFound (found : Found) : Type 0 where
  pub given : found.given.items ≡ []
  pub ended : found.ended.items ≡ []
  pub races : found.races.items ≡ []
  pub stuck : found.stuck ≡ None
  pub states : found.states ≡ 0

-- that many more states are counted as visited
abbrev pub counted : Found → ℕ → Found
counted found states = record found { states = found.states + states }

-- what is found is right, also if the search has stopped
pub record IsRight (plan : Lines) (bound : ℕ) (found : Found) : Type 0 where
  pub shown : IsTrue plan found
  pub once : ListsOnce found
  pub shortest : IsShortest plan found
  pub within : found.states ≤ bound

abbrev pub standings_of : Lines → List State → List Standing
standings_of plan states = map (standing_at plan) states
