-- The answer to a request, said from the requests accepted before it: from the kinds of the objects that are open, from
-- all that was put into them, and from what each file was made as.
use Rattle.std.specs.Prelude.{◌≡◌, ◌↔◌, ℕ, ◌+◌, ◌==◌, Bool, true, not, ◌&&◌, nat_le, if◌then◌else◌, ⊤, List, [], ◌∷◌, ◌++◌, length, map, codes, Option, None, Some, unwrap_or, Contains, Result, Ok, Err}
use Rattle.std.specs.List.Sorted.{IsStrictlyIncreasing}
use Rattle.point_core.specs.declared.status.Status.{Status}
use Rattle.point_core.specs.declared.status.Status.TheVariants.{Active, Signalled, Cancelled}
use Rattle.point_core.specs.Agreement.{all_reached}
use Rattle.point_core.specs.Usage.{usage_number}
use Rattle.device_core.specs.declared.text.Text.{Text}
use Rattle.device_core.specs.declared.info.FenceDriver.TheVariants.{SwSync}
use Rattle.device_core.specs.declared.info.FenceInfo.{FenceInfo}
use Rattle.device_core.specs.declared.info.FileInfo.{FileInfo}
use Rattle.device_core.specs.declared.errno.Errno.{Errno}
use Rattle.device_core.specs.declared.errno.Errno.TheVariants.{NoMemory}
use Rattle.device_core.specs.declared.request.Request.{Request}
use Rattle.device_core.specs.declared.request.Request.TheVariants as request
use Rattle.device_core.specs.declared.request.Reply.{Reply}
use Rattle.device_core.specs.declared.request.Reply.TheVariants as answer
use Rattle.device_core.specs.theorem.Names.{array_name, as_text, kernel_name, stub_name, text_of}
use Rattle.device_core.specs.theorem.Info.{stub_info}
use Rattle.device_core.specs.theorem.State.{empty_text}
use Rattle.device_core.specs.theorem.Request.{OnWoken}
use Rattle.device_core.specs.theorem.History.{history_after, sum_of}
use Rattle.device_core.specs.theorem.Signals.{first_status, opened_as}
use Rattle.device_core.specs.theorem.Put.{put_into, reach_after}
use Rattle.device_core.specs.theorem.Requests.{causes, first_cause, is_file, is_timeline, kinds, open_kind}
use Rattle.device_core.specs.theorem.Making.{Listed, Making, made_in, time_reached}

-- each point that was put into the file or buffer, at the usage or a stronger one, is reached
abbrev pub is_reached_at : List Request → ℕ → ℕ → Bool
is_reached_at history usage number = all_reached (reach_after history) usage (put_into history number)

-- the number is of an open file, and some point that was put into it is not reached
abbrev pub waits : List Request → ℕ → Bool
waits history number = is_file (open_kind history number) && not (is_reached_at history 0 number)

-- the number is of an open file, and each point that was put into it is reached
abbrev pub has_signalled : List Request → ℕ → Bool
has_signalled history number = is_file (open_kind history number) && is_reached_at history 0 number

-- the numbers of the files that waited before the request and have signalled after it, each once, by rising number
pub record AreWokenBy (history : List Request) (r : Request) (woken : List ℕ) : Type 0 where
  pub all : (n : ℕ) →
      (Contains woken n ↔ ((waits history n ≡ true) × (has_signalled (history ++ r ∷ []) n ≡ true)))
  pub rising : IsStrictlyIncreasing woken

-- there is such a file
abbrev pub WakesOne : List Request → Request → Type 0
WakesOne history r = (n : ℕ) × (waits history n ≡ true) × (has_signalled (history ++ r ∷ []) n ≡ true)

-- the request may fail for lack of memory: it makes something, puts something in, reports a list, or wakes a file
abbrev pub MayLackMemory : List Request → Request → Type 0
MayLackMemory history (request.Open name) = ⊤
MayLackMemory history (request.Fence timeline point now) = ⊤
MayLackMemory history (request.Inc timeline n now) = WakesOne history (request.Inc timeline n now)
MayLackMemory history (request.Merge a b name) = ⊤
MayLackMemory history (request.Status file) = ⊥
MayLackMemory history (request.IsSignalled file) = ⊥
MayLackMemory history (request.Info file) = ⊤
MayLackMemory history (request.Close number now) = WakesOne history (request.Close number now)
MayLackMemory history (request.Buffer now) = ⊤
MayLackMemory history (request.Export buffer flags) = ⊤
MayLackMemory history (request.Import buffer file flags) = ⊤
MayLackMemory history (request.Test buffer usage) = ⊥

-- a point is signalled once the increments of its timeline come to it; until then it is active while the timeline is
-- open, and cancelled once it is closed
abbrev pub status_after : List Request → Listed → Status
status_after history l =
    if nat_le l.point.value (sum_of l.point.ctx history)
    then Signalled
    else (if is_timeline (open_kind history l.point.ctx) then Active else Cancelled)

-- the status of a file, by the kernel's rule of the first fence
abbrev pub file_status : List Request → Making → Status
file_status history m = first_status (map (status_after history) m.points)

-- the name with which a timeline was opened
abbrev pub timeline_name : List Request → ℕ → Text
timeline_name history timeline = unwrap_or (opened_as timeline [] history) empty_text

-- the row of a point in the information on the file with the number
abbrev pub row_of : List Request → ℕ → Listed → FenceInfo
row_of history number l = record {
  timeline = timeline_name history l.point.ctx;
  driver = SwSync;
  status = status_after history l;
  at = time_reached history number l;
}

-- a row for each point, or one for the stub
abbrev pub rows_of : List Request → ℕ → Making → List FenceInfo
rows_of history number m =
    if length m.points == 0 then stub_info m.stub_at ∷ [] else map (row_of history number) m.points

-- the name of a file that was given none: the name of its stub, of its one fence, or of an array
abbrev pub fences_name : List Request → ℕ → List Listed → List ℕ
fences_name history number [] = stub_name
fences_name history number (l ∷ []) =
    kernel_name (codes "sw_sync") (text_of (timeline_name history l.point.ctx)) l.point.ctx l.low
fences_name history number (l ∷ k ∷ ls) = array_name number

abbrev pub name_of : List Request → ℕ → Making → List ℕ
name_of history number m =
    if length (text_of m.name) == 0 then fences_name history number m.points else text_of m.name

-- the information on a file
pub record IsInfoOf (history : List Request) (number : ℕ) (info : FileInfo) : Type 0 where
  pub name : info.name ≡ as_text (name_of history number (made_in history number))
  pub status : info.status ≡ file_status history (made_in history number)
  pub rows : info.fences.items ≡ rows_of history number (made_in history number)

-- the answer is such information
abbrev pub OnInfoOf : (FileInfo → Type 0) → Reply → Type 0
OnInfoOf such (answer.Number n) = ⊥
OnInfoOf such (answer.Woken woken) = ⊥
OnInfoOf such (answer.Status status) = ⊥
OnInfoOf such (answer.Signalled signalled) = ⊥
OnInfoOf such (answer.Info info) = such info
OnInfoOf such answer.Done = ⊥

-- the answer to an accepted request
abbrev pub Answers : List Request → Request → Reply → Type 0
Answers history (request.Open name) given = given ≡ answer.Number (length (kinds history) + 1)
Answers history (request.Fence timeline point now) given = given ≡ answer.Number (length (kinds history) + 1)
Answers history (request.Inc timeline n now) given = OnWoken (AreWokenBy history (request.Inc timeline n now)) given
Answers history (request.Merge a b name) given = given ≡ answer.Number (length (kinds history) + 1)
Answers history (request.Status file) given = given ≡ answer.Status (file_status history (made_in history file))
Answers history (request.IsSignalled file) given = given ≡ answer.Signalled (is_reached_at history 0 file)
Answers history (request.Info file) given = OnInfoOf (IsInfoOf history file) given
Answers history (request.Close number now) given = OnWoken (AreWokenBy history (request.Close number now)) given
Answers history (request.Buffer now) given = given ≡ answer.Number (length (kinds history) + 1)
Answers history (request.Export buffer flags) given = given ≡ answer.Number (length (kinds history) + 1)
Answers history (request.Import buffer file flags) given = given ≡ answer.Done
Answers history (request.Test buffer usage) given =
    given ≡ answer.Signalled (is_reached_at history (usage_number usage) buffer)

-- the refusal is the first cause, or that memory is short if there is none
abbrev pub Refuses : Option Errno → List Request → Request → Errno → Type 0
Refuses (Some cause) history r given = given ≡ cause
Refuses None history r given = (given ≡ NoMemory) × MayLackMemory history r

-- the answer or refusal of a request after a history
abbrev pub IsAnswered : List Request → Request → Result Reply Errno → Type 0
IsAnswered history r (Ok given) = (first_cause (causes history r) ≡ None) × Answers history r given
IsAnswered history r (Err refusal) = Refuses (first_cause (causes history r)) history r refusal

-- each request is answered so, after the requests accepted before it
abbrev pub AreAnswered : List Request → List Request → List (Result Reply Errno) → Type 0
AreAnswered history [] [] = ⊤
AreAnswered history [] (a ∷ rest) = ⊥
AreAnswered history (r ∷ rs) [] = ⊥
AreAnswered history (r ∷ rs) (a ∷ rest) = IsAnswered history r a × AreAnswered (history_after history r a) rs rest
