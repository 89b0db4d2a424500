-- The signal of a fence along a history: when its point was reached, its status, and its name.
use Rattle.std.specs.Prelude.{ℕ, ◌+◌, Bool, ◌&&◌, nat_eq, nat_le, if◌then◌else◌, List, [], ◌∷◌, ◌++◌, length, Option, None, Some, is_some}
use Rattle.point_core.specs.declared.entry.Point.{Point}
use Rattle.point_core.specs.declared.status.Status.{Status}
use Rattle.point_core.specs.declared.status.Status.TheVariants.{Active, Signalled, Cancelled}
use Rattle.point_core.specs.Reach.{is_reached}
use Rattle.device_core.specs.declared.text.Text.{Text}
use Rattle.device_core.specs.declared.fence.Timeline.{Timeline}
use Rattle.device_core.specs.declared.request.Request.{Request}
use Rattle.device_core.specs.declared.request.Request.TheVariants as request
use Rattle.device_core.specs.theorem.History.{sum_of}
use Rattle.device_core.specs.theorem.Requests.{is_file, kinds, open_kind}
use Rattle.device_core.specs.theorem.Put.{reach_after}

-- the time at which a request is made, or 0 if it has none
abbrev pub time_in : Request → ℕ
time_in (request.Open name) = 0
time_in (request.Fence timeline point now) = now
time_in (request.Inc timeline n now) = now
time_in (request.Merge a b name) = 0
time_in (request.Status file) = 0
time_in (request.IsSignalled file) = 0
time_in (request.Info file) = 0
time_in (request.Close number now) = now
time_in (request.Buffer now) = now
time_in (request.Export buffer flags) = 0
time_in (request.Import buffer file flags) = 0
time_in (request.Test buffer usage) = 0

-- a file of that number is open, and its timeline has reached the point
abbrev pub has_reached : ℕ → Point → List Request → Bool
has_reached file p history = is_file (open_kind history file) && is_reached (reach_after history) p

-- the time of the first request, among those after a history, after which that holds
abbrev pub reached_from : ℕ → Point → List Request → List Request → Option ℕ
reached_from file p history [] = None
reached_from file p history (r ∷ rs) =
    if has_reached file p (history ++ r ∷ []) then Some (time_in r) else reached_from file p (history ++ r ∷ []) rs

-- a point is signalled once the increments of its timeline reach it; until then it is active while the timeline is
-- open, and cancelled once it is closed
abbrev pub point_status : (ℕ → Option Timeline) → List Request → Point → Status
point_status timelines history p =
    if nat_le p.value (sum_of p.ctx history)
    then Signalled
    else (if is_some (timelines p.ctx) then Active else Cancelled)

-- the kernel's order: the first status that is not signalled
abbrev pub first_status : List Status → Status
first_status [] = Signalled
first_status (Signalled ∷ others) = first_status others
first_status (Active ∷ others) = Active
first_status (Cancelled ∷ others) = Cancelled

-- the name with which a request opens the timeline of that number, if the next object gets the number `next`
abbrev pub name_in : ℕ → ℕ → Request → Option Text
name_in number next (request.Open name) = if nat_eq next number then Some name else None
name_in number next (request.Fence timeline point now) = None
name_in number next (request.Inc timeline n now) = None
name_in number next (request.Merge a b name) = None
name_in number next (request.Status file) = None
name_in number next (request.IsSignalled file) = None
name_in number next (request.Info file) = None
name_in number next (request.Close other now) = None
name_in number next (request.Buffer now) = None
name_in number next (request.Export buffer flags) = None
name_in number next (request.Import buffer file flags) = None
name_in number next (request.Test buffer usage) = None

abbrev pub first_name : Option Text → Option Text → Option Text
first_name None later = later
first_name (Some name) later = Some name

-- the name with which the timeline of that number was opened, by the requests after a history
abbrev pub opened_as : ℕ → List Request → List Request → Option Text
opened_as number history [] = None
opened_as number history (r ∷ rs) =
    first_name (name_in number (length (kinds history) + 1) r) (opened_as number (history ++ r ∷ []) rs)
