-- What a file was made as, said from the requests before it: the name that it was given, the points that it lists, and
-- the time of its stub.
use Rattle.std.specs.Prelude.{ℕ, ◌+◌, ◌%◌, ◌^◌, ◌==◌, max, if◌then◌else◌, List, [], ◌∷◌, ◌++◌, length, map, fold, is_some, unwrap_or}
use Rattle.point_core.specs.declared.entry.Point.{Point}
use Rattle.point_core.specs.Agreement.{point_of}
use Rattle.device_core.specs.declared.text.Text.{Text}
use Rattle.device_core.specs.declared.request.Request.{Request}
use Rattle.device_core.specs.declared.request.Request.TheVariants as request
use Rattle.device_core.specs.theorem.Wrapping.{unwrapped}
use Rattle.device_core.specs.theorem.Buffers.{export_usage}
use Rattle.device_core.specs.theorem.State.{empty_text}
use Rattle.device_core.specs.theorem.Request.{with_at}
use Rattle.device_core.specs.theorem.History.{put_by_export, sum_of}
use Rattle.device_core.specs.theorem.Listing.{pending_points}
use Rattle.device_core.specs.theorem.Signals.{reached_from}
use Rattle.device_core.specs.theorem.Put.{put_into, reach_after}
use Rattle.device_core.specs.theorem.Requests.{kind_made, kinds}

-- a point that a file lists, and the point of 32 bits in its name
pub record Listed : Type 0 where
  pub point : Point
  pub low : ℕ

-- a file as it was made. A buffer has no name and no points, and the time of the stub of its exports
pub record Making : Type 0 where
  pub name : Text
  pub points : List Listed
  pub stub_at : ℕ

abbrev pub making : Text → List Listed → ℕ → Making
making name points stub_at = record { name = name; points = points; stub_at = stub_at }

-- a point that was pending when it was listed has its low half
abbrev pub low_half : Point → Listed
low_half p = record { point = p; low = p.value % 2 ^ 32 }

-- a file that lists pending points. If there are none it has one fence, a stub that signalled at that time
abbrev pub listing_file : Text → List Point → ℕ → Making
listing_file name points stub_at = making name (map low_half points) (if length points == 0 then stub_at else 0)

-- the time at which a point was reached while the file with the number was there, or 0
abbrev pub time_reached : List Request → ℕ → Listed → ℕ
time_reached history number l = unwrap_or (reached_from number l.point [] history) 0

-- the latest time at which a fence of a file signalled, its stub included
abbrev pub last_signal : List Request → ℕ → Making → ℕ
last_signal history number m = fold max m.stub_at (map (time_reached history number) m.points)

-- the file that a request makes, given the history and the files that it made: one point, as requested; or, for a merge
-- or an export, the latest pending point of each timeline among all points put in. A merge without pending points has
-- the signal of the last fence of both files, such an export the time at which its buffer was made. For any other request
-- the value is unused
abbrev pub made_as : (ℕ → Making) → List Request → Request → Making
made_as made history (request.Open name) = making name [] 0
made_as made history (request.Fence timeline point now) =
    making empty_text (record { point = point_of timeline (unwrapped (sum_of timeline history) point); low = point } ∷ []) 0
made_as made history (request.Inc timeline n now) = making empty_text [] 0
made_as made history (request.Merge a b name) =
    listing_file name (pending_points (reach_after history) (put_into history a ++ put_into history b) 0)
    (max (last_signal history a (made a)) (last_signal history b (made b)))
made_as made history (request.Status file) = making empty_text [] 0
made_as made history (request.IsSignalled file) = making empty_text [] 0
made_as made history (request.Info file) = making empty_text [] 0
made_as made history (request.Close number now) = making empty_text [] 0
made_as made history (request.Buffer now) = making empty_text [] now
made_as made history (request.Export buffer flags) =
    listing_file empty_text (pending_points (reach_after history) (put_by_export (export_usage flags) (put_into history buffer)) 0)
    (made buffer).stub_at
made_as made history (request.Import buffer file flags) = making empty_text [] 0
made_as made history (request.Test buffer usage) = making empty_text [] 0

-- what each number was made as, after one more request
abbrev pub makings_after : (ℕ → Making) → List Request → Request → ℕ → Making
makings_after made history r =
    if is_some (kind_made r) then with_at made (length (kinds history) + 1) (made_as made history r) else made

abbrev pub makings_from : (ℕ → Making) → List Request → List Request → ℕ → Making
makings_from made history [] = made
makings_from made history (r ∷ rs) = makings_from (makings_after made history r) (history ++ r ∷ []) rs

-- what the object with the number was made as
abbrev pub made_in : List Request → ℕ → Making
made_in history = makings_from (λ _. making empty_text [] 0) [] history
