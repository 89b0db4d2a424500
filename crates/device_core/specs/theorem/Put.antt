-- What the timelines have reached after a history, and what was put into each file and buffer, said from the requests: by
-- the increments, by the kinds of the objects and by which of these are open.
use Rattle.std.specs.Prelude.{ℕ, ◌+◌, if◌then◌else◌, List, [], ◌∷◌, ◌++◌, length, map}
use Rattle.std.specs.List.{range_with_len}
use Rattle.point_core.specs.declared.entry.Entry.{Entry}
use Rattle.point_core.specs.Reach.{GREATEST}
use Rattle.device_core.specs.declared.request.Request.{Request}
use Rattle.device_core.specs.theorem.History.{put_after, sum_of}
use Rattle.device_core.specs.theorem.Requests.{is_timeline, kinds, open_kind}

-- what a timeline has reached: the sum of its increments, or everything once it is closed
abbrev pub timeline_reach : List Request → ℕ → ℕ
timeline_reach history timeline =
    if is_timeline (open_kind history timeline) then sum_of timeline history else GREATEST

-- the reach of every number that was given. The reach of a file or a buffer is never looked at, since no point is of
-- one
abbrev pub reach_after : List Request → List ℕ
reach_after history = map (timeline_reach history) (range_with_len 1 (length (kinds history)))

-- the entries put into each object by further requests, from those that the history put in
abbrev pub puts_from : (ℕ → List Entry) → List Request → List Request → ℕ → List Entry
puts_from put history [] = put
puts_from put history (r ∷ rs) =
    puts_from (put_after put (length (kinds history) + 1) (λ timeline. sum_of timeline history) r) (history ++ r ∷ []) rs

-- all entries that a history put into the file or buffer with that number
abbrev pub put_into : List Request → ℕ → List Entry
put_into history = puts_from (λ _. []) [] history
