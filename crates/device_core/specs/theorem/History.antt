-- A history is the list of accepted requests. It determines what was put into each file and buffer; a timeline is its
-- number.
use Rattle.std.specs.Prelude.{◌≡◌, ℕ, ◌+◌, ◌-◌, nat_eq, ⊤, if◌then◌else◌, List, [], ◌∷◌, ◌++◌, map, Option, None, Some, Result, Ok, Err}
use Rattle.std.specs.List.{range_with_len}
use Rattle.point_core.specs.declared.entry.Entry.{Entry}
use Rattle.point_core.specs.declared.entry.Usage.{Usage}
use Rattle.point_core.specs.Agreement.{as_entry, point_of}
use Rattle.point_core.specs.Reach.{GREATEST}
use Rattle.device_core.specs.declared.fence.Timeline.{Timeline}
use Rattle.device_core.specs.declared.errno.Errno.{Errno}
use Rattle.device_core.specs.declared.request.Request.{Request}
use Rattle.device_core.specs.declared.request.Request.TheVariants as request
use Rattle.device_core.specs.declared.request.Reply.{Reply}
use Rattle.device_core.specs.theorem.Wrapping.{unwrapped}
use Rattle.device_core.specs.theorem.Buffers.{at_usage, export_usage, import_usage}
use Rattle.device_core.specs.theorem.BufferWorld.{put_with}
use Rattle.device_core.specs.theorem.State.{DeviceState, Objects, no_objects, objects_of}
use Rattle.device_core.specs.theorem.Request.{with_at, value_in, after, cause_of, IsAnswer}

-- the objects of a device, and all that was ever put into each file and buffer, by number. Nothing of that is dropped,
-- not by a close either
pub record World : Type 0 where
  pub objects : Objects
  pub put : ℕ → List Entry

abbrev pub empty_world : World
empty_world = record { objects = no_objects; put = λ _. [] }

-- the 64-bit point that a point of 32 bits represents on the timeline with that number, at that value
abbrev pub asked : ℕ → ℕ → ℕ → List Entry
asked number value point = as_entry (point_of number (unwrapped value point)) ∷ []

-- the entries that an export puts into its file, from those put into the buffer
abbrev pub put_by_export : Result Usage Errno → List Entry → List Entry
put_by_export (Ok usage) put = at_usage usage put
put_by_export (Err refusal) put = []

-- the entries in a buffer after an import, from those put into both
abbrev pub put_by_import : Result Usage Errno → List Entry → List Entry → List Entry
put_by_import (Ok usage) put more = put ++ put_with usage more
put_by_import (Err refusal) put more = put

-- the entries put into each object after a request, given the next number and the value of each timeline
abbrev pub put_after : (ℕ → List Entry) → ℕ → (ℕ → ℕ) → Request → ℕ → List Entry
put_after put next value (request.Open name) = put
put_after put next value (request.Fence timeline point now) = with_at put next (asked timeline (value timeline) point)
put_after put next value (request.Inc timeline n now) = put
put_after put next value (request.Merge a b name) = with_at put next (put a ++ put b)
put_after put next value (request.Status file) = put
put_after put next value (request.IsSignalled file) = put
put_after put next value (request.Info file) = put
put_after put next value (request.Close number now) = put
put_after put next value (request.Buffer now) = with_at put next []
put_after put next value (request.Export buffer flags) =
    with_at put next (put_by_export (export_usage flags) (put buffer))
put_after put next value (request.Import buffer file flags) =
    with_at put buffer (put_by_import (import_usage flags) (put buffer) (put file))
put_after put next value (request.Test buffer usage) = put

abbrev pub world_after : World → Request → World
world_after w r = record {
  objects = after w.objects r;
  put = put_after w.put w.objects.next (λ timeline. value_in (w.objects.timelines timeline)) r;
}

abbrev pub world_from : World → List Request → World
world_from w [] = w
world_from w (r ∷ rs) = world_from (world_after w r) rs

-- the world that a history means
abbrev pub world_of : List Request → World
world_of history = world_from empty_world history

-- no request has a cause to be refused after those before it
abbrev pub AreAccepted : World → List Request → Type 0
AreAccepted w [] = ⊤
AreAccepted w (r ∷ rs) = (cause_of w.objects r ≡ None) × AreAccepted (world_after w r) rs

-- the list of requests is a history, and the device is its result
pub record HasHistory (d : DeviceState) (history : List Request) : Type 0 where
  pub accepted : AreAccepted empty_world history
  pub is : objects_of d ≡ (world_of history).objects

-- the history after a request with this answer
abbrev pub history_after : List Request → Request → Result Reply Errno → List Request
history_after history r (Ok given) = history ++ r ∷ []
history_after history r (Err refusal) = history

-- the history after requests with these answers
abbrev pub history_of : List Request → List Request → List (Result Reply Errno) → List Request
history_of history [] given = history
history_of history (r ∷ rs) [] = history
history_of history (r ∷ rs) (a ∷ rest) = history_of (history_after history r a) rs rest

-- each request has its answer, one after another
abbrev pub AreAnswers : List Request → List Request → List (Result Reply Errno) → Type 0
AreAnswers history [] [] = ⊤
AreAnswers history [] (a ∷ rest) = ⊥
AreAnswers history (r ∷ rs) [] = ⊥
AreAnswers history (r ∷ rs) (a ∷ rest) =
    IsAnswer (world_of history).objects r a × AreAnswers (history_after history r a) rs rest

-- the reach of a timeline: its value, or the greatest one once it is closed
abbrev pub reached_by : Option Timeline → ℕ
reached_by None = GREATEST
reached_by (Some t) = t.value

-- the reach of every number that was given. The reach of a file or a buffer is never looked at, since no point is of
-- one
abbrev pub reach_of : Objects → List ℕ
reach_of d = map (λ n. reached_by (d.timelines n)) (range_with_len 1 (d.next - 1))

-- the amount that a request adds to the timeline with that number
abbrev pub added_by : ℕ → Request → ℕ
added_by number (request.Inc timeline n now) = if nat_eq timeline number then n else 0
added_by number (request.Open name) = 0
added_by number (request.Fence timeline point now) = 0
added_by number (request.Merge a b name) = 0
added_by number (request.Status file) = 0
added_by number (request.IsSignalled file) = 0
added_by number (request.Info file) = 0
added_by number (request.Close other now) = 0
added_by number (request.Buffer now) = 0
added_by number (request.Export buffer flags) = 0
added_by number (request.Import buffer file flags) = 0
added_by number (request.Test buffer usage) = 0

-- the sum of a timeline's increments
abbrev pub sum_of : ℕ → List Request → ℕ
sum_of number [] = 0
sum_of number (r ∷ rs) = added_by number r + sum_of number rs
