-- The sizes of a device's tables, by what is alive.
use Rattle.std.specs.Prelude.{◌≡◌, ℕ, ◌*◌, ◌≤◌, max, Bool, not, ◌&&◌, is_some, List, [], ◌∷◌, length, filter, Option, None, Some}
use Rattle.std.specs.List.{range_with_len, sum_by}
use Rattle.std.specs.Set.{distinct_count}
use Rattle.point_core.specs.declared.entry.Entry.{Entry}
use Rattle.point_core.specs.Agreement.{covers}
use Rattle.point_core.specs.Reach.{is_reached}
use Rattle.device_core.specs.declared.buffer.TheConstants.{GROWTH, UNTRIMMED}
use Rattle.device_core.specs.declared.device.TableSizes.{TableSizes}
use Rattle.device_core.specs.declared.request.Request.{Request}
use Rattle.device_core.specs.theorem.Fences.{pending_of}
use Rattle.device_core.specs.theorem.History.{World, empty_world, reach_of, world_after}
use Rattle.device_core.specs.theorem.Buffers.{BufferState}
use Rattle.device_core.specs.theorem.State.{DeviceState, FileState, Objects, objects_of, timeline_at, file_at, buffer_at}

-- the number of entries of its tables, and the length of the index
abbrev pub table_sizes_of : DeviceState → TableSizes
table_sizes_of d = record {
  timelines = length d.timelines;
  files = length d.files;
  buffers = length d.buffers;
  waiting = length d.index;
}

-- the number of given numbers whose object is alive
abbrev pub alive : {X : Type 0} → (ℕ → Option X) → ℕ → ℕ
alive kept next = length (filter (λ n. is_some (kept n)) (range_with_len 0 next))

-- the number of pending fences of a file
abbrev pub pending_in : Option FileState → ℕ
pending_in None = 0
pending_in (Some f) = length (pending_of f.fences)

-- the number of pending fences of the files that are alive
abbrev pub pending_alive : Objects → ℕ
pending_alive d = sum_by (λ n. pending_in (d.files n)) (range_with_len 0 d.next)

-- the tables have at most one entry for each timeline, file and buffer that is alive, and the index at most one point
-- for each pending fence of a file that is alive
pub record KeepsWhatIsAlive (d : DeviceState) : Type 0 where
  pub timelines : length d.timelines ≤ alive (timeline_at d) d.next
  pub files : length d.files ≤ alive (file_at d) d.next
  pub buffers : length d.buffers ≤ alive (buffer_at d) d.next
  pub waiting : length d.index ≤ pending_alive (objects_of d)

-- both are the same entry: each covers the other
abbrev pub is_same_entry : Entry → Entry → Bool
is_same_entry a b = covers a b && covers b a

-- the number of pending entries among those that were put into a buffer, each counted once
abbrev pub pending_put : World → ℕ → ℕ
pending_put w number =
    distinct_count is_same_entry (filter (λ e. not (is_reached (reach_of w.objects) e.point)) (w.put number))

-- the maximum of this number along the requests, from a world on
abbrev pub most_pending : ℕ → World → List Request → ℕ
most_pending number w [] = pending_put w number
most_pending number w (r ∷ rs) = max (pending_put w number) (most_pending number (world_after w r) rs)

-- a buffer that is alive has at most GROWTH times the fences that were ever pending in it at once, or GROWTH times
-- UNTRIMMED: fences that have signalled don't count, and neither do fences of an imported file that aren't pending
abbrev pub AreTrimmed : DeviceState → List Request → Type 0
AreTrimmed d history = (n : ℕ) (b : BufferState) → buffer_at d n ≡ Some b →
    length b.fences ≤ GROWTH * max (most_pending n empty_world history) UNTRIMMED
