-- A window of a trace's time.
use Rattle.std.specs.Prelude.{ℕ, Bool, true, false, nat_le, nat_lt, if◌then◌else◌, List, Option, None, Some}
use Rattle.trace_core.specs.declared.window.Span.{Span}
use Rattle.trace_core.specs.declared.window.Stage.{Stage}
use Rattle.trace_core.specs.declared.window.Stage.TheVariants.{Before, Within, After}
use Rattle.trace_core.specs.Number.{time_spelled}

-- the time that a text spells, or the other one where there is no text
abbrev pub time_or : ℕ → Option (List ℕ) → Option ℕ
time_or other None = Some other
time_or other (Some text) = time_spelled text

-- the window between two times, if both are times and the first is not later
abbrev pub span_of : Option ℕ → Option ℕ → Option Span
span_of None to = None
span_of (Some from) None = None
span_of (Some from) (Some to) = if nat_le from to then Some (record { from = from; to = to }) else None

-- the stage after an event once the window began: past the window from the first event that is later than its end
abbrev pub within : Span → ℕ → Stage
within span time = if nat_lt span.to time then After else Within

-- the stage after an event at a time: times may step back, but a window that began stays open, and one that ended is over
unfoldable pub stage_after : Span → ℕ → Stage → Stage
stage_after span time Before = if nat_lt time span.from then Before else within span time
stage_after span time Within = within span time
stage_after span time After = After

abbrev pub is_over : Stage → Bool
is_over Before = false
is_over Within = false
is_over After = true
