-- Up to when a trace is known.
use Rattle.std.specs.Prelude.{ℕ, Bool, false, ◌||◌, max, min, List, [], ◌∷◌}
use Rattle.trace_core.specs.Item.{Meaning, Event, Other}
use Rattle.trace_core.specs.declared.summary.TraceEnd.{TraceEnd}
use Rattle.trace_core.specs.declared.window.Span.{Span}

-- the end after a record, whatever its event
abbrev pub reached : ℕ → Bool → TraceEnd → TraceEnd
reached time is_end end = record { latest = max end.latest time; is_marked = end.is_marked || is_end }

abbrev pub end_with : Meaning → TraceEnd → TraceEnd
end_with (Event r) end = reached r.time false end
end_with (Other time is_end) end = reached time is_end end
end_with _ end = end

-- the latest time of the records of a text, 0 if it has none, and whether one of them marks the end of the trace
abbrev pub end_in : List Meaning → TraceEnd
end_in [] = record { latest = 0; is_marked = false }
end_in (item ∷ earlier) = end_with item (end_in earlier)

-- the last time that a window of the text has
abbrev pub last_time : Span → List Meaning → ℕ
last_time span items = min (end_in items).latest span.to
