-- What the fences of a timeline did.
use Rattle.std.specs.Prelude.{unwrap_or}
use Rattle.std.specs.Map.{lookup}
use Rattle.trace_core.specs.declared.fence_event.TimelineKey.{TimelineKey}
use Rattle.trace_core.specs.declared.tally.Tally.{Tally}
use Rattle.trace_core.specs.declared.timelines.TimelineTallies.{TimelineTallies}
use Rattle.trace_core.specs.Keys.{same_timeline}
use Rattle.trace_core.specs.Tally.{none}

-- what the timeline did
abbrev pub tally_at : TimelineTallies → TimelineKey → Tally
tally_at timelines key = unwrap_or (lookup (same_timeline key) timelines.by_key.entries) none
