-- The names of fences, contexts and timelines in a trace.
use Rattle.std.specs.Prelude.{nat_eq, Bool, ◌&&◌}
use Rattle.trace_core.specs.declared.fence_event.ContextKey.{ContextKey}
use Rattle.trace_core.specs.declared.fence_event.FenceKey.{FenceKey}
use Rattle.trace_core.specs.declared.fence_event.TimelineKey.{TimelineKey}

abbrev pub same_timeline : TimelineKey → TimelineKey → Bool
same_timeline a b = nat_eq a.driver b.driver && nat_eq a.timeline b.timeline

abbrev pub same_context : ContextKey → ContextKey → Bool
same_context a b = nat_eq a.driver b.driver && (nat_eq a.timeline b.timeline && nat_eq a.context b.context)

abbrev pub same_key : FenceKey → FenceKey → Bool
same_key a b =
    nat_eq a.driver b.driver && (nat_eq a.timeline b.timeline && (nat_eq a.context b.context && nat_eq a.seqno b.seqno))

abbrev pub timeline_of : FenceKey → TimelineKey
timeline_of key = record { driver = key.driver; timeline = key.timeline }

abbrev pub timeline_of_context : ContextKey → TimelineKey
timeline_of_context key = record { driver = key.driver; timeline = key.timeline }

abbrev pub context_of : FenceKey → ContextKey
context_of key = record { driver = key.driver; timeline = key.timeline; context = key.context }

-- the fences of a context that have no number yet
abbrev pub unnumbered : FenceKey → FenceKey
unnumbered key = record { driver = key.driver; timeline = key.timeline; context = key.context; seqno = 0 }
