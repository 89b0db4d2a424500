-- What the fences of a context did.
use Rattle.std.specs.Prelude.{ℕ, Bool, unwrap_or}
use Rattle.std.specs.Map.{lookup}
use Rattle.trace_core.specs.declared.contexts.ContextState.{ContextState}
use Rattle.trace_core.specs.declared.contexts.Contexts.{Contexts}
use Rattle.trace_core.specs.declared.finding.Finding.{Finding}
use Rattle.trace_core.specs.declared.life.Life.{Life}
use Rattle.trace_core.specs.declared.points.Points.TheVariants.{None}
use Rattle.trace_core.specs.declared.fence_event.ContextKey.{ContextKey}
use Rattle.trace_core.specs.declared.fence_event.FenceEvent.{FenceEvent}
use Rattle.trace_core.specs.Finding.{finding_of}
use Rattle.trace_core.specs.Keys.{same_context}
use Rattle.trace_core.specs.Order.{no_order, order_after}
use Rattle.trace_core.specs.Points.{points_after}
use Rattle.trace_core.specs.Tally.{none, tally_after}

-- nothing is known of the context
abbrev pub no_context : ContextState
no_context = record { order = no_order; points = None; tally = none }

-- what the context did
abbrev pub context_at : Contexts → ContextKey → ContextState
context_at contexts key = unwrap_or (lookup (same_context key) contexts.by_key.entries) no_context

-- what is found of an event, by what was known of its key, and whether no events were lost since
abbrev pub found_of : FenceEvent → Life → Bool → ContextState → Finding
found_of e life sure context = finding_of e.kind e.key.seqno life context.points context.order sure

-- the context after event number `at` of one of its fences, with what was found of it
abbrev pub context_after : FenceEvent → ℕ → Finding → ContextState → ContextState
context_after e at found context = record {
  order = order_after e.kind e.key.seqno at context.order;
  points = points_after e.key.seqno context.points;
  tally = tally_after found context.tally;
}

-- the context after event number `at` of one of its fences, by what was known of its key
abbrev pub context_seen : FenceEvent → ℕ → Life → Bool → ContextState → ContextState
context_seen e at life sure context = context_after e at (found_of e life sure context) context
