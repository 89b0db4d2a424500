-- The class of an event, given the state before it.
use Rattle.std.specs.Prelude.{ℕ, ◌==◌, Bool, true, false, not, ◌&&◌, ◌||◌, nat_lt}
use Rattle.trace_core.specs.declared.event.Event.{Event}
use Rattle.trace_core.specs.declared.event.Event.TheVariants.{Init, Emit, Signaled, Destroy}
use Rattle.trace_core.specs.declared.finding.Finding.{Finding}
use Rattle.trace_core.specs.declared.life.Life.{Life}
use Rattle.trace_core.specs.declared.order.Order.{Order}
use Rattle.trace_core.specs.declared.points.Points.{Points}
use Rattle.trace_core.specs.Order.{is_late, is_late_wrapped, is_repeat}
use Rattle.trace_core.specs.Points.{are_none}

abbrev pub is_init : Event → Bool
is_init Init = true
is_init _ = false

abbrev pub is_emit : Event → Bool
is_emit Emit = true
is_emit _ = false

abbrev pub is_signal : Event → Bool
is_signal Signaled = true
is_signal _ = false

abbrev pub is_destroy : Event → Bool
is_destroy Destroy = true
is_destroy _ = false

-- whether the fence that is destroyed was not signalled
abbrev pub is_end_unsignalled : Event → Life → Bool
is_end_unsignalled event life = is_destroy event && life.signalled == 0

-- whether a fence that is pending was made before a later one was signalled
abbrev pub is_overtaken : Life → Order → ℕ → Bool
is_overtaken life order seqno = nat_lt 0 life.pending && is_late_wrapped order seqno && nat_lt life.born order.at

-- whether fences of the key were signalled, and none is pending
abbrev pub is_signalled_only : Life → Bool
is_signalled_only life = life.pending == 0 && nat_lt 0 life.signalled

-- An event of a fence of that seqno, before which that was known of its key and of its context. It is sure what became of
-- the fence where no events were lost since it was made.
unfoldable pub finding_of : Event → ℕ → Life → Points → Order → Bool → Finding
finding_of event seqno life points order sure = record {
  event = event;
  new_context = are_none points;
  made_again = is_init event && nat_lt 0 life.pending;
  destroyed_pending = is_end_unsignalled event life && nat_lt 0 life.pending;
  signalled_unseen = is_signal event && not (nat_lt 0 life.pending);
  destroyed_unseen = is_end_unsignalled event life && not (nat_lt 0 life.pending);
  out_of_order = is_signal event && is_late order seqno;
  out_of_order_wrapped = is_signal event && is_late_wrapped order seqno;
  repeats = is_signal event && is_repeat order seqno;
  overtaken = is_signal event && sure && is_overtaken life order seqno;
  signalled_twice = is_signal event && sure && is_signalled_only life;
}

-- whether nothing was found of it
unfoldable pub is_plain : Finding → Bool
is_plain found = not (
    found.new_context
    || found.made_again
    || found.destroyed_pending
    || found.signalled_unseen
    || found.destroyed_unseen
    || found.out_of_order
    || found.out_of_order_wrapped
    || found.repeats
    || found.overtaken
    || found.signalled_twice)
