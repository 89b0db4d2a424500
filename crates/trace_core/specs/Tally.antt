-- Counts of events and of what they did.
use Rattle.std.specs.Prelude.{ℕ, ◌+◌, ◌-◌, ◌^◌, Bool, if◌then◌else◌, min}
use Rattle.trace_core.specs.declared.event.Event.{Event}
use Rattle.trace_core.specs.declared.event.Event.TheVariants.{Init, Emit, EnableSignal, Signaled, WaitStart, WaitEnd, Destroy}
use Rattle.trace_core.specs.declared.finding.Finding.{Finding}
use Rattle.trace_core.specs.declared.tally.EventCounts.{EventCounts}
use Rattle.trace_core.specs.declared.tally.Tally.{Tally}

-- one more, at most what 64 bits hold
abbrev pub plus_one : ℕ → ℕ
plus_one n = min (n + 1) (2 ^ 64 - 1)

abbrev pub count_if : ℕ → Bool → ℕ
count_if n one_more = if one_more then plus_one n else n

abbrev pub no_events : EventCounts
no_events = record { init = 0; emit = 0; enable_signal = 0; signaled = 0; wait_start = 0; wait_end = 0; destroy = 0 }

-- with one more event
unfoldable pub counts_after : Event → EventCounts → EventCounts
counts_after Init c = record {
  init = plus_one c.init;
  emit = c.emit;
  enable_signal = c.enable_signal;
  signaled = c.signaled;
  wait_start = c.wait_start;
  wait_end = c.wait_end;
  destroy = c.destroy;
}
counts_after Emit c = record {
  init = c.init;
  emit = plus_one c.emit;
  enable_signal = c.enable_signal;
  signaled = c.signaled;
  wait_start = c.wait_start;
  wait_end = c.wait_end;
  destroy = c.destroy;
}
counts_after EnableSignal c = record {
  init = c.init;
  emit = c.emit;
  enable_signal = plus_one c.enable_signal;
  signaled = c.signaled;
  wait_start = c.wait_start;
  wait_end = c.wait_end;
  destroy = c.destroy;
}
counts_after Signaled c = record {
  init = c.init;
  emit = c.emit;
  enable_signal = c.enable_signal;
  signaled = plus_one c.signaled;
  wait_start = c.wait_start;
  wait_end = c.wait_end;
  destroy = c.destroy;
}
counts_after WaitStart c = record {
  init = c.init;
  emit = c.emit;
  enable_signal = c.enable_signal;
  signaled = c.signaled;
  wait_start = plus_one c.wait_start;
  wait_end = c.wait_end;
  destroy = c.destroy;
}
counts_after WaitEnd c = record {
  init = c.init;
  emit = c.emit;
  enable_signal = c.enable_signal;
  signaled = c.signaled;
  wait_start = c.wait_start;
  wait_end = plus_one c.wait_end;
  destroy = c.destroy;
}
counts_after Destroy c = record {
  init = c.init;
  emit = c.emit;
  enable_signal = c.enable_signal;
  signaled = c.signaled;
  wait_start = c.wait_start;
  wait_end = c.wait_end;
  destroy = plus_one c.destroy;
}

abbrev pub none : Tally
none = record {
  events = no_events;
  contexts = 0;
  made_again = 0;
  destroyed_pending = 0;
  signalled_unseen = 0;
  destroyed_unseen = 0;
  out_of_order = 0;
  out_of_order_wrapped = 0;
  repeats = 0;
  overtaken = 0;
  signalled_twice = 0;
}

-- the tally with one more event, by what was found of it
unfoldable pub tally_after : Finding → Tally → Tally
tally_after found t = record {
  events = counts_after found.event t.events;
  contexts = count_if t.contexts found.new_context;
  made_again = count_if t.made_again found.made_again;
  destroyed_pending = count_if t.destroyed_pending found.destroyed_pending;
  signalled_unseen = count_if t.signalled_unseen found.signalled_unseen;
  destroyed_unseen = count_if t.destroyed_unseen found.destroyed_unseen;
  out_of_order = count_if t.out_of_order found.out_of_order;
  out_of_order_wrapped = count_if t.out_of_order_wrapped found.out_of_order_wrapped;
  repeats = count_if t.repeats found.repeats;
  overtaken = count_if t.overtaken found.overtaken;
  signalled_twice = count_if t.signalled_twice found.signalled_twice;
}
