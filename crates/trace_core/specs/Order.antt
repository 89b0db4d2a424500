-- The order in which the fences of a context were signalled.
use Rattle.std.specs.Prelude.{ℕ, ◌+◌, ◌-◌, ◌^◌, ◌==◌, Bool, true, false, not, ◌&&◌, ◌||◌, nat_lt, if◌then◌else◌, max}
use Rattle.trace_core.specs.declared.event.Event.{Event}
use Rattle.trace_core.specs.declared.event.Event.TheVariants.{Init, Emit, EnableSignal, Signaled, WaitStart, WaitEnd, Destroy}
use Rattle.trace_core.specs.declared.order.Order.{Order}

-- none was signalled
abbrev pub no_order : Order
no_order = record { some = false; furthest = 0; furthest_wrapped = 0; at = 0; last = 0 }

-- how far a is ahead of b on the circle of 32 bits
abbrev pub ahead : ℕ → ℕ → ℕ
ahead a b = if nat_lt a b then a + 2 ^ 32 - b else a - b

-- whether a is ahead of b by less than half of the circle
abbrev pub is_later : ℕ → ℕ → Bool
is_later a b = nat_lt 0 (ahead a b) && nat_lt (ahead a b) (2 ^ 31)

-- whether a greater seqno was signalled before
abbrev pub is_late : Order → ℕ → Bool
is_late order seqno = order.some && nat_lt seqno order.furthest

-- whether a later one was, on the circle of 32 bits
abbrev pub is_late_wrapped : Order → ℕ → Bool
is_late_wrapped order seqno = order.some && is_later order.furthest_wrapped seqno

-- whether the last fence that was signalled has this seqno
abbrev pub is_repeat : Order → ℕ → Bool
is_repeat order seqno = order.some && order.last == seqno

-- whether the seqno is the furthest so far on the circle
abbrev pub is_furthest : Order → ℕ → Bool
is_furthest order seqno = not order.some || is_later seqno order.furthest_wrapped

abbrev pub order_signalled : ℕ → ℕ → Order → Order
order_signalled seqno at order = record {
  some = true;
  furthest = max order.furthest seqno;
  furthest_wrapped = if is_furthest order seqno then seqno else order.furthest_wrapped;
  at = if is_furthest order seqno then at else order.at;
  last = seqno;
}

-- the order after event number `at`, of a fence of that seqno
unfoldable pub order_after : Event → ℕ → ℕ → Order → Order
order_after Init seqno at order = order
order_after Emit seqno at order = order
order_after EnableSignal seqno at order = order
order_after Signaled seqno at order = order_signalled seqno at order
order_after WaitStart seqno at order = order
order_after WaitEnd seqno at order = order
order_after Destroy seqno at order = order
