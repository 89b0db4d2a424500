-- What is known of the fences of one key, event by event.
use Rattle.std.specs.Prelude.{ℕ, ◌+◌, ◌-◌, ◌^◌, ◌==◌, Bool, true, false, not, ◌&&◌, nat_lt, if◌then◌else◌, min}
use Rattle.trace_core.specs.declared.event.Event.{Event}
use Rattle.trace_core.specs.declared.event.Event.TheVariants.{Init, Emit, EnableSignal, Signaled, WaitStart, WaitEnd, Destroy}
use Rattle.trace_core.specs.declared.life.Life.{Life}

-- nothing is known
abbrev pub unborn : Life
unborn = record { pending = 0; signalled = 0; has_signalled = false; born = 0; since = 0 }

-- one more, at most what 32 bits hold
abbrev pub one_more : ℕ → ℕ
one_more n = min (n + 1) (2 ^ 32 - 1)

-- whether no fence of the key is alive
abbrev pub is_over : Life → Bool
is_over life = life.pending == 0 && life.signalled == 0

-- what was known of fences that are all gone is forgotten
abbrev pub settled : Life → Life
settled life = if is_over life then unborn else life

-- whether a fence was made or emitted, and none was signalled since the first was seen
abbrev pub is_pending : Life → Bool
is_pending life = nat_lt 0 life.pending && not life.has_signalled

abbrev pub made : ℕ → ℕ → Life → Life
made born time life = record {
  pending = one_more life.pending;
  signalled = life.signalled;
  has_signalled = life.has_signalled;
  born = born;
  since = time;
}

-- a driver that numbers fences when it emits them has made none of that number before
abbrev pub emitted : ℕ → ℕ → Life → Life
emitted born time life = if life.pending == 0 then made born time life else life

abbrev pub signalled : Life → Life
signalled life = record {
  pending = life.pending - 1;
  signalled = one_more life.signalled;
  has_signalled = true;
  born = life.born;
  since = life.since;
}

-- without one of the fences that are pending
abbrev pub without_one : Life → Life
without_one life = record {
  pending = life.pending - 1;
  signalled = life.signalled;
  has_signalled = life.has_signalled;
  born = life.born;
  since = life.since;
}

-- a fence that was signalled goes first
abbrev pub destroyed : Life → Life
destroyed life =
    if life.signalled == 0 then without_one life
    else record {
      pending = life.pending;
      signalled = life.signalled - 1;
      has_signalled = life.has_signalled;
      born = life.born;
      since = life.since;
    }

-- what is known after event number `born`, an event of the key at that time
unfoldable pub life_after : Event → ℕ → ℕ → Life → Life
life_after Init born time life = made born time life
life_after Emit born time life = emitted born time life
life_after EnableSignal born time life = life
life_after Signaled born time life = signalled life
life_after WaitStart born time life = life
life_after WaitEnd born time life = life
life_after Destroy born time life = destroyed life
