-- What a piece of the text is.
use Rattle.std.specs.Prelude.{ℕ, Bool, Option}
use Rattle.trace_core.specs.declared.item.TraceItem.{TraceItem}
use Rattle.trace_core.specs.declared.item.TraceItem.TheVariants as item
use Rattle.trace_core.specs.Record.{Printed, printed}

-- what an item says, with the bytes of its names
pub data Meaning : Type 0 where
  Event : Printed → Meaning
  Other : ℕ → Bool → Meaning
  Unread : Meaning
  Lost : ℕ → Option ℕ → Meaning
  BufferStarted : ℕ → Meaning
  Counts : ℕ → ℕ → ℕ → Meaning
  Note : Meaning

abbrev pub meaning_of : TraceItem → Meaning
meaning_of (item.Event r) = Event (printed r)
meaning_of (item.Other time is_end) = Other time is_end
meaning_of item.Unread = Unread
meaning_of (item.Lost cpu events) = Lost cpu events
meaning_of (item.BufferStarted cpu) = BufferStarted cpu
meaning_of (item.Counts held written processors) = Counts held written processors
meaning_of item.Note = Note
