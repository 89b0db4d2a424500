-- A record of a dma_fence event.
use Rattle.std.specs.Prelude.{ℕ, List, Option, option_map}
use Rattle.std.specs.Option.{option_and_then}
use Rattle.trace_core.specs.declared.event.Event.{Event}
use Rattle.trace_core.specs.declared.record.Record.{Record}
use Rattle.trace_core.specs.Event.{event_at}
use Rattle.trace_core.specs.Fields.{Body, fields_of}
use Rattle.trace_core.specs.Header.{Head, header_of}

-- what a record says, with the bytes of its names
pub record Printed : Type 0 where
  pub task : List ℕ
  pub pid : ℕ
  pub cpu : ℕ
  pub time : ℕ
  pub event : Event
  pub driver : List ℕ
  pub timeline : List ℕ
  pub context : ℕ
  pub seqno : ℕ

abbrev pub printed : Record → Printed
printed r = record {
  task = r.task.now;
  pid = r.pid;
  cpu = r.cpu;
  time = r.time;
  event = r.event;
  driver = r.driver.now;
  timeline = r.timeline.now;
  context = r.context;
  seqno = r.seqno;
}

abbrev pub joined : Head → Event → Body → Printed
joined head event body = record {
  task = head.task;
  pid = head.pid;
  cpu = head.cpu;
  time = head.time;
  event = event;
  driver = body.driver;
  timeline = body.timeline;
  context = body.context;
  seqno = body.seqno;
}

-- the record of a header and an event, if the text has the fields of one
unfoldable pub record_with : Head → Event → List ℕ → Option Printed
record_with head event text = option_map (joined head event) (fields_of text)

-- the record of a header, if a dma_fence event follows it
unfoldable pub record_from : Head → Option Printed
record_from head = option_and_then (λ event. record_with head event.0 event.1) (event_at head.text)

-- the record that the piece is
unfoldable pub record_of : List ℕ → Option Printed
record_of piece = option_and_then record_from (header_of piece)
