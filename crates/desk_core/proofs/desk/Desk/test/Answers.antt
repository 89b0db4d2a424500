use Rattle.std.proofs.Common.{Bool}
use Rattle.std.specs.Prelude.{◌↔◌, IsTrue}
use Rattle.point_core.specs.Usage.{usage_number}
use Rattle.point_core.specs.Agreement.{IsReached}
use Rattle.dmabuf_core.specs.Buffers.{has_buffer, entries_of}
use Rattle.desk_core.proofs.Doing.{IsDone-test, as_number}
use Rattle.desk_core.proofs.Waiting.{reported_where}
use Rattle.desk_core.proofs.desk.Desk.test.Goals as goal

pub returns-clause-done : goal.returns-clause-done
returns-clause-done c =
    let reported = reported_where (has_buffer c.self.inside.buffers c.args.name.now) c.test.result c.in_ok-signalled.signalled (λ (reported : Bool). IsTrue reported ↔ IsReached (entries_of c.self.inside.buffers c.args.name.now) (usage_number c.args.usage) c.as_reach.result.now) c.test.ensures c.in_ok-signalled.was in
    let value = as_number c.in_ok-signalled.signalled c.from.result c.from.ensures in
    rw (← c.self.view_is, value)
    (IsDone-test _ c.args.name.now c.args.usage c.as_reach.result.now c.in_ok-signalled.signalled c.as_reach.ensures.value reported)
