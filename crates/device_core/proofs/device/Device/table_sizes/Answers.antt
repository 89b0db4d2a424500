use Rattle.std.proofs.Common.{subst}
use Rattle.device_core.specs.theorem.Memory.{KeepsWhatIsAlive}
use Rattle.device_core.proofs.Memory.{kept-alive, waiting-alive}
use Rattle.device_core.proofs.device.Device.table_sizes.Goals as goal

pub returns-clause-alive : goal.returns-clause-alive
returns-clause-alive c =
    let d = c.self.inside in
    subst KeepsWhatIsAlive c.self.view_is (record {
      timelines = kept-alive d.timelines.entries d.next c.len.ensures.distinct c.self.invariant.timelines_given;
      files = kept-alive d.files.entries d.next c.len-2.ensures.unique c.self.invariant.files_given;
      buffers = kept-alive d.buffers.entries d.next c.len-3.ensures.unique c.self.invariant.buffers_given;
      waiting = waiting-alive d.timelines.index d.files.entries d.next c.waiting.ensures.ordered c.self.invariant.indexed c.self.invariant.files_given;
    })
