use Rattle.std.proofs.Common.{◌∙◌, rules}
use Rattle.device_core.proofs.InOrder.{same_keys, same_state}
use Rattle.device_core.proofs.device.Device.add_file.Goals as goal

pub returns-clause-unchanged : goal.returns-clause-unchanged
returns-clause-unchanged c =
    let old = c.self.inside in
    let new = c.take_all.new.self in
    same_state old.next new.entries old.timelines.entries c.insert.new.self.entries old.files.entries old.buffers.entries new.index old.timelines.index
    (c.take_all.ensures.entries ∙ c.in_ok-put_all.ensures.entries) c.in-Err.ensures.err
    (same_keys new.index old.timelines.index c.take_all.ensures.ordered c.in_ok-put_all.ensures.ordered (λ k. search rules))
    ∙ c.self.view_is
