use Rattle.std.proofs.Common.{◌∙◌, ap, rules}
use Rattle.device_core.specs.theorem.Buffers.{import_usage as import_usage_of}
use Rattle.device_core.specs.theorem.State.{at}
use Rattle.device_core.specs.theorem.State.{FileState}
use Rattle.device_core.proofs.Importing.{imported-in}
use Rattle.device_core.proofs.device.Device.import.Goals as goal

pub returns-clause-imported : goal.returns-clause-imported
returns-clause-imported c =
    imported-in c.import_into.result _ c.args.self.now (import_usage_of c.args.flags) c.in_ok-usage.usage c.args.file c.in-Some.known.now c.as_slice-fences.result.now c.args.buffer (at c.import_into.new.buffers.entries)
    c.self.view_is (search rules) c.in-Some.ensures.value (c.as_slice-fences.ensures.value ∙ ap (λ (f : FileState). f.fences) c.known.view_is) c.import_into.ensures.imported
