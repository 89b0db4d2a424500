use Rattle.std.proofs.Common.{ap, ◌∙◌}
use Rattle.c_handle.specs.Lending.{is_open}
use Rattle.c_device.specs.Lending.{of_handle}
use Rattle.c_device.proofs.handle.DeviceHandle.is_open.Goals as goal

pub returns : goal.returns
returns c = (c.is_open.ensures.0 ∙ ap is_open c.handle.ensures.value, ap of_handle (c.is_open.ensures.1 ∙ c.handle.ensures.value))
