-- Whether a handle is open.
use Rattle.std.specs.Prelude.{Bool}
use Rattle.c_handle.specs.Owning.{is_block}
use Rattle.c_device.specs.declared.handle.DeviceHandle.{DeviceHandle}

-- a handle is closed while its pointer is null
abbrev pub is_open : DeviceHandle → Bool
is_open h = is_block h.at
