-- A handle after a write to its service.
use Rattle.std.specs.Borrow.{Lends, MutBor, Fml}
use Rattle.c_handle.specs.declared.handle.Handle.{Handle}
use Rattle.c_handle.specs.contracts.handle.Handle.{the_row as handle_row}
use Rattle.c_device.specs.Held.{service_row}
use Rattle.c_device.specs.Service.{ServiceState}
use Rattle.c_device.specs.declared.handle.DeviceHandle.{DeviceHandle}
use Rattle.c_device.specs.contracts.handle.DeviceHandle.{the_row}

-- h with the service w
abbrev pub with_service : DeviceHandle → ServiceState → DeviceHandle
with_service h w = record h { service = w }

-- the same fields, and back
abbrev pub as_handle : DeviceHandle → Handle ServiceState
as_handle h = record { at = h.at; alloc = h.alloc; held = h.service }

abbrev pub of_handle : Handle ServiceState → DeviceHandle
of_handle h = record { at = h.at; alloc = h.alloc; service = h.held }

-- h ends as the last handle behind r
abbrev pub LendsHandle : MutBor DeviceHandle → MutBor (Handle ServiceState) → Fml
LendsHandle h r = Lends the_row (handle_row service_row) h r of_handle

-- h ends with the last service behind r
abbrev pub LendsService : MutBor DeviceHandle → MutBor ServiceState → Fml
LendsService h r = Lends the_row service_row h r (with_service h.now)
