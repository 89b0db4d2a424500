-- The request of a call that takes a usage as a number.
use Rattle.std.specs.Prelude.{ℕ, ℤ, ok_or, Result, Ok, Err}
use Rattle.point_core.specs.declared.entry.Usage.{Usage}
use Rattle.c_handle.specs.Usages.{usage_of as usage_at}
use Rattle.device_core.specs.declared.errno.Errno.{Errno}
use Rattle.device_core.specs.declared.errno.Errno.TheVariants.{Invalid}
use Rattle.device_core.specs.declared.request.Request.{Request}
use Rattle.device_core.specs.declared.request.Request.TheVariants as request

-- the usage with this number, as Linux's enum dma_resv_usage counts
abbrev pub usage_of : ℤ → Result Usage Errno
usage_of number = ok_or (usage_at number) Invalid

abbrev at_usage : ℕ → Result Usage Errno → Result Request Errno
at_usage buffer (Ok usage) = Ok (request.Test buffer usage)
at_usage buffer (Err refusal) = Err refusal

abbrev pub test_request : ℕ → ℤ → Result Request Errno
test_request buffer number = at_usage buffer (usage_of number)
