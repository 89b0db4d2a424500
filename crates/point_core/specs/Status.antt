-- The numbers of a status.
use Rattle.std.specs.Prelude.{ℤ, pos, negsuc, Bool, true, false}
use Rattle.point_core.specs.declared.status.Status.{Status}
use Rattle.point_core.specs.declared.status.Status.TheVariants.{Active, Signalled, Cancelled}

-- minus two is the kernel's -ENOENT
abbrev pub status_number : Status → ℤ
status_number Active = pos 0
status_number Signalled = pos 1
status_number Cancelled = negsuc 1

-- the status of two fences together
abbrev pub status_with : Status → Status → Status
status_with Active other = Active
status_with Signalled other = other
status_with Cancelled Active = Active
status_with Cancelled Signalled = Cancelled
status_with Cancelled Cancelled = Cancelled

-- nothing is pending any more
abbrev pub is_signalled : Status → Bool
is_signalled Active = false
is_signalled Signalled = true
is_signalled Cancelled = true
