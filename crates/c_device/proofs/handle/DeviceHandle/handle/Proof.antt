-- `handle` lends the same fields at another type.
use mathlib.Core.Path.{refl}
use contract.Running.{tables, tables_of}
use prog.Wp.{WpFn}
use denote.Triple.Clauses.{closing}
use denote.Triple.Spec.{triple_of}
use denote.Triple.Table.{entered}
use Rattle.c_handle.proofs.Thin.{Two, ended, spec, meets}
use Rattle.c_handle.specs.contracts.handle.Handle as Shared
use Rattle.c_device.specs.Held.{service_row}
use Rattle.c_device.specs.Lending.{as_handle, of_handle}
use Rattle.c_device.specs.contracts.handle.DeviceHandle.{the_row}
use Rattle.c_device.specs.contracts.handle.DeviceHandle.handle.Key.{name as #self}
use Rattle.c_device.proofs.handle.DeviceHandle.handle.Statement as stated
use Rattle.c_device.proofs.handle.DeviceHandle.handle.Code as code

abbrev E : Two
E = record { S = the_row; T = Shared.the_row service_row; there = as_handle; back = of_handle; one_S = tt; one_T = tt; layout = refl; owned = λ h vs. refl; given_back = λ w vs. refl }

pub handle_spec : {M : Type 1} → stated.statement M
unfolding tables_of WpFn
handle_spec 𝓤 𝓛 𝓜 𝓡 wired =
    let 𝓣 = tables 𝓤 𝓛.H 𝓜 𝓡 𝓡.env in
    entered 𝓤 𝓛.H (triple_of 𝓛 (ended E).signature (closing 𝓛 (ended E) (spec E 𝓛))) 𝓣.C 𝓣.Λ #self code.function (code.unfolded 𝓤 𝓛.H 𝓜 𝓡 wired) (meets E _ _ 𝓛 (tables_of 𝓤 𝓛.H 𝓜 𝓣))
