-- The value of an open handle.
use base.Stored.{Coded}
use denote.RattleType.{RattleType}
use Rattle.c_device.specs.Service.{ServiceState}
use Rattle.c_device.specs.contracts.service.Service.{the_row}

abbrev pub service_row : RattleType
service_row = the_row

abbrev pub service_coded : Coded ServiceState
service_coded = the_row.coded
