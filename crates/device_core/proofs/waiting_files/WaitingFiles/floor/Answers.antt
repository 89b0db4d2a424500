use Rattle.device_core.proofs.Floors.{least-floor, none-floor}
use Rattle.device_core.proofs.waiting_files.WaitingFiles.floor.Goals as goal

pub returns-in-Some : goal.returns-in-Some
returns-in-Some c = least-floor c.args.timeline 18446744073709551615 c.in-Some.first c.args.self.now c.in-Some.ensures.some.0 c.in-Some.ensures.least

pub returns-in-None : goal.returns-in-None
returns-in-None c = none-floor c.args.timeline 18446744073709551615 c.args.self.now c.in-None.ensures.none
