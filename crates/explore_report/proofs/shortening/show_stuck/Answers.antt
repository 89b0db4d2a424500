use Rattle.std.proofs.Common.{refl}
use Rattle.explore_report.proofs.shortening.show_stuck.Goals as goal

pub returns-in-Some : goal.returns-in-Some
returns-in-Some c = record { stuck = rw c.in-Some.is (c.bring_stuck_near.new.schedule, refl, c.bring_stuck_near.ensures.stuck) }
