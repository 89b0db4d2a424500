use Rattle.std.proofs.Common.{refl}
use Rattle.explore_report.proofs.Scheduled.{made-same}
use Rattle.explore_report.proofs.schedule.Making.push_section.Goals as goal

pub returns : goal.returns
returns c = record {
  own = λ commands now has. c.in_ok-make_all.ensures.made commands now (made-same commands now c.args.self.now _ has refl refl refl);
}
