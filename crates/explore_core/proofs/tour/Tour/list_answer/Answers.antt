use Rattle.std.proofs.Common.{refl}
use Rattle.explore_core.proofs.Levels.{Grows-refl}
use Rattle.explore_core.proofs.Trying.{Grows-answered}
use Rattle.explore_core.proofs.tour.Tour.list_answer.Goals as goal

pub returns-in_err-record-clause-grows : goal.returns-in_err-record-clause-grows
returns-in_err-record-clause-grows c =
    Grows-answered c.as_slice-schedule.ensures.value c.requires.state c.requires.may c.requires.answers c.args.self.now.found _ c.record.ensures.records refl refl refl refl refl

pub returns-in_default-clause-grows : goal.returns-in_default-clause-grows
returns-in_default-clause-grows c = Grows-refl c.args.setup.now.plan.now c.args.setup.now.depth c.args.self.now.found

pub returns-clause-grows : goal.returns-clause-grows
returns-clause-grows c =
    Grows-answered c.as_slice-schedule.ensures.value c.requires.state c.requires.may c.requires.answers c.args.self.now.found _ c.record.ensures.records refl refl refl refl refl
