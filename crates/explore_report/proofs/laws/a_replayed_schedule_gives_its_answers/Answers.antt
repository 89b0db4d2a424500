use Rattle.explore_report.proofs.Replaying.{end-replayed, line-replayed}
use Rattle.explore_report.proofs.laws.a_replayed_schedule_gives_its_answers.Goals as goal

pub returns-clause-line : goal.returns-clause-line
returns-clause-line c = λ plan schedule client place given answered. line-replayed plan schedule client place given answered

pub returns-clause-end : goal.returns-clause-end
returns-clause-end c = λ plan schedule place given command answered at. end-replayed plan schedule place given command answered at
