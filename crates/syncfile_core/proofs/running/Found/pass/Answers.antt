use Rattle.std.proofs.Common.{ap, ◌∙◌}
use Rattle.point_core.specs.Status.{status_with}
use Rattle.syncfile_core.proofs.Passing.{HasPassedTo-more, HasPassedTo-by}
use Rattle.syncfile_core.proofs.running.Found.pass.Goals as goal

pub returns-in-Some-clause-passed : goal.returns-in-Some-clause-passed
returns-in-Some-clause-passed c = λ clocks points n is at h.
    let before = c.args.self.now in
    HasPassedTo-more clocks points n c.args.ctx c.in-Some.value c.args.clock before.status c.with-self.result before.rest.now c.in-Some.later.now is at c.in-Some.ensures.first
    (c.with-self.ensures ∙ ap (status_with before.status) c.status.ensures) h

pub returns-in_default-clause-passed : goal.returns-in_default-clause-passed
returns-in_default-clause-passed c = λ clocks points n is at h. HasPassedTo-by clocks points n c.args.ctx c.args.self.now.status c.args.self.now.rest.now is c.in_default.ensures.first h
