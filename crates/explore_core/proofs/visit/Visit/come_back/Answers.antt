use Rattle.explore_core.proofs.visit.Visit.come_back.Goals as goal

pub returns-then-not-self : goal.returns-then-not-self
returns-then-not-self c = record {
  at = λ of. of c.if-not-self.true;
}

pub returns : goal.returns
returns c = record {
  at = λ of. c.in_ok-restart.ensures.at;
}
