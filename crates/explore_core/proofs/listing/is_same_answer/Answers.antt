use Rattle.std.proofs.Common.{sym, ◌∙◌}
use Rattle.explore_core.proofs.SameAnswers.{answer-is, answer-same}
use Rattle.explore_core.proofs.listing.is_same_answer.Goals as goal

pub returns-clause-is : goal.returns-clause-is
returns-clause-is c = λ is. answer-is c.args.answer.now c.args.other.now (sym c.eq.ensures ∙ is)

pub returns-clause-all : goal.returns-clause-all
returns-clause-all c = λ is. c.eq.ensures ∙ answer-same c.args.answer.now c.args.other.now is
