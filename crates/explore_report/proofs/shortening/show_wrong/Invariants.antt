use Rattle.explore_core.specs.Shortening.{AreShortened, IsTrueAnswer, line_of}
use Rattle.explore_report.proofs.shortening.show_wrong.Given as goal

abbrev pub invariant-loop-one : goal.invariant-loop-one
invariant-loop-one l = AreShortened line_of (IsTrueAnswer l.plan.plan) l.fn.given l.given
