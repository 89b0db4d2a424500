use Rattle.std.proofs.Common.{sym, ◌∙◌}
use Rattle.std.proofs.lemmas.Bool.{false≢true}
use Rattle.explore_core.proofs.Parting.{Contains-at}
use Rattle.explore_core.proofs.parts.is_at.Goals as goal

pub returns-in_default : goal.returns-in_default
returns-in_default c = λ bad. absurd (false≢true bad)

pub returns-then-other-file : goal.returns-then-other-file
returns-then-other-file c = λ is.
    Contains-at c.args.others.now c.args.place c.in-Some.other.now c.args.file c.in-Some.ensures.lookup.3.0 (sym c.in-Some.ensures.lookup.1 ∙ c.if-other-file.true)

pub returns : goal.returns
returns c = λ bad. absurd (false≢true bad)
