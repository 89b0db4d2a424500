use Rattle.std.proofs.Common.{sym}
use Rattle.std.proofs.lemmas.List.{take_rest}
use Rattle.line_core.proofs.Spaces.{drop_spaces-some, drop_spaces-none}
use Rattle.line_core.proofs.prefix.without_spaces.Goals as goal

pub returns-in-Some : goal.returns-in-Some
returns-in-Some c = record { rest = simp take_rest (drop_spaces-some c.args.line.now c.in-Some.start (sym c.in-Some.ensures.place)) }

pub returns-in-None : goal.returns-in-None
returns-in-None c = record { rest = drop_spaces-none c.args.line.now (sym c.in-None.ensures.place) }
