use Rattle.std.proofs.Common.{sym}
use Rattle.std.proofs.lemmas.List.{take_rest}
use Rattle.line_core.specs.Script.{is_line_feed}
use Rattle.line_core.proofs.Runs.{slice_split-some, slice_split-none}
use Rattle.line_core.proofs.script.first_line.Goals as goal

pub returns-in_err-end-clause-lines : goal.returns-in_err-end-clause-lines
returns-in_err-end-clause-lines c = rw c.from_residual.ensures (slice_split-none is_line_feed c.args.bytes.now (sym c.in_err-end.ensures.place))

pub returns-clause-lines : goal.returns-clause-lines
returns-clause-lines c = simp take_rest (slice_split-some is_line_feed c.args.bytes.now c.in_ok-end.end (sym c.in_ok-end.ensures.place))
