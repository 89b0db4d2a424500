use Rattle.line_core.proofs.LineLemmas.{lines_before-line}
use Rattle.line_core.proofs.script.Lines.take_body.Goals as goal

pub returns-in-Some-clause-lines : goal.returns-in-Some-clause-lines
returns-in-Some-clause-lines c =
    let old = c.args.self.now in
    lines_before-line old.ending c.args.ending old.number old.rest.now c.in-Some.line.now c.in-Some.rest.now c.body_of.result c.requires c.in-Some.ensures.lines c.body_of.ensures.body
