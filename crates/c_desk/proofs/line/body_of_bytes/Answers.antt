use Rattle.std.proofs.Common.{sym, ap, ◌∙◌, arith}
use Rattle.c_desk.specs.Line.{body_of_lines}
use Rattle.c_desk.proofs.OneLine.{more_lines}
use Rattle.c_desk.proofs.line.body_of_bytes.Goals as goal

pub returns-else-is_empty : goal.returns-else-is_empty
returns-else-is_empty c =
    let line = c.in-Some.line.now in
    let rest = c.in-Some.rest.now in
    sym (ap body_of_lines c.in-Some.ensures.lines ∙ more_lines line rest (grind (arith, c.if-is_empty.false, c.is_empty.ensures)))
