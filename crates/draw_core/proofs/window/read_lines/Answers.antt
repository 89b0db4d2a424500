use Rattle.draw_core.proofs.Spelling.{read-lines, spells-lines}
use Rattle.draw_core.proofs.window.read_lines.Goals as goal

pub returns-in-Some : goal.returns-in-Some
returns-in-Some c =
    let first = c.args.first.now in
    let last = c.args.last.now in
    let number = c.in-Some.number in
    record {
      lines = c.read_last.ensures.lines;
      spelled = spells-lines first last number c.read_last.result c.in-Some.ensures.number c.read_last.ensures.first c.read_last.ensures.last;
      read = read-lines first last number c.read_last.result c.in-Some.ensures.number c.read_last.ensures.read;
    }

pub returns-in-None : goal.returns-in-None
returns-in-None c = record { lines = tt; spelled = tt; read = λ window lines spells. absurd (c.in-None.ensures.number window.first spells.first) }
