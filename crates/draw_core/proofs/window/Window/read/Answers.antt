use Rattle.std.proofs.Common.{None}
use Rattle.draw_core.proofs.Spelling.{read-cut, read-uncut, spells-cut}
use Rattle.draw_core.proofs.window.Window.read.Goals as goal

pub returns-in-Some : goal.returns-in-Some
returns-in-Some c =
    let parts = c.in-Some.parts in
    record {
      lines = c.read_lines.ensures.lines;
      spelled = spells-cut c.args.text.now parts.0.now parts.1.now c.read_lines.result c.in-Some.ensures.parts c.read_lines.ensures.spelled;
      read = read-cut c.args.text.now parts.0.now parts.1.now c.read_lines.result c.in-Some.ensures.parts c.read_lines.ensures.read;
    }

pub returns-in-None : goal.returns-in-None
returns-in-None c = record { lines = tt; spelled = tt; read = read-uncut c.args.text.now None c.in-None.ensures.parts }
