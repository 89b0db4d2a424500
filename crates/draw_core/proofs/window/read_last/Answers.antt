use Rattle.draw_core.proofs.Spelling.{read-last, spells-last}
use Rattle.draw_core.proofs.window.read_last.Goals as goal

pub returns-in-Some : goal.returns-in-Some
returns-in-Some c =
    let last = c.args.last.now in
    let number = c.in-Some.number in
    record {
      lines = c.window_between.ensures.lines;
      first = c.window_between.ensures.first;
      last = spells-last last number c.window_between.result c.in-Some.ensures.number c.window_between.ensures.last;
      read = read-last last c.args.first number c.window_between.result c.in-Some.ensures.number c.window_between.ensures.read;
    }

pub returns-in-None : goal.returns-in-None
returns-in-None c = record {
  lines = tt;
  first = tt;
  last = tt;
  read = λ window lines same spells. absurd (c.in-None.ensures.number window.last spells);
}
