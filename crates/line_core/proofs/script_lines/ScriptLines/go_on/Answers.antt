use Rattle.std.proofs.Common.{ap, arith}
use Rattle.line_core.proofs.script_lines.ScriptLines.go_on.Goals as goal

pub invariant_of-self : goal.invariant_of-self
invariant_of-self c =
    let kept = c.self.invariant in
    record {
      within = kept.within;
      block = kept.block;
      few = kept.few;
      start_in = kept.start_in;
      line = λ _. omega (arith, kept.start_in);
      begun = λ _ _. omega arith;
      long = omega (arith, kept.long);
      numbers = omega (arith, ap (λ l. l.number) c.begin_line.ensures.begun, rw c.if-self.true at kept.numbers);
    }
