use Rattle.std.proofs.Common.{rules, ◌≡◌, true, false}
use Rattle.std.specs.Prelude.{is_some}
use Rattle.line_core.specs.Line.{body_of}
use Rattle.line_core.specs.Script.{lines_of}
use Rattle.check_core.proofs.Asking.{no_answer, one_answer}
use Rattle.check_core.proofs.asked.push_answer.Goals as goal

pub returns-then-is_none : goal.returns-then-is_none
returns-then-is_none c =
    let none : is_some (body_of c.args.line.now) ≡ false = search rules in
    record { asked = no_answer c.args.all c.args.asked.now.items c.args.line.now (lines_of c.args.below.now) none }

pub returns : goal.returns
returns c =
    let some : is_some (body_of c.args.line.now) ≡ true = search rules in
    record {
      asked = one_answer c.args.all c.args.asked.now.items c.push.new.self.items c.asks_any-asks.result c.args.line.now (lines_of c.args.below.now) some
          c.asks_any-asks.ensures c.in_ok-push.ensures.items;
    }
