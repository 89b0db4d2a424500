use Rattle.std.proofs.Common.{subst, Result}
use Rattle.point_core.specs.declared.refusal.Refusal.{Refusal}
use Rattle.command_core.specs.declared.command.Command.{Command}
use Rattle.c_desk.specs.Call.{IsAsked}
use Rattle.c_desk.proofs.Answered.{line-call}
use Rattle.c_desk.proofs.Signed.{number-passed}
use Rattle.c_desk.proofs.line.answer_line.Goals as goal

pub returns : goal.returns
returns c =
    let old = c.args.desk.now in
    let new = c.ask-answer.new.self in
    let given = c.ask-answer.result in
    let t = c.report.ensures in
    let asked = subst (λ (a : Result Command Refusal). IsAsked old new a given) c.command_of.ensures c.ask-answer.ensures in
    line-call old new c.args.out.now c.report.new.out c.report.new.count _ c.requires.room c.args.body given c.requires.opened asked (record {
      reported = t.reported;
      is = t.is;
      number = number-passed t.reported t.number;
      text = t.text;
      few = t.few;
    })
