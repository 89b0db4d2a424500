use Rattle.std.proofs.Common.{◌++◌, [], ◌∷◌, take, arith, refl, sym, ap, ◌∙◌}
use Rattle.std.proofs.lemmas.List.{take_more, take_all}
use Rattle.desk_core.proofs.Answering.{HasRun-push}
use Rattle.desk_core.proofs.runs.answer_each.Goals as goal

pub loop-command-init : goal.loop-command-init
loop-command-init c =
    rw c.requires.none
    (record { answers = tt; stands = c.requires.empty; each = refl }, omega arith, omega arith)

pub loop-command-preserved : goal.loop-command-preserved
loop-command-preserved c =
    let more = take_more c.args.commands.now c.loop-command.command-index c.command-item.result c.loop-command-test.true
    ∙ ap (λ d. take c.loop-command.command-index c.args.commands.now ++ d ∷ []) (sym c.command-item.is) in
    rw (more, c.push_reserved.ensures.items)
    (HasRun-push c.step.new.self c.command-item.result c.step.result c.loop-command.invariant.0 c.step.ensures.answer c.step.ensures.stands, omega arith, omega arith)

pub returns-clause-answers : goal.returns-clause-answers
returns-clause-answers c =
    let all = take_all c.loop-command.command-index c.args.commands.now c.loop-command-test.false in
    rw all at c.loop-command.invariant.0.answers

pub returns-clause-stands : goal.returns-clause-stands
returns-clause-stands c =
    let all = take_all c.loop-command.command-index c.args.commands.now c.loop-command-test.false in
    rw all at c.loop-command.invariant.0.stands
