use Rattle.device_core.specs.theorem.History.{history_after}
use Rattle.device_core.proofs.Histories.{HasHistory-after}
use Rattle.device_core.proofs.Answered.{IsAnswered-stands}
use Rattle.device_core.proofs.Tables.{AreTrimmed-stands}
use Rattle.device_core.proofs.device.Device.serve.Goals as goal

pub returns-clause-stands : goal.returns-clause-stands
returns-clause-stands c = λ history had.
    HasHistory-after c.args.self.now c.answer_to.new.self c.args.request c.answer_to.result c.answer_to.ensures.answer c.answer_to.ensures.done c.answer_to.ensures.unchanged history had

pub returns-clause-trimmed : goal.returns-clause-trimmed
returns-clause-trimmed c = λ history had.
    AreTrimmed-stands c.answer_to.new.self (history_after history c.args.request c.answer_to.result)
    (HasHistory-after c.args.self.now c.answer_to.new.self c.args.request c.answer_to.result c.answer_to.ensures.answer c.answer_to.ensures.done c.answer_to.ensures.unchanged history had)

pub returns-clause-told : goal.returns-clause-told
returns-clause-told c = λ history had small.
    IsAnswered-stands c.args.self.now history c.args.request c.answer_to.result had small c.answer_to.ensures.answer
