use Rattle.std.proofs.Common.{Err, refl}
use Rattle.point_core.specs.declared.refusal.Refusal.TheVariants.{Memory}
use Rattle.command_core.specs.declared.command.Command.TheVariants as command
use Rattle.desk_core.specs.Keeping.{cause_of}
use Rattle.desk_core.proofs.Answering.{Answers-outcome}
use Rattle.desk_core.proofs.Waiting.{refused_again, uncaused}
use Rattle.desk_core.proofs.desk.Desk.watch_refusal.Goals as goal

pub returns-in-Ok : goal.returns-in-Ok
returns-in-Ok c =
    let none = uncaused (cause_of c.args.self.now (command.Watch c.args.file.now c.args.cookie)) c.watchable.result c.in-Ok.field-0 c.watchable.ensures.refused c.in-Ok.is in
    Answers-outcome c.args.self.now c.args.self.now (command.Watch c.args.file.now c.args.cookie) (Err Memory) (rw none refl) (λ is. absurd (cc)) tt

pub returns-in-Err : goal.returns-in-Err
returns-in-Err c =
    let cause = cause_of c.args.self.now (command.Watch c.args.file.now c.args.cookie) in
    Answers-outcome c.args.self.now c.args.self.now (command.Watch c.args.file.now c.args.cookie) (Err c.in-Err.cause) (refused_again _ _ cause _ c.in-Err.ensures.refused) (λ is. absurd (cc)) tt
