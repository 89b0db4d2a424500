use Rattle.std.proofs.Common.{refl}
use Rattle.std.proofs.lemmas.Result.{err_from_is_err_and}
use Rattle.desk_core.proofs.Doing.{IsDone-close}
use Rattle.desk_core.proofs.Inside.{inside-close}
use Rattle.desk_core.proofs.Waiting.{unclosed}
use Rattle.desk_core.proofs.desk.Desk.close.Goals as goal

pub invariant_of-self : goal.invariant_of-self
invariant_of-self c = inside-close c.close.new.self c.args.name.now c.close.ensures.without c.self.invariant

pub returns-in_err-close-clause-unchanged : goal.returns-in_err-close-clause-unchanged
returns-in_err-close-clause-unchanged c =
    let same = unclosed c.self.inside.files c.close.new.self c.args.name.now c.close.result _ c.close.ensures.known c.in_err-close.was c.close.ensures.without in
    let p = err_from_is_err_and c.from_residual.result c.from_residual.ensures.1 in
    rw (← c.self.view_is, p.1, same) refl

pub invariant_of-self-2 : goal.invariant_of-self-2
invariant_of-self-2 c = inside-close c.close.new.self c.args.name.now c.close.ensures.without c.self.invariant

pub returns-clause-done : goal.returns-clause-done
returns-clause-done c =
    rw (← c.self.view_is)
    (IsDone-close _ c.args.name.now c.close.new.self c.close.ensures.without)
