use Rattle.std.proofs.Common.{sym, subst, rules, IfErr, Result, Vec, Global, ℕ}
use Rattle.device_core.specs.declared.errno.Errno.{Errno}
use Rattle.device_core.specs.declared.request.Request.TheVariants as request
use Rattle.device_core.specs.theorem.Request.{IsCause, cause_of, takes_memory}
use Rattle.device_core.specs.theorem.State.{objects_of}
use Rattle.device_core.proofs.Needing.{close-missing}
use Rattle.device_core.proofs.Answering.{closing-woken, closing-closed}
use Rattle.device_core.proofs.device.Device.close.Goals as goal
use Rattle.device_core.proofs.device.Device.close.Goals.{in-Ok, in-Err}

pub returns-then-contains_key-clause-woken : goal.returns-then-contains_key-clause-woken
returns-then-contains_key-clause-woken c =
    let left = c.close_timeline.ensures in
    closing-woken c.args.self.now c.close_timeline.new.self c.args.number c.args.now c.close_timeline.result left.signalled left.woken left.rising

pub returns-then-contains_key-clause-closed : goal.returns-then-contains_key-clause-closed
returns-then-contains_key-clause-closed c =
    let left = c.close_timeline.ensures in
    closing-closed c.args.self.now c.close_timeline.new.self c.args.number c.args.now c.close_timeline.result left.known left.next left.buffers left.closed left.signalled

pub returns-clause-refused : goal.returns-clause-refused
returns-clause-refused c =
    let d = objects_of c.args.self.now in
    let r = request.Close c.args.number c.args.now in
    let P : Result (Vec ℕ Global) Errno → Type 0 = λ given. IfErr given (λ e. IsCause (cause_of d r) (takes_memory d r) e) in
    elim c.match-drop_number.branch [
      | in-Ok w ↦ subst P (sym w.result-is) tt
      | in-Err w ↦ subst P (sym w.result-is) (close-missing d c.args.number c.args.now w.in-Err.refusal (search rules) w.in-Err.ensures.refused.1 w.in-Err.ensures.refused.2 w.in-Err.ensures.refused.0)
    ]
