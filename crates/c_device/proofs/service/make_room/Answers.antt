use Rattle.std.proofs.Common.{◌≡◌, ◌≤◌, ◌-◌, true, sym, subst, length, Err, IfErr, OnOk, ℕ}
use Rattle.std.specs.VecDeque.{deque_len, deque_capacity}
use Rattle.std.proofs.lemmas.Result.{IfErr-weaker}
use Rattle.device_core.specs.declared.request.Request.{Request}
use Rattle.device_core.specs.declared.request.Request.TheVariants as request
use Rattle.device_core.specs.theorem.Request.{IsAnswer, takes_memory}
use Rattle.device_core.specs.theorem.State.{objects_of}
use Rattle.c_device.specs.Service.{may_wake}
use Rattle.c_device.proofs.Queued.{on-ok}
use Rattle.c_device.proofs.service.make_room.Goals as goal

pub returns-in-Inc-clause-ready : goal.returns-in-Inc-clause-ready
returns-in-Inc-clause-ready c =
    let d = c.args.device.now in
    let queue = c.room_for_inc.new.woken in
    let asked = λ (now : ℕ). request.Inc c.in-Inc.timeline c.in-Inc.n now in
    subst (λ (r : Request). OnOk c.room_for_inc.result (may_wake d r ≡ true → length d.files ≤ deque_capacity queue - deque_len queue)) (sym c.in-Inc.is)
    (on-ok c.room_for_inc.result ((now : ℕ) → takes_memory (objects_of d) (asked now) ≡ true → length d.files ≤ deque_capacity queue - deque_len queue) (takes_memory (objects_of d) (asked c.in-Inc.field-2) ≡ true → length d.files ≤ deque_capacity queue - deque_len queue) (λ all. all c.in-Inc.field-2) c.room_for_inc.ensures.ready)

pub returns-in-Inc-clause-refused : goal.returns-in-Inc-clause-refused
returns-in-Inc-clause-refused c =
    let d = objects_of c.args.device.now in
    subst (λ (r : Request). IfErr c.room_for_inc.result (λ e. IsAnswer d r (Err e))) (sym c.in-Inc.is)
    (IfErr-weaker c.room_for_inc.result (λ e. (now : ℕ) → IsAnswer d (request.Inc c.in-Inc.timeline c.in-Inc.n now) (Err e)) (λ e. IsAnswer d (request.Inc c.in-Inc.timeline c.in-Inc.n c.in-Inc.field-2) (Err e)) (λ e all. all c.in-Inc.field-2) c.room_for_inc.ensures.refused)

pub returns-in-Close-clause-ready : goal.returns-in-Close-clause-ready
returns-in-Close-clause-ready c =
    let d = c.args.device.now in
    let queue = c.room_for_close.new.woken in
    let asked = λ (now : ℕ). request.Close c.in-Close.number now in
    subst (λ (r : Request). OnOk c.room_for_close.result (may_wake d r ≡ true → length d.files ≤ deque_capacity queue - deque_len queue)) (sym c.in-Close.is)
    (on-ok c.room_for_close.result ((now : ℕ) → takes_memory (objects_of d) (asked now) ≡ true → length d.files ≤ deque_capacity queue - deque_len queue) (takes_memory (objects_of d) (asked c.in-Close.field-1) ≡ true → length d.files ≤ deque_capacity queue - deque_len queue) (λ all. all c.in-Close.field-1) c.room_for_close.ensures.ready)

pub returns-in-Close-clause-refused : goal.returns-in-Close-clause-refused
returns-in-Close-clause-refused c =
    let d = objects_of c.args.device.now in
    subst (λ (r : Request). IfErr c.room_for_close.result (λ e. IsAnswer d r (Err e))) (sym c.in-Close.is)
    (IfErr-weaker c.room_for_close.result (λ e. (now : ℕ) → IsAnswer d (request.Close c.in-Close.number now) (Err e)) (λ e. IsAnswer d (request.Close c.in-Close.number c.in-Close.field-1) (Err e)) (λ e all. all c.in-Close.field-1) c.room_for_close.ensures.refused)
