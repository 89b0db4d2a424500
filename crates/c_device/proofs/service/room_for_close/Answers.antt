use Rattle.std.proofs.Common.{◌≡◌, ◌≤◌, ◌-◌, ◌∙◌, ℕ, true, false, sym, length}
use Rattle.std.specs.VecDeque.{deque_len, deque_capacity}
use Rattle.std.proofs.lemmas.Bool.{false≢true}
use Rattle.device_core.specs.declared.request.Request.TheVariants as request
use Rattle.device_core.specs.theorem.Request.{takes_memory}
use Rattle.device_core.specs.theorem.State.{objects_of}
use Rattle.device_core.proofs.Needing.{drop-spares}
use Rattle.c_device.proofs.Queued.{on-ok}
use Rattle.c_device.proofs.service.room_for_close.Goals as goal

pub returns-then-not-is_timeline-clause-ready : goal.returns-then-not-is_timeline-clause-ready
returns-then-not-is_timeline-clause-ready c = λ now wakes.
    absurd (false≢true (sym (drop-spares (objects_of c.args.device.now) c.args.number now (sym c.is_timeline.ensures ∙ c.if-not-is_timeline.true)) ∙ wakes))

pub returns-clause-ready : goal.returns-clause-ready
returns-clause-ready c =
    let d = c.args.device.now in
    let takes = λ (now : ℕ). takes_memory (objects_of d) (request.Close c.args.number now) in
    on-ok c.close_without_memory.result ((now : ℕ) → takes now ≡ false) ((now : ℕ) → takes now ≡ true → length d.files ≤ deque_capacity c.grow.new.woken - deque_len c.grow.new.woken)
    (λ none now wakes. absurd (false≢true (sym (none now) ∙ wakes))) c.close_without_memory.ensures.none
