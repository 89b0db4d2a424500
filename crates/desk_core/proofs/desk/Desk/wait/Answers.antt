use Rattle.std.proofs.Common.{refl, sym, ap, ◌∙◌}
use Rattle.std.specs.Prelude.{if◌then◌else◌, None, Some}
use Rattle.point_core.specs.declared.refusal.Refusal.TheVariants.{TimedOut}
use Rattle.desk_core.proofs.Waiting.{IsRefusedFor-no_file, cause_of-waited}
use Rattle.desk_core.proofs.desk.Desk.wait.Goals as goal

pub returns-in_err-status-clause-refused : goal.returns-in_err-status-clause-refused
returns-in_err-status-clause-refused c =
    rw (← c.self.view_is)
    (IsRefusedFor-no_file (record { timelines = c.self.inside.timelines; files = c.self.inside.files; buffers = c.self.inside.buffers; watches = c.self.inside.watches }) c.args.name.now c.as_clocks-clocks.result.now c.status.result _ _ c.status.ensures.status c.in_err-status.was c.from_residual.ensures.1)

pub returns-then-is_signalled-clause-refused : goal.returns-then-is_signalled-clause-refused
returns-then-is_signalled-clause-refused c =
    let cause = cause_of-waited (record { timelines = c.self.inside.timelines; files = c.self.inside.files; buffers = c.self.inside.buffers; watches = c.self.inside.watches }) c.args.name.now c.as_clocks-clocks.result.now c.status.result _ c.as_clocks-clocks.ensures.value c.status.ensures.status c.in_ok-status.was ∙ ap (λ b. if b then None else Some TimedOut) (sym c.is_signalled.ensures ∙ c.if-is_signalled.true) in
    rw (← c.self.view_is) (rw cause tt)

pub returns-else-is_signalled-clause-refused : goal.returns-else-is_signalled-clause-refused
returns-else-is_signalled-clause-refused c =
    let cause = cause_of-waited (record { timelines = c.self.inside.timelines; files = c.self.inside.files; buffers = c.self.inside.buffers; watches = c.self.inside.watches }) c.args.name.now c.as_clocks-clocks.result.now c.status.result _ c.as_clocks-clocks.ensures.value c.status.ensures.status c.in_ok-status.was ∙ ap (λ b. if b then None else Some TimedOut) (sym c.is_signalled.ensures ∙ c.if-is_signalled.false) in
    rw (← c.self.view_is) (rw cause refl)
