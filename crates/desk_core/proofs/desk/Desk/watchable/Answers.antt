use Rattle.std.proofs.Common.{Err, refl, sym, ap, ◌∙◌}
use Rattle.desk_core.proofs.Waiting.{refused_as}
use Rattle.desk_core.proofs.Watching.{watch-missing, watch-taken, watch-free, refused_cookie, free_cookie, if_reached}
use Rattle.desk_core.proofs.desk.Desk.watchable.Goals as goal

pub returns-in_err-status-clause-refused : goal.returns-in_err-status-clause-refused
returns-in_err-status-clause-refused c =
    let none = watch-missing (record { timelines = c.self.inside.timelines; files = c.self.inside.files; buffers = c.self.inside.buffers; watches = c.self.inside.watches }) c.args.name.now c.args.cookie c.as_clocks.result.now c.status.result c.as_clocks.ensures.value c.status.ensures.status _ c.in_err-status.was in
    rw (← c.self.view_is) (refused_as _ _ _ _ none.0 (ap Err none.1) c.from_residual.ensures.1)

pub returns-in_err-free-clause-refused : goal.returns-in_err-free-clause-refused
returns-in_err-free-clause-refused c =
    let taken = refused_cookie _ c.free.result _ c.free.ensures c.in_err-free.was in
    rw (← c.self.view_is)
    (refused_as _ _ _ _ (watch-taken (record { timelines = c.self.inside.timelines; files = c.self.inside.files; buffers = c.self.inside.buffers; watches = c.self.inside.watches }) c.args.name.now c.args.cookie c.as_clocks.result.now c.status.result c.as_clocks.ensures.value c.status.ensures.status _ c.in_ok-status.was _ taken) refl c.from_residual-in_err-free.ensures.1)

pub returns-then-is_signalled-clause-refused : goal.returns-then-is_signalled-clause-refused
returns-then-is_signalled-clause-refused c =
    let free = free_cookie _ c.free.result _ c.free.ensures c.in_ok-free.was in
    let cause = watch-free (record { timelines = c.self.inside.timelines; files = c.self.inside.files; buffers = c.self.inside.buffers; watches = c.self.inside.watches }) c.args.name.now c.args.cookie c.as_clocks.result.now c.status.result c.as_clocks.ensures.value c.status.ensures.status _ c.in_ok-status.was free ∙ ap if_reached (sym c.is_signalled.ensures ∙ c.if-is_signalled.true) in
    rw (← c.self.view_is) (rw cause refl)

pub returns-clause-refused : goal.returns-clause-refused
returns-clause-refused c =
    let free = free_cookie _ c.free.result _ c.free.ensures c.in_ok-free.was in
    let cause = watch-free (record { timelines = c.self.inside.timelines; files = c.self.inside.files; buffers = c.self.inside.buffers; watches = c.self.inside.watches }) c.args.name.now c.args.cookie c.as_clocks.result.now c.status.result c.as_clocks.ensures.value c.status.ensures.status _ c.in_ok-status.was free ∙ ap if_reached (sym c.is_signalled.ensures ∙ c.if-is_signalled.false) in
    rw (← c.self.view_is) (rw cause tt)
