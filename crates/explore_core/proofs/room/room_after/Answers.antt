use Rattle.std.proofs.Common.{map, ap, ◌∙◌, arith}
use Rattle.std.specs.Prelude.{Vec}
use Rattle.std.specs.Global.{Global}
use Rattle.explore_core.specs.declared.plan.Step.{Step}
use Rattle.explore_core.specs.Schedule.{Lines}
use Rattle.explore_core.proofs.Bounding.{room-left}
use Rattle.explore_core.proofs.room.room_after.Goals as goal

pub returns : goal.returns
returns c =
    let first = c.as_slice.ensures.value ∙ ap (λ (p : Lines). p.first) c.plan.view_is in
    let clients = ap (map (λ (lines : Vec Step Global). lines.items)) c.as_slice-2.ensures.value ∙ ap (λ (p : Lines). p.clients) c.plan.view_is in
    let before = c.in_ok-room.ensures in
    room-left c.args.plan.now c.as_slice.result.now c.as_slice-2.result.now first clients c.in_ok-room.room c.room_after_clients.result (omega (arith, before)) c.room_after_clients.ensures
