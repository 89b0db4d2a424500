use Rattle.std.proofs.Common.{ap, [], Ok}
use Rattle.desk_core.specs.theorem.Desk.{HasHistory}
use Rattle.uses.proofs.Frames.{begun, late, shown}
use Rattle.uses.proofs.example.frame.draw_on.Goals as goal

pub returns : goal.returns
returns c =
    let before = begun c.in_ok-gpu.gpu c.in_ok-buffer.buffer c.in_ok-drawn.drawn in
    let one = c.in_ok-accept.ensures [] c.requires in
    let two = c.in_ok-accept-2.ensures _ one in
    let three = c.in_ok-accept-3.ensures _ two in
    let four : HasHistory c.accept-4.new.desk before = c.in_ok-accept-4.ensures _ three in
    let early = late _ _ _ _ c.in_ok-gpu.ensures c.in_ok-buffer.ensures c.in_ok-drawn.ensures (c.in_ok-early.ensures.shown before four) in
    let still : HasHistory c.refresh.new.desk before = rw (c.in_ok-early.ensures.late (ap Ok early)) four in
    let five = c.in_ok-accept-5.ensures before still in
    (early, shown _ _ _ _ c.in_ok-gpu.ensures c.in_ok-buffer.ensures c.in_ok-drawn.ensures (c.in_ok-refresh.ensures.shown _ five))
