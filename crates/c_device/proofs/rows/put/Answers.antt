use Rattle.std.proofs.Common.{ap, ◌∙◌, set, take, map, arith}
use Rattle.std.proofs.lemmas.List.{length-map}
use Rattle.c_handle.specs.Rows.{over}
use Rattle.c_handle.proofs.Over.{map-more, over-least}
use Rattle.c_device.specs.Reported.{c_fence_info}
use Rattle.c_device.proofs.rows.put.Goals as goal

pub loop-index-preserved : goal.loop-index-preserved
loop-index-preserved c =
    let fences = c.args.fences.now in
    let old = c.args.rows.now in
    let i = c.loop-index.index in
    ap (λ l. set l i c.row_of.result) c.loop-index.invariant
    ∙ ap (λ x. set (over (take i (map c_fence_info fences)) old) i x) c.row_of.ensures
    ∙ map-more c_fence_info fences old i _ (omega (arith, c.loop-index-test.true, c.min-index-end.ensures)) (omega (arith, c.loop-index-test.true, c.min-index-end.ensures))

pub returns : goal.returns
returns c =
    let fences = c.args.fences.now in
    let old = c.args.rows.now in
    let many = length-map fences c_fence_info in
    c.loop-index.invariant ∙ over-least (map c_fence_info fences) old c.loop-index.index (omega (arith, c.loop-index-test.false, c.min-index-end.ensures, many))
