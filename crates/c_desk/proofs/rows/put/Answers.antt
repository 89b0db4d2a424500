use Rattle.std.proofs.Common.{ap, ◌∙◌, set, take, map, arith}
use Rattle.std.proofs.lemmas.List.{length-map}
use Rattle.c_handle.specs.Rows.{over}
use Rattle.c_handle.proofs.Over.{map-more, over-least}
use Rattle.c_desk.proofs.rows.put.Goals as goal

pub loop-index-preserved : goal.loop-index-preserved
loop-index-preserved g c =
    let given = c.args.given.now in
    let old = c.args.rows.now in
    let made = g.R.RowOf.made_of in
    let i = c.loop-index.index in
    let row = c.index-given-index.result in
    ap (λ l. set l i c.of.result) c.loop-index.invariant
    ∙ ap (λ x. set (over (take i (map made given)) old) i x) (c.of.ensures ∙ ap made c.index-given-index.is)
    ∙ map-more made given old i row (omega (arith, c.loop-index-test.true, c.min-index-end.ensures)) (omega (arith, c.loop-index-test.true, c.min-index-end.ensures))

pub returns : goal.returns
returns g c =
    let given = c.args.given.now in
    let old = c.args.rows.now in
    let made = g.R.RowOf.made_of in
    let many = length-map given made in
    c.loop-index.invariant ∙ over-least (map made given) old c.loop-index.index (omega (arith, c.loop-index-test.false, c.min-index-end.ensures, many))
