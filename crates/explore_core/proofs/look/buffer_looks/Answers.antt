use Rattle.std.proofs.Common.{List, map, ap, ◌∙◌}
use Rattle.std.proofs.lemmas.List.{take_all}
use Rattle.point_core.specs.declared.listing.TopRow.{TopRow}
use Rattle.desk_core.proofs.Reporting.{rows-next}
use Rattle.explore_core.specs.declared.look.BufferLook.{BufferLook}
use Rattle.explore_core.specs.Search.{buffer_look}
use Rattle.explore_core.proofs.look.buffer_looks.Goals as goal

pub loop-name-preserved : goal.loop-name-preserved
loop-name-preserved c =
    let look : List TopRow → BufferLook = λ tops. record { name = c.name-item.result; tops = tops } in
    rows-next (buffer_look c.args.desk.now) c.loop-name.looks.items c.push.new.self.items (look c.of.result) c.args.names.now c.loop-name.name-index c.name-item.result c.loop-name-test.true c.name-item.is
    c.loop-name.invariant (ap look (c.of.ensures ∙ c.in-Ok.ensures.rows)) c.in_ok-push.ensures.items

pub returns : goal.returns
returns c = record {
  looks = c.loop-name.invariant ∙ ap (map (buffer_look c.args.desk.now)) (take_all c.loop-name.name-index c.args.names.now c.loop-name-test.false);
}
