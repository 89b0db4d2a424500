use Rattle.std.proofs.Common.{ap, ◌∙◌, arith}
use Rattle.desk_core.specs.Keeping.{file_row_at}
use Rattle.desk_core.proofs.Reporting.{file_at-reported, IsSome-copied, copied-now, rows-next}
use Rattle.desk_core.proofs.report.file_rows.Goals as goal

pub unwrap-requires : goal.unwrap-requires
unwrap-requires c =
    let reported = c.deref-name-items.ensures.value ∙ c.in_ok-names.ensures.names in
    let file = file_at-reported c.args.files.now c.deref-name-items.result.now c.loop-name.name-index c.name-item.result reported c.in_ok-names.ensures.distinct c.loop-name-test.true c.name-item.is in
    IsSome-copied c.get.result file.0 (c.get.ensures.found ∙ file.1.found)

pub loop-name-preserved : goal.loop-name-preserved
loop-name-preserved c =
    let reported = c.deref-name-items.ensures.value ∙ c.in_ok-names.ensures.names in
    let file = file_at-reported c.args.files.now c.deref-name-items.result.now c.loop-name.name-index c.name-item.result reported c.in_ok-names.ensures.distinct c.loop-name-test.true c.name-item.is in
    let same = copied-now c.get.result c.unwrap.result file.0 c.unwrap.ensures (c.get.ensures.found ∙ file.1.found) in
    let row = c.file_row.ensures ∙ ap (file_row_at c.args.clocks.now) same in
    let rows = rows-next (file_row_at c.args.clocks.now) c.loop-name.rows.items c.push_reserved.new.self.items c.file_row.result c.args.files.now c.loop-name.name-index file.0 file.1.within file.1.at c.loop-name.invariant.0 row c.push_reserved.ensures.items in
    (rows, omega (arith, c.push_reserved.ensures.len, c.loop-name.invariant.1), c.push_reserved.ensures.capacity ∙ c.loop-name.invariant.2)
