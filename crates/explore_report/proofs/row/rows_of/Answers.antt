use Rattle.std.proofs.Common.{◌++◌, sym, ap, ◌∙◌, ◌+◌, append-nil, map}
use Rattle.std.proofs.lemmas.List.{drop_all}
use Rattle.explore_report.specs.Rows.{rows_from, rows_of}
use Rattle.explore_report.proofs.Rows.{rows-next, text_of}
use Rattle.explore_report.proofs.row.rows_of.Goals as goal

pub loop-index-preserved : goal.loop-index-preserved
loop-index-preserved c =
    rows-next c.args.lines.now c.loop-index.index _ c.loop-index.context c.take_line.new.context c.loop-index.rows.items c.take_line.new.rows.items (rows_of (map text_of c.args.lines.now))
    c.loop-index-test.true c.in_ok-take_line.ensures.rows c.in_ok-take_line.ensures.context c.loop-index.invariant

pub returns : goal.returns
returns c =
    let i = c.loop-index.index in
    record {
      rows =
          sym (append-nil c.loop-index.rows.items)
          ∙ ap (λ lines. c.loop-index.rows.items ++ rows_from c.loop-index.context (i + 1) (map text_of lines)) (sym (drop_all i c.args.lines.now c.loop-index-test.false))
          ∙ c.loop-index.invariant;
    }
