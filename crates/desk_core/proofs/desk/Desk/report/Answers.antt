use Rattle.std.proofs.Common.{List, map, ap, ◌∙◌}
use Rattle.point_core.specs.declared.clocks.Clock.{Clock}
use Rattle.desk_core.specs.Keeping.{file_row_at}
use Rattle.desk_core.proofs.Tables.{IsDone-report}
use Rattle.desk_core.proofs.desk.Desk.report.Goals as goal

pub buffer_rows-requires : goal.buffer_rows-requires
buffer_rows-requires c = record { made = c.self.invariant.buffers }

pub returns-clause-done : goal.returns-clause-done
returns-clause-done c =
    let timelines = c.of-timelines.ensures ∙ c.in_ok-rows.ensures.rows in
    let files = c.of-files.ensures ∙ c.in_ok-file_rows.ensures.rows ∙ ap (λ (ks : List Clock). map (file_row_at ks) c.self.inside.files) c.as_clocks-clocks.ensures.value in
    let buffers = c.of.ensures ∙ c.in_ok-buffers.ensures.rows in
    rw (← c.self.view_is) (IsDone-report _ c.of-timelines.result c.of-files.result c.of.result timelines files buffers)
