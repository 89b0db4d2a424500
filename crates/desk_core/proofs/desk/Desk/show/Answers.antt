use Rattle.std.proofs.Common.{◌≡◌, length, map, ap, ◌∙◌}
use Rattle.timeline_core.specs.Timeline.{reach_of}
use Rattle.resv_core.specs.Resv.{rows_of}
use Rattle.dmabuf_core.specs.Buffers.{entries_of}
use Rattle.desk_core.specs.theorem.Answer.{show_row}
use Rattle.desk_core.proofs.Reporting.{rows_of-made}
use Rattle.desk_core.proofs.Tables.{IsDone-show}
use Rattle.desk_core.proofs.desk.Desk.show.Goals as goal

pub show_rows-requires : goal.show_rows-requires
show_rows-requires c =
    let ts = c.self.inside.timelines in
    let entries = entries_of c.self.inside.buffers c.args.name.now in
    let is : c.deref.result.now ≡ rows_of entries (reach_of ts) = c.deref.ensures.value ∙ c.in_ok-tops.ensures.rows ∙ ap (rows_of entries) c.as_reach.ensures.value in
    record { made = rw is (rows_of-made (length ts) (reach_of ts) entries (c.self.invariant.buffers c.args.name.now)) }

pub returns-clause-done : goal.returns-clause-done
returns-clause-done c =
    let ts = c.self.inside.timelines in
    let entries = entries_of c.self.inside.buffers c.args.name.now in
    let is : c.deref.result.now ≡ rows_of entries (reach_of ts) = c.deref.ensures.value ∙ c.in_ok-tops.ensures.rows ∙ ap (rows_of entries) c.as_reach.ensures.value in
    rw (← c.self.view_is) (IsDone-show _ c.args.name.now c.of.result (c.of.ensures ∙ c.in_ok-rows.ensures.rows ∙ ap (map (show_row ts)) is))
