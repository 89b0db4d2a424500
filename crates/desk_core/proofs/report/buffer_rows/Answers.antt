use Rattle.std.proofs.Common.{◌≡◌, ◌<◌, length, map, get_or, subst, ap, ◌∙◌, arith}
use Rattle.std.proofs.lemmas.Result.{err_from_is_err_and}
use Rattle.timeline_core.specs.Timeline.{reach_of}
use Rattle.resv_core.specs.Resv.{rows_of}
use Rattle.dmabuf_core.specs.Buffers.{entries_of, names_of, has_buffer}
use Rattle.command_core.specs.declared.answer.BufferRows.{BufferRows}
use Rattle.desk_core.specs.theorem.Answer.{show_row}
use Rattle.desk_core.specs.Keeping.{buffer_rows_at}
use Rattle.desk_core.proofs.Reporting.{rows-next, rows_of-made, has_buffer-reported, Memory-reported, within-BUFFERS}
use Rattle.desk_core.proofs.report.buffer_rows.Goals as goal

pub returns-in_err-tops-clause-memory : goal.returns-in_err-tops-clause-memory
returns-in_err-tops-clause-memory c =
    let bs = c.args.buffers.now in
    let name = c.name-item.result in
    let reported : c.deref-name-items.result.now ≡ names_of bs = c.deref-name-items.ensures.value ∙ c.in_ok-names.ensures.names in
    let within : c.loop-name.name-index < length (names_of bs) = subst (λ ns. c.loop-name.name-index < length ns) reported c.loop-name-test.true in
    let at : name ≡ get_or (names_of bs) c.loop-name.name-index name = c.name-item.is ∙ ap (λ ns. get_or ns c.loop-name.name-index name) reported in
    let known = has_buffer-reported bs c.loop-name.name-index name within at in
    let memory = Memory-reported _ (has_buffer bs name) c.in_err-tops.field-0.0 known c.in_err-tops.ensures.refused in
    let p = err_from_is_err_and c.from_residual-in_err-tops.result c.from_residual-in_err-tops.ensures.1 in
    rw (p.1, p.2) memory

pub show_rows-requires : goal.show_rows-requires
show_rows-requires c =
    let ts = c.args.timelines.now in
    let name = c.name-item.result in
    let entries = entries_of c.args.buffers.now name in
    let is : c.deref.result.now ≡ rows_of entries (reach_of ts) = c.deref.ensures.value ∙ c.in_ok-tops.ensures.rows ∙ ap (rows_of entries) c.as_reach.ensures.value in
    record { made = rw is (rows_of-made (length ts) (reach_of ts) entries (c.requires.made name)) }

pub loop-name-preserved : goal.loop-name-preserved
loop-name-preserved c =
    let bs = c.args.buffers.now in
    let ts = c.args.timelines.now in
    let name = c.name-item.result in
    let entries = entries_of bs name in
    let reported : c.deref-name-items.result.now ≡ names_of bs = c.deref-name-items.ensures.value ∙ c.in_ok-names.ensures.names in
    let within : c.loop-name.name-index < length (names_of bs) = subst (λ ns. c.loop-name.name-index < length ns) reported c.loop-name-test.true in
    let at : name ≡ get_or (names_of bs) c.loop-name.name-index name = c.name-item.is ∙ ap (λ ns. get_or ns c.loop-name.name-index name) reported in
    let tops : c.deref.result.now ≡ rows_of entries (reach_of ts) = c.deref.ensures.value ∙ c.in_ok-tops.ensures.rows ∙ ap (rows_of entries) c.as_reach.ensures.value in
    let row : BufferRows = record { name = name; rows = c.of.result } in
    let is : row ≡ buffer_rows_at ts bs name = ap (λ rows. record { name = name; rows = rows }) (c.of.ensures ∙ c.in_ok-rows.ensures.rows ∙ ap (map (show_row ts)) tops) in
    let rows = rows-next (buffer_rows_at ts bs) c.loop-name.listed.items c.push_reserved.new.self.items row (names_of bs) c.loop-name.name-index name within at c.loop-name.invariant.0 is c.push_reserved.ensures.items in
    (rows, omega (arith, c.push_reserved.ensures.len, c.loop-name.invariant.1), c.push_reserved.ensures.capacity ∙ c.loop-name.invariant.2)

pub returns-clause-within : goal.returns-clause-within
returns-clause-within c =
    let bs = c.args.buffers.now in
    within-BUFFERS bs (buffer_rows_at c.args.timelines.now bs) c.loop-name.listed.items c.loop-name.name-index c.loop-name.invariant.0 c.in_ok-names.ensures.kept.within
