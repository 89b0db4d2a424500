use Rattle.std.proofs.Common.{sym, ap, ◌∙◌}
use Rattle.std.specs.List.{list_all}
use Rattle.explore_core.specs.Flow.{allows_row, bounds_of, has_put}
use Rattle.explore_core.proofs.flow.Flow.allows_buffer.Goals as goal

pub returns : goal.returns
returns c = λ is.
    sym (ap (λ puts. list_all (allows_row c.args.desk.now.timelines (has_put puts c.args.name.now)) c.as_slice-2.result.now) c.as_slice.ensures.value
    ∙ ap (list_all (allows_row c.args.desk.now.timelines ((bounds_of c.args.self.now).buffer c.args.name.now))) (c.as_slice-2.ensures.value ∙ c.in-Ok.ensures.rows))
    ∙ sym c.allow_rows.ensures ∙ is
