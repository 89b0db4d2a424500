use Rattle.std.proofs.Common.{Some, map, ap, ◌∙◌}
use Rattle.syncfile_core.proofs.Causes.{IfOk-then}
use Rattle.explore_core.specs.Search.{buffer_look}
use Rattle.explore_core.proofs.Parting.{Begins-refl}
use Rattle.explore_core.proofs.parts.buffers_place.Goals as goal

pub returns-in_default-clause-begins : goal.returns-in_default-clause-begins
returns-in_default-clause-begins c = Begins-refl c.args.table.now

pub returns-in_default-buffer_looks-clause-begins : goal.returns-in_default-buffer_looks-clause-begins
returns-in_default-buffer_looks-clause-begins c = Begins-refl c.args.table.now

pub returns-clause-there : goal.returns-clause-there
returns-clause-there c =
    let looks = c.in-Ok-buffer_looks.ensures.looks ∙ ap (map (buffer_look c.args.desk.now)) (c.as_slice.ensures.value ∙ c.in-Ok.ensures.names) in
    IfOk-then c.intern.result c.intern.ensures.there (λ place there. there ∙ ap Some (c.of.ensures ∙ looks))
