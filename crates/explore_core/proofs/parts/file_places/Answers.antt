use Rattle.std.proofs.Common.{map, ap, ◌∙◌}
use Rattle.syncfile_core.proofs.Causes.{IfOk-then}
use Rattle.explore_core.specs.Search.{has_name, file_look}
use Rattle.explore_core.proofs.Parting.{Begins-refl}
use Rattle.explore_core.proofs.parts.file_places.Goals as goal

pub returns-in_default-clause-begins : goal.returns-in_default-clause-begins
returns-in_default-clause-begins c = Begins-refl c.args.table.now

pub returns-clause-files : goal.returns-clause-files
returns-clause-files c =
    IfOk-then c.places_of-places.result c.places_of-places.ensures.files (λ places is. is ∙ ap (map (file_look (has_name c.args.asked.now) c.args.desk.now)) (c.as_slice.ensures.value ∙ c.in-Ok.ensures.names))
