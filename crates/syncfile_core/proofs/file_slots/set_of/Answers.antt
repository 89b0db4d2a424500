use Rattle.std.proofs.Common.{ap, ◌∙◌}
use Rattle.indexmap.specs.IndexSet.{insert_key}
use Rattle.point_core.specs.Named.{same_name}
use Rattle.syncfile_core.proofs.Renumbering.{insert_key-more}
use Rattle.syncfile_core.proofs.file_slots.set_of.Goals as goal

pub loop-name-preserved : goal.loop-name-preserved
loop-name-preserved c =
    c.in-Ok.ensures.keys
    ∙ ap (λ names. insert_key same_name names c.name-item.result) c.loop-name.invariant
    ∙ insert_key-more c.args.names.now c.loop-name.name-index c.name-item.result c.requires.distinct c.loop-name-test.true c.name-item.is
