use Rattle.std.proofs.Common.{List, ap, ◌∙◌}
use Rattle.point_core.specs.declared.entry.Point.{Point}
use Rattle.explore_core.specs.declared.look.FileLook.{FileLook}
use Rattle.explore_core.proofs.look.file_look.Goals as goal

pub returns : goal.returns
returns c = record {
  look =
      let look : List Point → FileLook = λ points. record { name = c.args.name.now; points = points } in
      ap look (c.of.ensures ∙ c.in_ok-points.ensures.points);
}
