use Rattle.std.proofs.Common.{refl, ap, ◌∙◌, subst}
use Rattle.point_core.specs.Agreement.{HasRisingContexts}
use Rattle.syncfile_core.specs.SyncFile.{File}
use Rattle.syncfile_core.proofs.Passing.{HasFoundTo-none}
use Rattle.syncfile_core.proofs.running.Found.none.Goals as goal

pub returns : goal.returns
returns c = record {
  none = λ clocks. HasFoundTo-none clocks c.args.file.now _ refl refl (c.as_slice.ensures ∙ ap (λ (f : File). f.points) c.file.view_is)
      (subst (λ (f : File). HasRisingContexts f.points) c.file.view_is c.file.invariant);
}
