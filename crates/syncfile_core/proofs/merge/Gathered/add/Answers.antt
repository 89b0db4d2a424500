use Rattle.std.proofs.Common.{◌≡◌, ap, ◌∙◌}
use Rattle.syncfile_core.specs.SyncFile.{File}
use Rattle.syncfile_core.proofs.Merging.{IsGathered-last}
use Rattle.syncfile_core.proofs.merge.Gathered.add.Goals as goal

pub returns : goal.returns
returns c = record {
  more = λ reach inputs before.
      let points : c.as_slice-points.result.now ≡ c.args.file.now.points = c.as_slice-points.ensures ∙ ap (λ (f : File). f.points) c.file.view_is in
      let floor : c.file.inside.floor ≡ c.args.file.now.floor = ap (λ (f : File). f.floor) c.file.view_is in
      let added =
      IsGathered-last inputs (record c.args.file.now { points = c.as_slice-points.result.now; floor = c.file.inside.floor }) before
      (c.put_all.ensures.latest reach _ before.latest) c.put_all.ensures.contexts c.join_floor.ensures.values c.join_floor.ensures.full in
      rw (points, floor) at added;
}
