use Rattle.std.proofs.Common.{◌≡◌, refl, sym, ap, ◌∙◌, List, length}
use Rattle.std.specs.Prelude.{is_some}
use Rattle.std.proofs.lemmas.Result.{err_from_is_err_and}
use Rattle.point_core.specs.declared.clocks.Clock.{Clock}
use Rattle.point_core.specs.Clocks.{common_status}
use Rattle.syncfile_core.specs.SyncFile.{File}
use Rattle.desk_core.specs.Keeping.{AreMade}
use Rattle.desk_core.proofs.Finding.{has_sync_file-found, refused_look_up, accepted_look_up}
use Rattle.desk_core.proofs.Keeping.{sync_file_at-All}
use Rattle.desk_core.proofs.Doing.{IsDone-info}
use Rattle.desk_core.proofs.Information.{info_at-parts}
use Rattle.desk_core.proofs.desk.Desk.info.Goals as goal

pub returns-in_err-file-clause-refused : goal.returns-in_err-file-clause-refused
returns-in_err-file-clause-refused c =
    let none = refused_look_up c.self.inside.files c.args.name.now _ _ _ c.get.ensures.found (sym c.ok_or.ensures.value ∙ c.in_err-file.was) in
    let missing = has_sync_file-found c.self.inside.files c.args.name.now ∙ ap is_some none.0 in
    let p = err_from_is_err_and c.from_residual.result c.from_residual.ensures.1 in
    let same = none.1 in
    rw (← c.self.view_is, missing, p.1, p.2, same) refl

pub fence_rows-requires : goal.fence_rows-requires
fence_rows-requires c =
    let some = accepted_look_up c.self.inside.files c.args.name.now _ _ _ c.get.ensures.found (sym c.ok_or.ensures.value ∙ c.in_ok-file.was) in
    let made = sync_file_at-All (λ (f : File). AreMade (length c.self.inside.timelines) f.points) c.self.inside.files c.args.name.now _ c.self.invariant.files some in
    let listed : c.as_slice-points.result.now ≡ c.in_ok-file.file.now.points = c.as_slice-points.ensures ∙ ap (λ (f : File). f.points) c.file.view_is in
    record { made = rw listed made }

pub returns-in_err-fence_rows-clause-refused : goal.returns-in_err-fence_rows-clause-refused
returns-in_err-fence_rows-clause-refused c =
    let some = accepted_look_up c.self.inside.files c.args.name.now _ _ _ c.get.ensures.found (sym c.ok_or.ensures.value ∙ c.in_ok-file.was) in
    let found = has_sync_file-found c.self.inside.files c.args.name.now ∙ ap is_some some in
    let p = err_from_is_err_and c.from_residual-in_err-fence_rows.result c.from_residual-in_err-fence_rows.ensures.1 in
    rw (← c.self.view_is, found, p.1, p.2) c.in_err-fence_rows.ensures.memory

pub returns-clause-refused : goal.returns-clause-refused
returns-clause-refused c =
    let some = accepted_look_up c.self.inside.files c.args.name.now _ _ _ c.get.ensures.found (sym c.ok_or.ensures.value ∙ c.in_ok-file.was) in
    let found = has_sync_file-found c.self.inside.files c.args.name.now ∙ ap is_some some in
    rw (← c.self.view_is, found) tt

pub returns-clause-done : goal.returns-clause-done
returns-clause-done c =
    let some = accepted_look_up c.self.inside.files c.args.name.now _ _ _ c.get.ensures.found (sym c.ok_or.ensures.value ∙ c.in_ok-file.was) in
    let listed : c.as_slice-points.result.now ≡ c.in_ok-file.file.now.points = c.as_slice-points.ensures ∙ ap (λ (f : File). f.points) c.file.view_is in
    let ts = c.self.inside.timelines in
    let status = c.common_status-status.ensures ∙ ap (λ (ks : List Clock). common_status ks c.as_slice-points.result.now) c.as_clocks.ensures.value in
    let rows = c.of-fences.ensures ∙ c.in_ok-fence_rows.ensures.rows in
    let reported = info_at-parts ts c.args.name.now c.as_slice-points.result.now _ c.common_status-status.result c.of-fences.result status rows listed in
    rw (← c.self.view_is) (IsDone-info _ c.args.name.now _ _ some reported)
