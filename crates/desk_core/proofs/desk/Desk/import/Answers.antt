use Rattle.std.specs.Prelude.{is_some}
use Rattle.std.proofs.lemmas.Result.{err_from_is_err_and}
use Rattle.std.proofs.Common.{refl, ap, sym, ◌∙◌, length, None, Some, if◌then◌else◌}
use Rattle.point_core.specs.declared.refusal.Refusal.TheVariants.{Flags}
use Rattle.syncfile_core.specs.SyncFile.{File}
use Rattle.dmabuf_core.specs.Buffers.{has_buffer, cause_by_flags}
use Rattle.dmabuf_core.specs.Flags.{is_sync_flags}
use Rattle.desk_core.specs.Keeping.{AreMade}
use Rattle.desk_core.proofs.Finding.{accepted_look_up, refused_look_up, has_sync_file-found}
use Rattle.desk_core.proofs.Keeping.{sync_file_at-All}
use Rattle.desk_core.proofs.Doing.{IsDone-import}
use Rattle.desk_core.proofs.Inside.{inside-import}
use Rattle.desk_core.proofs.Waiting.{found_if, refused_again, accepted_again}
use Rattle.desk_core.proofs.desk.Desk.import.Goals as goal

pub returns-in_err-file-clause-refused : goal.returns-in_err-file-clause-refused
returns-in_err-file-clause-refused c =
    let none = refused_look_up c.self.inside.files c.args.file.now _ _ _ c.get.ensures.found (sym c.ok_or.ensures.value ∙ c.in_err-file.was) in
    let missing = has_sync_file-found c.self.inside.files c.args.file.now ∙ ap is_some none.0 in
    let p = err_from_is_err_and c.from_residual.result c.from_residual.ensures.1 in
    let same = none.1 in
    rw (← c.self.view_is, missing, p.1, p.2, same) refl

pub invariant_of-self-2 : goal.invariant_of-self-2
invariant_of-self-2 c =
    let some = accepted_look_up c.self.inside.files c.args.file.now _ _ _ c.get.ensures.found (sym c.ok_or.ensures.value ∙ c.in_ok-file.was) in
    let made = sync_file_at-All (λ (f : File). AreMade (length c.self.inside.timelines) f.points) c.self.inside.files c.args.file.now _ c.self.invariant.files some in
    inside-import c.import.new.self c.args.name.now c.as_reach-reach.result.now c.in_ok-file.file.now.points c.args.flags c.as_reach-reach.ensures.value c.in_ok-import.ensures.agrees c.import.ensures.others made c.self.invariant

pub returns-in_err-import-clause-refused : goal.returns-in_err-import-clause-refused
returns-in_err-import-clause-refused c =
    let some = accepted_look_up c.self.inside.files c.args.file.now _ _ _ c.get.ensures.found (sym c.ok_or.ensures.value ∙ c.in_ok-file.was) in
    let found = has_sync_file-found c.self.inside.files c.args.file.now ∙ ap is_some some in
    let p = err_from_is_err_and c.from_residual-in_err-import.result c.from_residual-in_err-import.ensures.1 in
    rw (← c.self.view_is, found, p.1, p.2) (refused_again _ _ (cause_by_flags c.self.inside.buffers c.args.name.now c.args.flags) _ c.in_err-import.ensures.refused)

pub returns-clause-refused : goal.returns-clause-refused
returns-clause-refused c =
    let some = accepted_look_up c.self.inside.files c.args.file.now _ _ _ c.get.ensures.found (sym c.ok_or.ensures.value ∙ c.in_ok-file.was) in
    let found = has_sync_file-found c.self.inside.files c.args.file.now ∙ ap is_some some in
    rw (← c.self.view_is, found) (accepted_again _ _ (cause_by_flags c.self.inside.buffers c.args.name.now c.args.flags) _ _ c.in_ok-import.ensures.refused)

pub returns-clause-done : goal.returns-clause-done
returns-clause-done c =
    let some = accepted_look_up c.self.inside.files c.args.file.now _ _ _ c.get.ensures.found (sym c.ok_or.ensures.value ∙ c.in_ok-file.was) in
    let has = found_if (has_buffer c.self.inside.buffers c.args.name.now) (if is_sync_flags c.args.flags then None else Some Flags) c.import.result _ c.import.ensures.refused c.in_ok-import.was in
    rw (← c.self.view_is)
    (IsDone-import _ c.args.name.now c.args.file.now c.args.flags c.as_reach-reach.result.now c.in_ok-file.file.now c.import.new.self has some c.as_reach-reach.ensures.value c.in_ok-import.ensures.agrees c.import.ensures.others c.import.ensures.kept)
