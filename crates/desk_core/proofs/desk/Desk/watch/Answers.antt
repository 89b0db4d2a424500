use Rattle.std.proofs.Common.{◌≡◌, sym, ap, ◌∙◌, refl}
use Rattle.std.specs.Prelude.{is_some}
use Rattle.std.proofs.lemmas.Result.{err_from_is_err_and}
use Rattle.syncfile_core.specs.SyncFile.{File}
use Rattle.fence_core.specs.Watches.{cause_to_refuse_watch}
use Rattle.desk_core.proofs.Finding.{has_sync_file-found, refused_look_up, accepted_look_up}
use Rattle.desk_core.proofs.Waiting.{refused_as, refused_again, accepted_as}
use Rattle.desk_core.proofs.Watching.{watch-there, watch_points}
use Rattle.desk_core.specs.Keeping.{points_at}
use Rattle.desk_core.proofs.Doing.{IsDone-watch}
use Rattle.desk_core.proofs.desk.Desk.watch.Goals as goal

pub returns-in_err-file-clause-refused : goal.returns-in_err-file-clause-refused
returns-in_err-file-clause-refused c =
    let none = refused_look_up c.self.inside.files c.args.name.now _ _ _ c.get.ensures.found (sym c.ok_or.ensures.value ∙ c.in_err-file.was) in
    let missing = has_sync_file-found c.self.inside.files c.args.name.now ∙ ap is_some none.0 in
    let p = err_from_is_err_and c.from_residual.result c.from_residual.ensures.1 in
    let same = none.1 in
    rw (← c.self.view_is, missing, p.1, p.2, same) refl

pub returns-in_err-watch-clause-refused : goal.returns-in_err-watch-clause-refused
returns-in_err-watch-clause-refused c =
    let found = accepted_look_up c.self.inside.files c.args.name.now _ _ _ c.get.ensures.found (sym c.ok_or.ensures.value ∙ c.in_ok-file.was) in
    let listed : c.as_slice.result.now ≡ c.in_ok-file.file.now.points = c.as_slice.ensures ∙ ap (λ (f : File). f.points) c.file.view_is in
    let points = watch_points c.self.inside.files c.args.name.now c.in_ok-file.file.now c.as_slice.result.now found listed in
    let cause = watch-there (record { timelines = c.self.inside.timelines; files = c.self.inside.files; buffers = c.self.inside.buffers; watches = c.self.inside.watches }) c.args.name.now c.args.cookie c.in_ok-file.file.now found ∙ ap (λ reach. cause_to_refuse_watch c.self.inside.watches c.args.cookie (points_at c.self.inside.files c.args.name.now) reach) (sym c.self.invariant.watches) ∙ ap (λ ps. cause_to_refuse_watch c.self.inside.watches c.args.cookie ps c.self.inside.watches.reach) (sym points) in
    rw (← c.self.view_is)
    (refused_as _ _ _ _ cause (refused_again _ _ (cause_to_refuse_watch c.self.inside.watches c.args.cookie c.as_slice.result.now c.self.inside.watches.reach) _ c.in_err-watch.ensures.refused) c.from_residual-in_err-watch.ensures.1)

pub returns-clause-refused : goal.returns-clause-refused
returns-clause-refused c =
    let found = accepted_look_up c.self.inside.files c.args.name.now _ _ _ c.get.ensures.found (sym c.ok_or.ensures.value ∙ c.in_ok-file.was) in
    let listed : c.as_slice.result.now ≡ c.in_ok-file.file.now.points = c.as_slice.ensures ∙ ap (λ (f : File). f.points) c.file.view_is in
    let points = watch_points c.self.inside.files c.args.name.now c.in_ok-file.file.now c.as_slice.result.now found listed in
    let cause = watch-there (record { timelines = c.self.inside.timelines; files = c.self.inside.files; buffers = c.self.inside.buffers; watches = c.self.inside.watches }) c.args.name.now c.args.cookie c.in_ok-file.file.now found ∙ ap (λ reach. cause_to_refuse_watch c.self.inside.watches c.args.cookie (points_at c.self.inside.files c.args.name.now) reach) (sym c.self.invariant.watches) ∙ ap (λ ps. cause_to_refuse_watch c.self.inside.watches c.args.cookie ps c.self.inside.watches.reach) (sym points) in
    rw (← c.self.view_is) (accepted_as _ _ _ _ cause c.in_ok-watch.ensures.refused)

pub returns-clause-done : goal.returns-clause-done
returns-clause-done c =
    let found = accepted_look_up c.self.inside.files c.args.name.now _ _ _ c.get.ensures.found (sym c.ok_or.ensures.value ∙ c.in_ok-file.was) in
    let listed : c.as_slice.result.now ≡ c.in_ok-file.file.now.points = c.as_slice.ensures ∙ ap (λ (f : File). f.points) c.file.view_is in
    let points = watch_points c.self.inside.files c.args.name.now c.in_ok-file.file.now c.as_slice.result.now found listed in
    let done = IsDone-watch (record { timelines = c.self.inside.timelines; files = c.self.inside.files; buffers = c.self.inside.buffers; watches = c.self.inside.watches }) c.args.name.now c.args.cookie c.as_slice.result.now c.self.inside.watches.reach c.watch.new.self points c.in_ok-watch.ensures.last in
    rw (← c.self.view_is) done
