use Rattle.std.proofs.Common.{ap, ◌∙◌, ◌++◌, ◌∷◌, []}
use Rattle.std.specs.Prelude.{option_copied}
use Rattle.syncfile_core.specs.Drafts.{pending_of}
use Rattle.syncfile_core.specs.SyncFile.{file_of}
use Rattle.syncfile_core.proofs.Standing.{OnOk-drawn}
use Rattle.syncfile_core.proofs.files.Files.adopt_latest.Goals as goal

pub returns-clause-last : goal.returns-clause-last
returns-clause-last c =
    let file = file_of c.args.name (pending_of (option_copied c.args.latest) c.args.reach.now) c.args.reach.now in
    OnOk-drawn c.make.result c.draw_latest-drawn.result _ _ _
    (λ drawn last. last ∙ ap (λ f. c.self.inside.made ++ f ∷ []) (drawn c.args.name) ∙ ap (λ fs. fs ++ file ∷ []) c.self.view_is)
    c.make.ensures.drawn c.draw_latest-drawn.ensures.file c.make.ensures.last
