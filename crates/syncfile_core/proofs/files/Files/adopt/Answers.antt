use Rattle.std.proofs.Common.{ap, ◌∙◌, ◌++◌, ◌∷◌, []}
use Rattle.syncfile_core.specs.SyncFile.{file_of}
use Rattle.syncfile_core.proofs.Standing.{OnOk-drawn}
use Rattle.syncfile_core.proofs.files.Files.adopt.Goals as goal

pub returns-clause-last : goal.returns-clause-last
returns-clause-last c =
    OnOk-drawn c.make.result c.draw_listing-drawn.result _ _ _
    (λ file last. last ∙ ap (λ f. c.self.inside.made ++ f ∷ []) (file c.args.name) ∙ ap (λ fs. fs ++ file_of c.args.name c.args.listing.points c.args.listing.floor ∷ []) c.self.view_is)
    c.make.ensures.drawn c.draw_listing-drawn.ensures.file c.make.ensures.last
