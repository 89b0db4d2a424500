use Rattle.std.proofs.Common.{◌≡◌, ap, sym, ◌∙◌, ◌++◌, ◌∷◌, []}
use Rattle.syncfile_core.specs.Drafts.{drafted}
use Rattle.syncfile_core.specs.Files.{cause_to_refuse}
use Rattle.syncfile_core.specs.SyncFile.{plain_file}
use Rattle.syncfile_core.proofs.Causes.{new-by_cause}
use Rattle.syncfile_core.proofs.Standing.{HasStanding-plain, OnOk-two, OnOk-drawn, accepted}
use Rattle.syncfile_core.proofs.files.Files.create.Goals as goal

pub returns-clause-last : goal.returns-clause-last
returns-clause-last c =
    OnOk-drawn c.make.result c.draw_plain-drawn.result _ (c.make.new.self ≡ c.self.inside.made ++ drafted c.args.name c.draw_plain-drawn.new.self ∷ []) (c.make.new.self ≡ c.args.self.now ++ plain_file c.args.name c.args.point ∷ [])
    (λ file last. last ∙ ap (λ f. c.self.inside.made ++ f ∷ []) (file c.args.name) ∙ ap (λ fs. fs ++ plain_file c.args.name c.args.point ∷ []) c.self.view_is)
    c.make.ensures.drawn c.draw_plain-drawn.ensures.file c.make.ensures.last

pub returns-clause-stands : goal.returns-clause-stands
returns-clause-stands c =
    let last =
    OnOk-drawn c.make.result c.draw_plain-drawn.result _ (c.make.new.self ≡ c.self.inside.made ++ drafted c.args.name c.draw_plain-drawn.new.self ∷ []) (c.make.new.self ≡ c.args.self.now ++ plain_file c.args.name c.args.point ∷ [])
    (λ file last. last ∙ ap (λ f. c.self.inside.made ++ f ∷ []) (file c.args.name) ∙ ap (λ fs. fs ++ plain_file c.args.name c.args.point ∷ []) c.self.view_is)
    c.make.ensures.drawn c.draw_plain-drawn.ensures.file c.make.ensures.last in
    OnOk-two c.make.result _ _ _
    (λ last none. HasStanding-plain c.args.self.now c.make.new.self c.args.name c.args.point
    (new-by_cause c.args.self.now c.args.name (ap (λ fs. cause_to_refuse fs c.args.name) (sym c.self.view_is) ∙ none)) last)
    last (accepted _ c.make.result c.make.ensures.refused)
