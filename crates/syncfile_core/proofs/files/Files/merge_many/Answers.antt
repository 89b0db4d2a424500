use Rattle.std.proofs.Common.{◌++◌, [], ◌∷◌, sym, subst, ap, ◌∙◌}
use Rattle.std.proofs.lemmas.List.{take_all}
use Rattle.point_core.specs.declared.refusal.Refusal.TheVariants.{NoEntry}
use Rattle.point_core.proofs.Named.{has_named-Some, has_named-None}
use Rattle.syncfile_core.specs.Files.{has_file}
use Rattle.syncfile_core.specs.SyncFile.{file_at, file_name}
use Rattle.syncfile_core.specs.Merge.{files_at, merged_file, IsGathered}
use Rattle.syncfile_core.proofs.Causes.{OnOk-always, IsRefusedFor-Err, cause_to_refuse_merge-absent}
use Rattle.syncfile_core.proofs.Kept.{files_at-take_more, list_all-take_more, list_all-fails}
use Rattle.syncfile_core.proofs.Unions.{StandsForUnion-merged_file}
use Rattle.syncfile_core.proofs.Standing.{OnOk-drawn}
use Rattle.syncfile_core.proofs.files.Files.merge_many.Goals as goal

pub returns-in_err-known-clause-refused : goal.returns-in_err-known-clause-refused
returns-in_err-known-clause-refused c =
    let absent = has_named-None file_name c.args.self.now c.input-item.result (ap (λ fs. file_at fs c.input-item.result) (sym c.self.view_is) ∙ c.in_err-known.ensures.absent) in
    let fails = list_all-fails (has_file c.args.self.now) c.args.inputs.now c.loop-input.input-index c.input-item.result c.loop-input-test.true c.input-item.is absent in
    IsRefusedFor-Err _ c.from_residual.result NoEntry c.in_err-known.field-0.0
    (cause_to_refuse_merge-absent c.args.self.now c.args.name c.args.inputs.now fails) c.in_err-known.ensures.unknown c.from_residual.ensures.1

pub loop-input-preserved : goal.loop-input-preserved
loop-input-preserved c =
    let found = ap (λ fs. file_at fs c.input-item.result) (sym c.self.view_is) ∙ c.in_ok-known.ensures.found in (
      subst (λ files. IsGathered c.add.new.self.latest c.add.new.self.floor c.args.reach.now files)
          (sym (files_at-take_more c.args.self.now c.args.inputs.now c.loop-input.input-index c.input-item.result c.in_ok-known.field-0.now c.loop-input-test.true c.input-item.is found))
          (c.add.ensures.more c.args.reach.now _ c.loop-input.invariant.0),
      list_all-take_more (has_file c.args.self.now) c.args.inputs.now c.loop-input.input-index c.input-item.result c.loop-input-test.true c.input-item.is c.loop-input.invariant.1 (has_named-Some file_name c.args.self.now c.input-item.result c.in_ok-known.field-0.now found),
    )

pub returns-clause-last : goal.returns-clause-last
returns-clause-last c =
    let all = take_all c.loop-input.input-index c.args.inputs.now c.loop-input-test.false in
    let inputs = files_at c.args.self.now c.args.inputs.now in
    let gathered = subst (λ names. IsGathered c.loop-input.gathered.latest c.loop-input.gathered.floor c.args.reach.now (files_at c.args.self.now names)) all c.loop-input.invariant.0 in
    OnOk-drawn c.make.result c.draw-drawn.result _ _ _
    (λ drawn last.
    last ∙ ap (λ f. c.self.inside.made ++ f ∷ []) (drawn c.args.name)
    ∙ ap (λ fs. fs ++ merged_file c.args.name inputs c.args.reach.now ∷ []) c.self.view_is)
    c.make.ensures.drawn (c.draw-drawn.ensures.file inputs gathered) c.make.ensures.last

pub returns-clause-union : goal.returns-clause-union
returns-clause-union c =
    let all = take_all c.loop-input.input-index c.args.inputs.now c.loop-input-test.false in
    let gathered = subst (λ names. IsGathered c.loop-input.gathered.latest c.loop-input.gathered.floor c.args.reach.now (files_at c.args.self.now names)) all c.loop-input.invariant.0 in
    OnOk-always c.make.result _ (StandsForUnion-merged_file c.args.name (files_at c.args.self.now c.args.inputs.now) c.args.reach.now gathered.contexts gathered.floors)
