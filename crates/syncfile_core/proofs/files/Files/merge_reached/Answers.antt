use Rattle.std.proofs.Common.{◌≡◌, [], ◌∷◌, ◌++◌, sym, subst, ap, ◌∙◌}
use Rattle.std.specs.List.{cons_option}
use Rattle.point_core.specs.declared.refusal.Refusal.TheVariants.{NoEntry}
use Rattle.point_core.specs.Refusal.{IsRefusedFor}
use Rattle.point_core.specs.Reach.{IsAtLeast}
use Rattle.point_core.proofs.Named.{has_named-Some, has_named-None, named-All}
use Rattle.syncfile_core.specs.Files.{cause_to_refuse}
use Rattle.syncfile_core.specs.SyncFile.{File, file_name, file_at}
use Rattle.syncfile_core.specs.Merge.{files_at, floor_of, merged_file, StandsForUnion}
use Rattle.syncfile_core.proofs.Causes.{IsRefusedFor-Err, cause_to_refuse_merge-first_absent, cause_to_refuse_merge-second_absent, cause_to_refuse_merge-both}
use Rattle.syncfile_core.proofs.Standing.{OnOk-drawn}
use Rattle.syncfile_core.proofs.files.Files.merge_reached.Goals as goal

pub returns-in_err-left-clause-refused : goal.returns-in_err-left-clause-refused
returns-in_err-left-clause-refused c =
    let absent = has_named-None file_name c.args.self.now c.args.a.now (ap (λ fs. file_at fs c.args.a.now) (sym c.self.view_is) ∙ c.in_err-left.ensures.absent) in
    IsRefusedFor-Err _ c.from_residual.result NoEntry c.in_err-left.field-0.0
    (cause_to_refuse_merge-first_absent c.args.self.now c.args.name c.args.a.now c.args.b.now absent) c.in_err-left.ensures.unknown c.from_residual.ensures.1

pub returns-in_err-right-clause-refused : goal.returns-in_err-right-clause-refused
returns-in_err-right-clause-refused c =
    let absent = has_named-None file_name c.args.self.now c.args.b.now (ap (λ fs. file_at fs c.args.b.now) (sym c.self.view_is) ∙ c.in_err-right.ensures.absent) in
    IsRefusedFor-Err _ c.from_residual-in_err-right.result NoEntry c.in_err-right.field-0.0
    (cause_to_refuse_merge-second_absent c.args.self.now c.args.name c.args.a.now c.args.b.now absent) c.in_err-right.ensures.unknown c.from_residual-in_err-right.ensures.1

pub returns-clause-refused : goal.returns-clause-refused
returns-clause-refused c =
    let first = has_named-Some file_name c.args.self.now c.args.a.now c.in_ok-left.left.now (ap (λ fs. file_at fs c.args.a.now) (sym c.self.view_is) ∙ c.in_ok-left.ensures.found) in
    let second = has_named-Some file_name c.args.self.now c.args.b.now c.in_ok-right.right.now (ap (λ fs. file_at fs c.args.b.now) (sym c.self.view_is) ∙ c.in_ok-right.ensures.found) in
    let is = cause_to_refuse_merge-both c.args.self.now c.args.name c.args.a.now c.args.b.now first second in
    subst (λ cause. IsRefusedFor cause c.make.result) (ap (λ fs. cause_to_refuse fs c.args.name) c.self.view_is ∙ sym is) c.make.ensures.refused

pub returns-clause-last : goal.returns-clause-last
returns-clause-last c =
    let one = ap (λ fs. file_at fs c.args.a.now) (sym c.self.view_is) ∙ c.in_ok-left.ensures.found in
    let other = ap (λ fs. file_at fs c.args.b.now) (sym c.self.view_is) ∙ c.in_ok-right.ensures.found in
    let files : files_at c.args.self.now (c.args.a.now ∷ c.args.b.now ∷ []) ≡ c.in_ok-left.left.now ∷ c.in_ok-right.right.now ∷ [] =
    ap (λ found. cons_option found (cons_option (file_at c.args.self.now c.args.b.now) [])) one
    ∙ ap (λ found. c.in_ok-left.left.now ∷ cons_option found []) other in
    let file = merged_file c.args.name (c.in_ok-left.left.now ∷ c.in_ok-right.right.now ∷ []) c.args.reach.now in
    OnOk-drawn c.make.result c.draw_merge-drawn.result _ _ _
    (λ drawn last.
    last ∙ ap (λ f. c.self.inside.made ++ f ∷ []) (drawn c.args.name) ∙ ap (λ fs. fs ++ file ∷ []) c.self.view_is
    ∙ ap (λ fs. c.args.self.now ++ merged_file c.args.name fs c.args.reach.now ∷ []) (sym files))
    c.make.ensures.drawn c.draw_merge-drawn.ensures.file c.make.ensures.last

pub returns-clause-union : goal.returns-clause-union
returns-clause-union c =
    let one = ap (λ fs. file_at fs c.args.a.now) (sym c.self.view_is) ∙ c.in_ok-left.ensures.found in
    let other = ap (λ fs. file_at fs c.args.b.now) (sym c.self.view_is) ∙ c.in_ok-right.ensures.found in
    let files : files_at c.args.self.now (c.args.a.now ∷ c.args.b.now ∷ []) ≡ c.in_ok-left.left.now ∷ c.in_ok-right.right.now ∷ [] =
    ap (λ found. cons_option found (cons_option (file_at c.args.self.now c.args.b.now) [])) one
    ∙ ap (λ found. c.in_ok-left.left.now ∷ cons_option found []) other in
    OnOk-drawn c.make.result c.draw_merge-drawn.result _ _ _
    (λ union last. subst (λ fs. StandsForUnion fs (merged_file c.args.name fs c.args.reach.now)) (sym files) (union c.args.name))
    c.make.ensures.drawn c.draw_merge-drawn.ensures.union c.make.ensures.last

pub draw_merge-drawn-requires : goal.draw_merge-drawn-requires
draw_merge-drawn-requires c =
    let one = ap (λ fs. file_at fs c.args.a.now) (sym c.self.view_is) ∙ c.in_ok-left.ensures.found in
    let other = ap (λ fs. file_at fs c.args.b.now) (sym c.self.view_is) ∙ c.in_ok-right.ensures.found in
    record {
      floors =
          let P : File → Type 0 = λ f. IsAtLeast c.args.reach.now f.floor in
          (named-All file_name P c.args.self.now c.args.a.now c.in_ok-left.left.now c.requires.floors one, named-All file_name P c.args.self.now c.args.b.now c.in_ok-right.right.now c.requires.floors other);
    }

pub returns-clause-floor : goal.returns-clause-floor
returns-clause-floor c =
    let one = ap (λ fs. file_at fs c.args.a.now) (sym c.self.view_is) ∙ c.in_ok-left.ensures.found in
    let other = ap (λ fs. file_at fs c.args.b.now) (sym c.self.view_is) ∙ c.in_ok-right.ensures.found in
    let files : files_at c.args.self.now (c.args.a.now ∷ c.args.b.now ∷ []) ≡ c.in_ok-left.left.now ∷ c.in_ok-right.right.now ∷ [] =
    ap (λ found. cons_option found (cons_option (file_at c.args.self.now c.args.b.now) [])) one
    ∙ ap (λ found. c.in_ok-left.left.now ∷ cons_option found []) other in
    OnOk-drawn c.make.result c.draw_merge-drawn.result _ _ _
    (λ floor last. subst (λ fs. floor_of c.args.reach.now fs ≡ c.args.reach.now) (sym files) floor)
    c.make.ensures.drawn c.draw_merge-drawn.ensures.floor c.make.ensures.last
