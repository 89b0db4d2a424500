use Rattle.std.proofs.Common.{◌≡◌, List, ◌++◌, length, sym, subst, ap, ◌∙◌}
use Rattle.point_core.specs.declared.entry.Point.{Point}
use Rattle.point_core.specs.Agreement.{as_entries, merged, HasRisingContexts}
use Rattle.point_core.proofs.Agreement.{listing-rising}
use Rattle.syncfile_core.specs.SyncFile.{File, file_of}
use Rattle.syncfile_core.proofs.Causes.{OnOk-always}
use Rattle.syncfile_core.proofs.Merging.{StandsForUnion-two, floor_of-reached, merged_file-two}
use Rattle.syncfile_core.proofs.Standing.{OnOk-from}
use Rattle.syncfile_core.proofs.draft.Draft.draw_merge.Goals as goal

ps : (c : goal.After-copy_from) → c.as_slice-ps.result.now ≡ c.args.left.now.points
ps c = c.as_slice-ps.ensures ∙ ap (λ (f : File). f.points) c.left.view_is

qs : (c : goal.After-copy_from) → c.as_slice-qs.result.now ≡ c.args.right.now.points
qs c = c.as_slice-qs.ensures ∙ ap (λ (f : File). f.points) c.right.view_is

left : (c : goal.After-copy_from) → length c.args.left.now.floor ≡ length c.args.reach.now
left c = sym (ap (λ (f : File). length f.floor) c.left.view_is) ∙ c.used-left.ensures.full ∙ sym c.used-reach.ensures.full

right : (c : goal.After-copy_from) → length c.args.right.now.floor ≡ length c.args.reach.now
right c = sym (ap (λ (f : File). length f.floor) c.right.view_is) ∙ c.used-right.ensures.full ∙ sym c.used-reach.ensures.full

pub returns-clause-rising : goal.returns-clause-rising
returns-clause-rising c =
    OnOk-always c.copy_from.result _
    (subst HasRisingContexts (sym c.in_ok-merge_into.ensures.merged) (listing-rising (as_entries (c.as_slice-ps.result.now ++ c.as_slice-qs.result.now)) 0 c.args.reach.now))

pub returns-clause-union : goal.returns-clause-union
returns-clause-union c =
    let within = rw (ps c, qs c) at c.in_ok-merge_into.ensures.contexts in
    OnOk-always c.copy_from.result _ (λ name. StandsForUnion-two name c.args.left.now c.args.right.now c.args.reach.now within (left c) (right c))

pub returns-clause-floor : goal.returns-clause-floor
returns-clause-floor c =
    OnOk-always c.copy_from.result _ (floor_of-reached c.args.left.now c.args.right.now c.args.reach.now (left c) (right c) c.requires.floors)

pub returns-clause-file : goal.returns-clause-file
returns-clause-file c =
    let f = c.args.left.now in
    let g = c.args.right.now in
    let reach = c.args.reach.now in
    let points = c.in_ok-merge_into.ensures.merged ∙ ap (λ (xs : List Point). merged reach xs c.as_slice-qs.result.now) (ps c) ∙ ap (λ (xs : List Point). merged reach f.points xs) (qs c) in
    OnOk-from c.copy_from.result _ _
    (λ floor name.
    ap (λ (xs : List Point). file_of name xs c.copy_from.new.self) points
    ∙ ap (file_of name (merged reach f.points g.points)) (floor ∙ sym (floor_of-reached f g reach (left c) (right c) c.requires.floors))
    ∙ merged_file-two name f g reach)
    c.copy_from.ensures.floor
