use Rattle.std.proofs.Common.{sym, subst, ap, ◌∙◌}
use Rattle.point_core.specs.Agreement.{as_entries, HasRisingContexts}
use Rattle.point_core.proofs.Agreement.{listing-rising}
use Rattle.point_core.proofs.Listings.{points_above-IsLatest}
use Rattle.syncfile_core.specs.SyncFile.{file_of}
use Rattle.syncfile_core.specs.Merge.{points_of}
use Rattle.syncfile_core.proofs.Causes.{OnOk-always}
use Rattle.syncfile_core.proofs.Merging.{merged-is}
use Rattle.syncfile_core.proofs.Standing.{OnOk-from}
use Rattle.syncfile_core.proofs.merge.Gathered.draw.Goals as goal

pub returns-clause-file : goal.returns-clause-file
returns-clause-file c = λ inputs gathered.
    OnOk-from c.copy_from.result _ _
    (λ floor name. ap (file_of name c.list.new.points.items) floor ∙ merged-is name inputs c.args.reach.now gathered c.in_ok-list.ensures.points)
    c.copy_from.ensures.floor

pub returns-clause-rising : goal.returns-clause-rising
returns-clause-rising c =
    let listed = c.in_ok-list.ensures.points ∙ points_above-IsLatest c.requires.gathered.1.latest in
    OnOk-always c.copy_from.result _ (subst HasRisingContexts (sym listed) (listing-rising (as_entries (points_of c.requires.gathered.0)) 0 c.args.reach.now))
