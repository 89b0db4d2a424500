use Rattle.std.proofs.Common.{sym, subst}
use Rattle.point_core.specs.Agreement.{HasRisingContexts}
use Rattle.syncfile_core.proofs.Causes.{OnOk-always}
use Rattle.syncfile_core.proofs.draft.Draft.draw_listing.Goals as goal

pub returns-clause-rising : goal.returns-clause-rising
returns-clause-rising c = OnOk-always c.copy_from.result _ (subst HasRisingContexts (sym c.into_vec.ensures) c.requires.rising)
