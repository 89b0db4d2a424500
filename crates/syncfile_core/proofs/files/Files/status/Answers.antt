use Rattle.std.proofs.Common.{sym, ap, subst, ◌∙◌}
use Rattle.std.specs.Prelude.{IfSome}
use Rattle.syncfile_core.specs.SyncFile.{file_at}
use Rattle.syncfile_core.specs.Status.{ReportsSetsOf}
use Rattle.syncfile_core.proofs.Reached.{ReportsSetsOf-always}
use Rattle.syncfile_core.proofs.files.Files.status.Goals as goal

pub returns-clause-stands : goal.returns-clause-stands
returns-clause-stands c = subst (λ o. IfSome o (λ f. ReportsSetsOf f c.args.clocks.now)) (sym (ap (λ fs. file_at fs c.args.name.now) (sym c.self.view_is) ∙ c.in_ok-file.ensures.found)) (ReportsSetsOf-always c.in_ok-file.file.now c.args.clocks.now)
