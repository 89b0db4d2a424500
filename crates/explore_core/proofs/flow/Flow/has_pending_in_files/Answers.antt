use Rattle.std.proofs.Common.{◌≡◌, true, sym, ◌∙◌, subst}
use Rattle.std.specs.List.{list_all}
use Rattle.explore_core.specs.Flow.{allows_file, bounds_of}
use Rattle.explore_core.proofs.flow.Flow.has_pending_in_files.Goals as goal

pub returns : goal.returns
returns c = λ is.
    subst (λ names. list_all (allows_file (bounds_of c.args.self.now) c.args.desk.now) names ≡ true) (c.as_slice.ensures.value ∙ c.in-Ok.ensures.names) (sym c.allows_files.ensures ∙ is)
