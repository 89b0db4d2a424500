use Rattle.std.proofs.Common.{[], sym, ap, ◌∙◌}
use Rattle.point_core.specs.Usage.{usage_number}
use Rattle.point_core.specs.Agreement.{listing}
use Rattle.point_core.proofs.Agreement.{listing-nil}
use Rattle.resv_core.specs.TopTable.{entries_of}
use Rattle.resv_core.proofs.Kept.{IsAtLeast-none, points_above-risen}
use Rattle.resv_core.proofs.Reservations.{Stands-Some, entries-None}
use Rattle.resv_core.proofs.top_table.TopTable.latest.Goals as goal

pub returns-in-Some-clause-some : goal.returns-in-Some-clause-some
returns-in-Some-clause-some c =
    let usage = usage_number c.args.usage in
    let tops = c.deref.result.now in
    let stands = Stands-Some c.self.inside.tops (λ b. b.value) c.in-Some.tops c.args.self.now tops c.self.view_is c.self.invariant c.in-Some.is c.deref.ensures in
    λ reach.
    points_above-risen (c.at.ensures.latest [] (entries_of tops) stands.tell) (IsAtLeast-none reach)
    ∙ ap (λ es. listing es usage reach) (sym stands.entries)

pub returns-in-None-clause-none : goal.returns-in-None-clause-none
returns-in-None-clause-none c =
    let usage = usage_number c.args.usage in
    let none = entries-None c.self.inside.tops (λ b. b.value) c.args.self.now c.self.view_is c.in-None.is in
    λ reach. ap (λ es. listing es usage reach) none ∙ listing-nil usage reach
