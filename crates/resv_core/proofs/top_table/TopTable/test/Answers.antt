use Rattle.std.proofs.Common.{[], sym, subst, ◌↔◌}
use Rattle.std.specs.Prelude.{IsTrue}
use Rattle.point_core.specs.Usage.{usage_number}
use Rattle.point_core.specs.Agreement.{IsReached}
use Rattle.resv_core.specs.TopTable.{entries_of}
use Rattle.resv_core.proofs.Kept.{IsReached-IsLatest}
use Rattle.resv_core.proofs.Reservations.{Stands-Some}
use Rattle.resv_core.proofs.top_table.TopTable.test.Goals as goal

pub returns-in-Some : goal.returns-in-Some
returns-in-Some c =
    let usage = usage_number c.args.usage in
    let reach = c.args.reach.now in
    let tops = c.deref.result.now in
    let stands = Stands-Some c.self.inside.tops (λ b. b.value) c.in-Some.tops c.args.self.now tops c.self.view_is c.self.invariant c.in-Some.is c.deref.ensures in
    let both = IsReached-IsLatest reach (c.at.ensures.latest [] (entries_of tops) stands.tell) stands.contexts in
    record {
      reached = subst (λ es. IsTrue c.is_reached.result ↔ IsReached es usage reach) (sym stands.entries) (λ is. both.0 (c.is_reached.ensures.0 is), λ reached. c.is_reached.ensures.1 (both.1 reached));
    }
