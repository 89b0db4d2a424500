use Rattle.std.proofs.Common.{sym, subst}
use Rattle.point_core.specs.Agreement.{AgreesAbove}
use Rattle.resv_core.specs.TopTable.{entries_of}
use Rattle.resv_core.proofs.Kept.{AgreesAbove-dropped, AreRising-dropped, IsTable-entries_of, IsTrimmed-dropped}
use Rattle.resv_core.proofs.Reservations.{Stands, Stands-Some}
use Rattle.resv_core.proofs.top_table.TopTable.trim.Goals as goal

stands : (c : goal.After-self-2-1) → Stands c.args.self.now c.deref_mut.result.now
stands c = Stands-Some c.self.inside.tops (λ b. b.value) c.in-Some.tops c.args.self.now c.deref_mut.result.now c.self.view_is c.self.invariant c.in-Some.is c.deref_mut.ensures.value

pub invariant_of-self-2 : goal.invariant_of-self-2
invariant_of-self-2 c = AreRising-dropped c.drop_reached.ensures.dropped (stands c).rising

pub returns-clause-table : goal.returns-clause-table
returns-clause-table c = IsTable-entries_of c.drop_reached.new.self (AreRising-dropped c.drop_reached.ensures.dropped (stands c).rising)

pub returns-clause-agrees : goal.returns-clause-agrees
returns-clause-agrees c = subst (λ es. AgreesAbove c.args.reach.now es (entries_of c.drop_reached.new.self)) (sym (stands c).entries) (AgreesAbove-dropped c.drop_reached.ensures.dropped (stands c).rising)

pub returns-clause-trimmed : goal.returns-clause-trimmed
returns-clause-trimmed c = IsTrimmed-dropped c.drop_reached.ensures.dropped (stands c).rising
