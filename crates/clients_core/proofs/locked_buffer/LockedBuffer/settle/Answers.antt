use Rattle.std.proofs.Common.{◌≡◌, ◌∙◌, ap, subst, refl, IfOk, List}
use Rattle.point_core.specs.declared.listing.TopRow.{TopRow}
use Rattle.point_core.specs.Agreement.{AgreesAbove}
use Rattle.point_core.proofs.Agreement.{AgreesAbove-sym, AgreesAbove-trans, AgreesAbove-later}
use Rattle.resv_core.proofs.Runs.{rows_of-AgreesAbove}
use Rattle.clients_core.specs.LockedBuffer.{BufferModel}
use Rattle.clients_core.proofs.locked_buffer.LockedBuffer.settle.Goals as goal

pub returns-clause-rows : goal.returns-clause-rows
returns-clause-rows c =
    let now = c.self-2.view_is ∙ c.in_ok-rise_to.ensures.risen in
    let floor = ap (λ (b : BufferModel). b.floor) now in
    let journal = ap (λ (b : BufferModel). b.journal) now in
    let agrees : AgreesAbove c.args.reach.now c.self-2.inside.resv.entries c.args.self.now.journal = rw (floor, journal) at c.self-2.invariant in
    subst (λ (rs : List TopRow). IfOk c.table.result (λ rows. rows.items ≡ rs)) (rows_of-AgreesAbove agrees) c.table.ensures.rows

pub returns-clause-expected : goal.returns-clause-expected
returns-clause-expected c =
    let now = c.self-2.view_is ∙ c.in_ok-rise_to.ensures.risen in
    let floor = ap (λ (b : BufferModel). b.floor) now in
    let journal = ap (λ (b : BufferModel). b.journal) now in
    let kept : AgreesAbove c.args.reach.now c.self-2.inside.resv.entries c.args.self.now.journal = rw (floor, journal) at c.self-2.invariant in
    let before : AgreesAbove c.args.reach.now c.self.inside.resv.entries c.args.self.now.journal = rw (ap (λ (b : BufferModel). b.journal) c.self.view_is) at (AgreesAbove-later (c.if-not-at_least.ensures.0 refl) c.self.invariant) in
    let agrees = AgreesAbove-trans kept (AgreesAbove-trans (AgreesAbove-sym before) (c.if-not-agrees.ensures.agrees.0 refl)) in
    subst (λ (rs : List TopRow). IfOk c.table.result (λ rows. rows.items ≡ rs)) (rows_of-AgreesAbove agrees) c.table.ensures.rows
