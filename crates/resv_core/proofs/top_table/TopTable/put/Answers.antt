use Rattle.std.proofs.Common.{[], ◌∷◌}
use Rattle.resv_core.specs.Resv.{entry_of}
use Rattle.resv_core.specs.TopTable.{entries_of}
use Rattle.resv_core.proofs.Reservations.{IsMore, IsMore-first, IsMore-raised, Stands-Some, entries-None}
use Rattle.resv_core.proofs.top_table.TopTable.put.Goals as goal

raised : (c : goal.After-self-in-Some-1) → IsMore (entry_of c.args.point c.args.usage ∷ []) c.args.self.now.entries c.raise.new.self
raised c =
    let tops = c.deref_mut.result.now in
    let stands = Stands-Some c.self.inside.tops (λ b. b.value) c.in-Some.tops c.args.self.now tops c.self.view_is c.self.invariant c.in-Some.is c.deref_mut.ensures.value in
    IsMore-raised (entry_of c.args.point c.args.usage ∷ []) stands c.raise.ensures.context (c.raise.ensures.tops [] (entries_of tops) stands.tell)

pub invariant_of-self : goal.invariant_of-self
invariant_of-self c = (raised c).rising

pub returns-in-Some-clause-table : goal.returns-in-Some-clause-table
returns-in-Some-clause-table c = (raised c).table

pub returns-in-Some-clause-agrees : goal.returns-in-Some-clause-agrees
returns-in-Some-clause-agrees c = (raised c).agrees

first : (c : goal.Joined-self-2) → IsMore (entry_of c.args.point c.args.usage ∷ []) c.args.self.now.entries c.in_ok-first_of.field-0.value
first c =
    let none = entries-None c.self.inside.tops (λ b. b.value) c.args.self.now c.self.view_is c.in_default.is in
    IsMore-first (entry_of c.args.point c.args.usage ∷ []) none c.in_ok-first_of.ensures.contexts c.in_ok-first_of.ensures.tops

pub invariant_of-self-2 : goal.invariant_of-self-2
invariant_of-self-2 c = (first c).rising

pub returns-clause-table : goal.returns-clause-table
returns-clause-table c = (first c).table

pub returns-clause-agrees : goal.returns-clause-agrees
returns-clause-agrees c = (first c).agrees
