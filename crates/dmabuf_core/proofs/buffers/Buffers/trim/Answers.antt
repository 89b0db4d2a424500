use Rattle.std.proofs.Common.{◌≡◌, Some, sym, ap, ◌∙◌, subst}
use Rattle.indexmap.specs.IndexMap.{set_value_at}
use Rattle.point_core.specs.Agreement.{AgreesAbove}
use Rattle.resv_core.specs.Resv.{IsTrimmed}
use Rattle.dmabuf_core.specs.Buffers.{AreBuffers, OnlyChanges, entries_of, table_at}
use Rattle.dmabuf_core.proofs.Tables.{AreBuffers-written, OnlyChanges-written, entries_of-found, entries_of-written}
use Rattle.dmabuf_core.proofs.buffers.Buffers.trim.Goals as goal

table : (c : goal.After-self-1) → table_at c.self.inside.by_name.entries c.args.name.now ≡ Some c.index_mut.result.now
table c = sym c.in_ok-index.ensures.table ∙ c.index_mut.ensures.value

kept : (c : goal.After-self-1) → AreBuffers (set_value_at c.self.inside.by_name.entries c.in_ok-index.index c.trim.new.self)
kept c = AreBuffers-written c.self.inside.by_name.entries c.args.name.now c.in_ok-index.index c.in_ok-index.ensures.index c.trim.new.self c.self.invariant c.trim.ensures.table

others : (c : goal.After-self-1) → OnlyChanges c.args.name.now c.args.self.now (set_value_at c.self.inside.by_name.entries c.in_ok-index.index c.trim.new.self)
others c =
    subst (λ bs. OnlyChanges c.args.name.now bs (set_value_at c.self.inside.by_name.entries c.in_ok-index.index c.trim.new.self)) c.self.view_is
    (OnlyChanges-written c.self.inside.by_name.entries c.args.name.now c.in_ok-index.index c.in_ok-index.ensures.index c.index_mut.result.now c.trim.new.self (table c))

pub invariant_of-self : goal.invariant_of-self
invariant_of-self c = kept c

before : (c : goal.After-self-1) → entries_of c.args.self.now c.args.name.now ≡ c.index_mut.result.now.entries
before c =
    ap (λ bs. entries_of bs c.args.name.now) (sym c.self.view_is)
    ∙ entries_of-found c.self.inside.by_name.entries c.args.name.now c.index_mut.result.now (table c)

after : (c : goal.After-self-1) → entries_of (set_value_at c.self.inside.by_name.entries c.in_ok-index.index c.trim.new.self) c.args.name.now ≡ c.trim.new.self.entries
after c = entries_of-written c.self.inside.by_name.entries c.args.name.now c.in_ok-index.index c.in_ok-index.ensures.index c.index_mut.result.now c.trim.new.self (table c)

pub returns-clause-agrees : goal.returns-clause-agrees
returns-clause-agrees c =
    subst (λ es. AgreesAbove c.args.reach.now es (entries_of (set_value_at c.self.inside.by_name.entries c.in_ok-index.index c.trim.new.self) c.args.name.now)) (sym (before c))
    (subst (AgreesAbove c.args.reach.now c.index_mut.result.now.entries) (sym (after c)) c.trim.ensures.agrees)

pub returns-clause-trimmed : goal.returns-clause-trimmed
returns-clause-trimmed c = subst (IsTrimmed c.args.reach.now) (sym (after c)) c.trim.ensures.trimmed

pub returns-clause-others : goal.returns-clause-others
returns-clause-others c = others c

pub returns-clause-kept : goal.returns-clause-kept
returns-clause-kept c = kept c
