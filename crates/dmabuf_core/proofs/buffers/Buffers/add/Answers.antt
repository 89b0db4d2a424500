use Rattle.std.proofs.Common.{◌≡◌, ◌∷◌, [], Some, sym, ap, ◌∙◌, subst}
use Rattle.std.specs.Map.{set_value}
use Rattle.indexmap.specs.IndexMap.{set_value_at}
use Rattle.point_core.specs.Named.{same_name}
use Rattle.resv_core.specs.Resv.{entry_of}
use Rattle.dmabuf_core.specs.Buffers.{AreBuffers, OnlyChanges, table_at}
use Rattle.dmabuf_core.proofs.Adding.{OnOk-weaker}
use Rattle.dmabuf_core.proofs.Tables.{AreBuffers-written, OnlyChanges-written, unwritten, set_value-index, AgreesAbove-written, OnErr-weaker}
use Rattle.dmabuf_core.proofs.buffers.Buffers.add.Goals as goal

table : (c : goal.After-self-1) → table_at c.self.inside.by_name.entries c.args.name.now ≡ Some c.index_mut.result.now
table c = sym c.in_ok-index.ensures.table ∙ c.index_mut.ensures.value

kept : (c : goal.After-self-1) → AreBuffers (set_value_at c.self.inside.by_name.entries c.in_ok-index.index c.put.new.self)
kept c = AreBuffers-written c.self.inside.by_name.entries c.args.name.now c.in_ok-index.index c.in_ok-index.ensures.index c.put.new.self c.self.invariant c.put.ensures.table

others : (c : goal.After-self-1) → OnlyChanges c.args.name.now c.args.self.now (set_value_at c.self.inside.by_name.entries c.in_ok-index.index c.put.new.self)
others c =
    subst (λ bs. OnlyChanges c.args.name.now bs (set_value_at c.self.inside.by_name.entries c.in_ok-index.index c.put.new.self)) c.self.view_is
    (OnlyChanges-written c.self.inside.by_name.entries c.args.name.now c.in_ok-index.index c.in_ok-index.ensures.index c.index_mut.result.now c.put.new.self (table c))

same : (c : goal.After-self-1) → c.put.new.self ≡ c.index_mut.result.now → set_value_at c.self.inside.by_name.entries c.in_ok-index.index c.put.new.self ≡ c.args.self.now
same c is =
    unwritten c.self.inside.by_name.entries c.args.name.now c.in_ok-index.index c.in_ok-index.ensures.index c.index_mut.result.now c.put.new.self (table c) is ∙ c.self.view_is

pub invariant_of-self : goal.invariant_of-self
invariant_of-self c = kept c

pub returns-clause-agrees : goal.returns-clause-agrees
returns-clause-agrees c =
    let added = entry_of c.args.point c.args.usage ∷ [] in
    let found = ap (λ bs. table_at bs c.args.name.now) (sym c.self.view_is) ∙ table c in
    let written = set_value-index c.self.inside.by_name.entries c.args.name.now c.in_ok-index.index c.in_ok-index.ensures.index c.put.new.self ∙ ap (λ bs. set_value (same_name c.args.name.now) bs c.put.new.self) c.self.view_is in
    OnOk-weaker c.put.result _ _
    (λ agrees. AgreesAbove-written added c.args.self.now (set_value_at c.self.inside.by_name.entries c.in_ok-index.index c.put.new.self) c.args.name.now c.index_mut.result.now c.put.new.self found written (agrees c.args.reach.now))
    c.put.ensures.agrees

pub returns-clause-others : goal.returns-clause-others
returns-clause-others c = others c

pub returns-clause-unchanged : goal.returns-clause-unchanged
returns-clause-unchanged c = OnErr-weaker c.put.result _ _ (same c) c.put.ensures.refused

pub returns-clause-kept : goal.returns-clause-kept
returns-clause-kept c = kept c
