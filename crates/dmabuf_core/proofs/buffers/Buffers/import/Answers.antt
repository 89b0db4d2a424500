use Rattle.std.proofs.Common.{◌≡◌, ◌++◌, map, Some, sym, ap, ◌∙◌, subst}
use Rattle.std.specs.Map.{set_value}
use Rattle.indexmap.specs.IndexMap.{set_value_at}
use Rattle.point_core.specs.Named.{same_name}
use Rattle.point_core.specs.Agreement.{AgreesAbove, as_entries}
use Rattle.syncfile_core.specs.SyncFile.{File}
use Rattle.resv_core.specs.Resv.{entries_as}
use Rattle.dmabuf_core.specs.Flags.{import_usage, imported, with_usage}
use Rattle.dmabuf_core.specs.Buffers.{AreBuffers, OnlyChanges, table_at}
use Rattle.dmabuf_core.proofs.Adding.{OnOk-weaker, entries_as-with_usage}
use Rattle.dmabuf_core.proofs.Tables.{AreBuffers-written, OnlyChanges-written, unwritten, set_value-index, AgreesAbove-written, OnErr-weaker}
use Rattle.dmabuf_core.proofs.buffers.Buffers.import.Goals as goal

table : (c : goal.After-self-1) → table_at c.self.inside.by_name.entries c.args.name.now ≡ Some c.index_mut.result.now
table c = sym c.in_ok-index.ensures.table ∙ c.index_mut.ensures.value

kept : (c : goal.After-self-1) → AreBuffers (set_value_at c.self.inside.by_name.entries c.in_ok-index.index c.put_all.new.self)
kept c = AreBuffers-written c.self.inside.by_name.entries c.args.name.now c.in_ok-index.index c.in_ok-index.ensures.index c.put_all.new.self c.self.invariant c.put_all.ensures.table

others : (c : goal.After-self-1) → OnlyChanges c.args.name.now c.args.self.now (set_value_at c.self.inside.by_name.entries c.in_ok-index.index c.put_all.new.self)
others c =
    subst (λ bs. OnlyChanges c.args.name.now bs (set_value_at c.self.inside.by_name.entries c.in_ok-index.index c.put_all.new.self)) c.self.view_is
    (OnlyChanges-written c.self.inside.by_name.entries c.args.name.now c.in_ok-index.index c.in_ok-index.ensures.index c.index_mut.result.now c.put_all.new.self (table c))

same : (c : goal.After-self-1) → c.put_all.new.self ≡ c.index_mut.result.now → set_value_at c.self.inside.by_name.entries c.in_ok-index.index c.put_all.new.self ≡ c.args.self.now
same c is =
    unwritten c.self.inside.by_name.entries c.args.name.now c.in_ok-index.index c.in_ok-index.ensures.index c.index_mut.result.now c.put_all.new.self (table c) is ∙ c.self.view_is

pub invariant_of-self : goal.invariant_of-self
invariant_of-self c = kept c

pub returns-clause-agrees : goal.returns-clause-agrees
returns-clause-agrees c =
    let found = ap (λ bs. table_at bs c.args.name.now) (sym c.self.view_is) ∙ table c in
    let written = set_value-index c.self.inside.by_name.entries c.args.name.now c.in_ok-index.index c.in_ok-index.ensures.index c.put_all.new.self ∙ ap (λ bs. set_value (same_name c.args.name.now) bs c.put_all.new.self) c.self.view_is in
    let points : c.as_slice.result.now ≡ c.args.file.now.points = c.as_slice.ensures ∙ ap (λ (f : File). f.points) c.file.view_is in
    let usage : c.import_usage-usage.result ≡ import_usage c.args.flags = c.import_usage-usage.ensures ∙ ap import_usage c.in_ok-of.ensures.number in
    let added : entries_as c.import_usage-usage.result c.as_slice.result.now ≡ imported c.args.flags (as_entries c.args.file.now.points) =
    entries_as-with_usage c.import_usage-usage.result c.as_slice.result.now
    ∙ ap (λ u. map (with_usage u) (as_entries c.as_slice.result.now)) usage ∙ ap (λ ps. map (with_usage (import_usage c.args.flags)) (as_entries ps)) points in
    OnOk-weaker c.put_all.result _ _
    (λ agrees. AgreesAbove-written (imported c.args.flags (as_entries c.args.file.now.points)) c.args.self.now (set_value_at c.self.inside.by_name.entries c.in_ok-index.index c.put_all.new.self) c.args.name.now c.index_mut.result.now c.put_all.new.self found written (subst (λ es. AgreesAbove c.args.reach.now c.put_all.new.self.entries (c.index_mut.result.now.entries ++ es)) added (agrees c.args.reach.now)))
    c.put_all.ensures.agrees

pub returns-clause-others : goal.returns-clause-others
returns-clause-others c = others c

pub returns-clause-nothing : goal.returns-clause-nothing
returns-clause-nothing c = λ none. same c (c.put_all.ensures.nothing (c.as_slice.ensures ∙ ap (λ (f : File). f.points) c.file.view_is ∙ none))

pub returns-clause-unchanged : goal.returns-clause-unchanged
returns-clause-unchanged c = OnErr-weaker c.put_all.result _ _ (same c) c.put_all.ensures.refused

pub returns-clause-kept : goal.returns-clause-kept
returns-clause-kept c = kept c
