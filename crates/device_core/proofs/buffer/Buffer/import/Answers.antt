use Rattle.std.proofs.Common.{◌≡◌, ◌∙◌, ap, sym, if◌then◌else◌, length, List, arith}
use Rattle.device_core.specs.declared.buffer_fence.BufferFence.{BufferFence}
use Rattle.device_core.specs.theorem.Buffers.{import_into, state_of}
use Rattle.device_core.specs.theorem.State.{at}
use Rattle.device_core.proofs.Putting.{import-none, import-is}
use Rattle.device_core.proofs.buffer.Buffer.import.Goals as goal

pub returns-then-all_signalled-clause-imported : goal.returns-then-all_signalled-clause-imported
returns-then-all_signalled-clause-imported c =
    import-none (at c.args.timelines.now.entries) c.args.usage c.args.fences.now c.args.self.now (sym c.all_signalled.ensures ∙ c.if-all_signalled.true)

pub returns-clause-imported : goal.returns-clause-imported
returns-clause-imported c =
    let timelines = at c.args.timelines.now.entries in
    let inside = state_of c.self.inside.fences.items c.self.inside.left c.self.inside.stub_at in
    let same = ap (λ (hs : List BufferFence). length hs) c.shrink_to.ensures.items in
    let count : c.len.result ≡ length c.shrink_to.new.self.items = omega (arith, same) in
    import-is timelines c.args.usage c.args.fences.now inside c.reserve.new.self.items c.trim_grown-trimmed.new.fences.items c.shrink_to.new.self.items c.trim_grown-trimmed.result c.left_after-self-inside.result
    (sym c.all_signalled.ensures ∙ c.if-all_signalled.false) c.reserve.ensures.items c.trim_grown-trimmed.ensures.grown c.trim_grown-trimmed.ensures.kept (c.shrink_to.ensures.items ∙ c.put_pending.ensures.put) (c.left_after-self-inside.ensures ∙ ap (λ n. if c.trim_grown-trimmed.result then n else c.self.inside.left) count)
    ∙ ap (import_into timelines c.args.usage c.args.fences.now) c.self.view_is
