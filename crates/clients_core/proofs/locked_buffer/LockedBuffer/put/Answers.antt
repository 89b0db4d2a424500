use Rattle.std.proofs.Common.{◌∙◌, ap, ◌++◌, ◌∷◌, [], List}
use Rattle.point_core.specs.declared.entry.Entry.{Entry}
use Rattle.resv_core.specs.Resv.{entry_of}
use Rattle.clients_core.specs.LockedBuffer.{BufferModel}
use Rattle.clients_core.proofs.Keeping.{AgreesAbove-put}
use Rattle.clients_core.proofs.locked_buffer.LockedBuffer.put.Goals as goal

pub invariant_of-self-2 : goal.invariant_of-self-2
invariant_of-self-2 c =
    let floor = ap (λ (b : BufferModel). b.floor) (c.self.view_is ∙ c.in_ok-rise_to.ensures.risen) in
    let e = entry_of c.args.point c.args.usage in
    let journal = c.push_reserved.ensures.items ∙ ap (λ (es : List Entry). es ++ e ∷ []) c.reserve.ensures.items in
    AgreesAbove-put e floor c.self.invariant c.reserve-2.ensures.agrees c.add.ensures.agrees journal
