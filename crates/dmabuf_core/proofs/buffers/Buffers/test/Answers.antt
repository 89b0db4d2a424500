use Rattle.std.proofs.Common.{ap, is_some}
use Rattle.dmabuf_core.proofs.Tables.{MatchBool-true, entries_of-found}
use Rattle.dmabuf_core.proofs.buffers.Buffers.test.Goals as goal

pub returns : goal.returns
returns c =
    let found = c.in_ok-known.ensures.found in
    MatchBool-true _ _ _ (ap is_some found) (rw (entries_of-found c.args.self.now c.args.name.now c.in_ok-known.field-0.now found) c.test.ensures.reached)
