use Rattle.std.proofs.Common.{ap, length, ◌++◌}
use Rattle.std.proofs.lemmas.List.{drop-replicate}
use Rattle.c_desk.specs.declared.rows.TheConstants.{NAME_ROOM}
use Rattle.c_desk.proofs.rows.filled.Goals as goal

pub returns : goal.returns
returns c =
    let name = c.args.name.now in
    rw c.copy_from_slice.ensures.after (rw c.as_bytes-name.ensures.value (ap (λ zs. name ++ zs) (drop-replicate (length name) NAME_ROOM 0)))
