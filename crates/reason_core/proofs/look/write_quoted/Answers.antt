use Rattle.script_core.proofs.Progress.{Grows-trans}
use Rattle.reason_core.proofs.look.write_quoted.Goals as goal

pub returns-in_err-write_escaped-clause-grows : goal.returns-in_err-write_escaped-clause-grows
returns-in_err-write_escaped-clause-grows g c = Grows-trans _ _ _ c.in_ok-write_bytes.ensures.grows c.in_err-write_escaped.ensures.grows

pub returns-clause-grows : goal.returns-clause-grows
returns-clause-grows g c =
    let both = Grows-trans _ _ _ c.in_ok-write_bytes.ensures.grows c.in_ok-write_escaped.ensures.grows in
    Grows-trans _ _ _ both c.write_bytes-2.ensures.grows
