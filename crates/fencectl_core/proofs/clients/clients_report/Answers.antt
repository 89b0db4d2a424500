-- After the text was written the flush alone can fail.
use Rattle.std.proofs.Common.{rules, ◌≡◌}
use Rattle.fencectl_core.specs.Clients.{clients_text}
use Rattle.fencectl_core.proofs.Fronts.{AppendsFront-whole, OnErr-always}
use Rattle.fencectl_core.proofs.clients.clients_report.Goals as goal

pub returns-clause-err : goal.returns-clause-err
returns-clause-err g c =
    let text : c.as_slice.result.now ≡ clients_text c.args.n c.args.rounds = search rules in
    OnErr-always c.flush.result _ (AppendsFront-whole _ _ _ _ (rw text at c.in_ok-write_whole.ensures.ok) c.flush.ensures.bytes)
