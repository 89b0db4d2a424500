use Rattle.std.proofs.Common.{◌∙◌, refl}
use Rattle.indexmap.proofs.CallerLemmas.{insert_entry-new}
use Rattle.trace_core.proofs.Waiting.{begins, next-absent, same_wait}
use Rattle.trace_core.proofs.waits.Waits.start.Goals as goal

pub returns-clause-are_open : goal.returns-clause-are_open
returns-clause-are_open c =
    let e = c.args.event.now in
    let map = c.args.self.now.open in
    λ waits are.
    let at = c.waiting.ensures.count waits are in
    let none = next-absent e.pid e.key map.entries waits are c.wait_key-key.result c.waiting.result c.wait_key-key.ensures at in
    begins e.pid e.key map.entries waits are e.time c.wait_key-key.result _ c.waiting.result c.insert.new.self.entries c.wait_key-key.ensures at refl (c.in-Ok.ensures.entries ∙ insert_entry-new same_wait map c.wait_key-key.result _ none)
