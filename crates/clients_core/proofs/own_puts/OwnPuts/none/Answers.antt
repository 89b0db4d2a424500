use Rattle.clients_core.proofs.OwnLatest.{AreOwnPuts-none}
use Rattle.clients_core.proofs.own_puts.OwnPuts.none.Goals as goal

pub returns-clause-puts : goal.returns-clause-puts
returns-clause-puts c = AreOwnPuts-none c.args.contexts _ (c.in_ok-from_elem.ensures.items_if_clones_equal (λ y is. is))
