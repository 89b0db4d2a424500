use Rattle.std.proofs.Common.{[], List, sym, subst}
use Rattle.clients_core.specs.declared.own_puts.OwnPuts.{OwnPuts}
use Rattle.clients_core.specs.Acting.{KnowPuts}
use Rattle.clients_core.proofs.client.act_all.Goals as goal

pub act_rounds-requires-clause-none : goal.act_rounds-requires-clause-none
act_rounds-requires-clause-none g c κs within =
    let none = rw c.contexts.ensures.value at c.in_ok-own.ensures.none in
    subst (λ (own : List OwnPuts). KnowPuts c.args.shared.now.words.now.contexts own []) (sym c.as_mut_slice.ensures.value) none
