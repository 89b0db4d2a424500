use Rattle.std.proofs.Common.{[], ◌∙◌, arith}
use Rattle.std.proofs.lemmas.List.Elements.{All-push}
use Rattle.clients_core.specs.declared.own_puts.OwnPuts.{OwnPuts}
use Rattle.clients_core.specs.OwnPuts.{AreOwnPuts}
use Rattle.clients_core.proofs.Acting.{KnowPuts-none}
use Rattle.clients_core.proofs.own_puts.no_puts.Goals as goal

pub loop-preserved : goal.loop-preserved
loop-preserved c = record {
  len = omega (arith, c.push_reserved.ensures.len, c.loop.invariant.len);
  places = c.push_reserved.ensures.capacity ∙ c.loop.invariant.places;
  none = rw c.push_reserved.ensures.items (All-push (λ (puts : OwnPuts). AreOwnPuts c.args.contexts puts []) c.loop.own.items c.in_ok-none.field-0 c.loop.invariant.none c.in_ok-none.ensures.puts);
}

pub returns-clause-none : goal.returns-clause-none
returns-clause-none c = KnowPuts-none c.args.contexts c.loop.own.items c.loop.invariant.none
