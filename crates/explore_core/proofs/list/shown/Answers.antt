use Rattle.std.proofs.Common.{◌++◌, ◌∷◌, [], sym, ap, ◌∙◌, take}
use Rattle.std.proofs.lemmas.List.{take_more, take_all}
use Rattle.explore_core.proofs.list.shown.Goals as goal

pub loop-client-preserved : goal.loop-client-preserved
loop-client-preserved c =
    let clients = c.args.clients.now in
    let i = c.loop-client.client-index in
    c.in_ok-push.ensures.items ∙ ap (λ cs. cs ++ c.from.result ∷ []) c.loop-client.invariant ∙ ap (λ d. take i clients ++ d ∷ []) c.from.ensures
    ∙ sym (take_more clients i _ c.loop-client-test.true)

pub returns : goal.returns
returns c = record {
  shown = c.loop-client.invariant ∙ take_all c.loop-client.client-index c.args.clients.now c.loop-client-test.false;
}
