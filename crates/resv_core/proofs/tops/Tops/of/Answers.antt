use Rattle.std.proofs.Common.{◌≡◌, ◌+◌, ◌++◌, ◌∷◌, [], sym, ap, ◌∙◌, take}
use Rattle.std.proofs.lemmas.List.{take_more}
use Rattle.point_core.proofs.Agreement.{HasContexts-append}
use Rattle.resv_core.proofs.tops.Tops.of.Goals as goal

pub loop-entry-preserved : goal.loop-entry-preserved
loop-entry-preserved c =
    let es = c.args.entries.now in
    let i = c.loop-entry.entry-index in
    let e = c.entry-item.result in
    let more : take (i + 1) es ≡ take i es ++ e ∷ [] = take_more es i e c.loop-entry-test.true ∙ ap (λ f. take i es ++ f ∷ []) (sym c.entry-item.is) in
    rw more
    record {
      tops = c.put.ensures.tops c.args.reach.now (take i es) c.loop-entry.invariant.tops;
      contexts = HasContexts-append (take i es) (e ∷ []) c.loop-entry.invariant.contexts c.put.ensures.context;
    }
