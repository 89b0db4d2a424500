use Rattle.std.proofs.Common.{◌≡◌, ◌+◌, ◌++◌, List, map, ap, ◌∙◌, subst}
use Rattle.std.proofs.lemmas.List.{map-append}
use Rattle.point_core.specs.declared.entry.Entry.{Entry}
use Rattle.point_core.specs.declared.entry.Usage.TheVariants.{Bookkeep}
use Rattle.point_core.proofs.Agreement.{HasContexts-append}
use Rattle.clients_core.specs.Board.{TakesIn, places_at, places_to, raised_entry}
use Rattle.clients_core.proofs.Showing.{places_to-more}
use Rattle.clients_core.proofs.Topping.{HasStepped-append, raised_entries-same}
use Rattle.clients_core.proofs.raised_tops.raised_tops.Goals as goal

pub loop-index-preserved : goal.loop-index-preserved
loop-index-preserved c =
    let words = c.args.words.now in
    let first = c.args.all.now in
    let buffer = c.args.buffer in
    let i = c.loop-index.index in
    let ctx = c.at.result in
    let told = raised_entry words first buffer in
    let before = map told (places_to Bookkeep i) in
    let here = map told (places_at Bookkeep ctx) in
    let more : map told (places_to Bookkeep (i + 1)) ≡ before ++ here = ap (map told) (places_to-more Bookkeep i ctx c.at.ensures) ∙ map-append told (places_to Bookkeep i) (places_at Bookkeep ctx) in
    let taken : TakesIn here c.loop-index.tops c.put_context.new.tops =
    subst (λ (es : List Entry). TakesIn es c.loop-index.tops c.put_context.new.tops) (raised_entries-same words first c.loop-index.all buffer (places_at Bookkeep ctx) c.loop-index.invariant.same) c.put_context.ensures.tops in
    rw more
    record {
      stepped = HasStepped-append first c.loop-index.all c.put_context.new.all c.loop-index.invariant.stepped c.put_context.ensures.stepped;
      same = λ w. c.put_context.ensures.same w ∙ c.loop-index.invariant.same w;
      tops = taken.tops c.args.reach.now before c.loop-index.invariant.tops;
      contexts = HasContexts-append before here c.loop-index.invariant.contexts taken.contexts;
    }
