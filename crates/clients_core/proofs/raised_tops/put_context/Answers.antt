use Rattle.std.proofs.Common.{ℕ, ◌∙◌}
use Rattle.point_core.specs.declared.entry.Usage.TheVariants.{Write, Read, Bookkeep}
use Rattle.clients_core.proofs.Topping.{TakesIn-append, TakesIn-later}
use Rattle.clients_core.proofs.raised_tops.put_context.Goals as goal

pub returns-clause-tops : goal.returns-clause-tops
returns-clause-tops c =
    let words = c.args.words.now in
    let buffer = c.args.buffer in
    let first = c.args.all.now in
    let ctx = c.args.ctx in
    let one = c.put_place.ensures.same in
    let two = λ (w : ℕ). c.put_place-2.ensures.same w ∙ one w in
    let three = λ (w : ℕ). c.put_place-3.ensures.same w ∙ two w in
    let write = TakesIn-later words first c.put_place.new.all buffer (ctx, Write) one c.put_place-2.ensures.tops in
    let read = TakesIn-later words first c.put_place-2.new.all buffer (ctx, Read) two c.put_place-3.ensures.tops in
    let bookkeep = TakesIn-later words first c.put_place-3.new.all buffer (ctx, Bookkeep) three c.put_place-4.ensures.tops in
    TakesIn-append c.put_place.ensures.tops (TakesIn-append write (TakesIn-append read bookkeep))
