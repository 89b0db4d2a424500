use Rattle.std.proofs.Common.{ap, ◌∙◌, ◌++◌, drop, slice_set, refl}
use Rattle.c_desk.proofs.Over.{over-nul}
use Rattle.c_desk.proofs.line.store_text.Goals as goal

pub returns : goal.returns
returns c =
    let text = c.args.text.now in
    let old = c.args.out.now in
    let n = c.min-fits.result in
    record {
      bytes = ap (λ l. slice_set (l ++ drop n old) n 0) c.copy_from_slice.ensures.after ∙ over-nul text old n c.requires.room c.min-fits.ensures;
      whole = refl;
    }
