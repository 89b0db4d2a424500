use Rattle.std.proofs.Common.{◌≡◌, ◌<◌, ℕ, List, length, sym, ap, ◌∙◌, arith, set, get_or, length-set}
use Rattle.syncfile_core.specs.declared.file_slots.NumberedFile.{NumberedFile}
use Rattle.syncfile_core.specs.Renumbered.{with_number}
use Rattle.syncfile_core.proofs.Renumbering.{numbered_first, numbered_first-more, numbered_first-all}
use Rattle.syncfile_core.proofs.file_slots.number_from_0.Goals as goal

pub loop-index-preserved : goal.loop-index-preserved
loop-index-preserved c =
    let old = c.args.made.now in
    let index = c.loop-index.index in
    let m = c.index-made-index.result in
    let before = c.loop-index.invariant.numbered in
    let low : index < length old = omega (arith, c.loop-index-test.true, c.loop-index.auto.index-end, c.loop-index.invariant.len) in
    let at : m ≡ get_or (numbered_first 0 index old) index m = c.index-made-index.is ∙ ap (λ (ms : List NumberedFile). get_or ms index m) before in
    record {
      numbered =
          ap (λ (x : NumberedFile). set c.loop-index.made index (with_number index x)) (sym c.index-made-index.is)
          ∙ ap (λ (ms : List NumberedFile). set ms index (with_number index m)) before
          ∙ numbered_first-more index old m low at;
      len = length-set c.loop-index.made index (with_number index (get_or c.loop-index.made index m)) ∙ c.loop-index.invariant.len;
    }

pub returns : goal.returns
returns c =
    let old = c.args.made.now in
    let end : c.loop-index.index ≡ length old = omega (arith, c.loop-index-test.false, c.loop-index.auto.index-end, c.loop-index.invariant.len) in
    record { numbered = c.loop-index.invariant.numbered ∙ ap (λ (i : ℕ). numbered_first 0 i old) end ∙ numbered_first-all 0 old }
