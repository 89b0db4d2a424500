use Rattle.std.proofs.Common.{◌≡◌, ◌∙◌, sym, ap, arith, get_or}
use Rattle.std.proofs.lemmas.List.{length-set}
use Rattle.point_core.proofs.Ticking.{opened-more, clocks-opened, reach_of_clocks-opened}
use Rattle.point_core.proofs.clocks.Clocks.open.Goals as goal

pub loop-index-init : goal.loop-index-init
loop-index-init c = record { full = c.zero-2.invariant.0; made = λ k none. absurd (omega (arith, none)) }

pub loop-index-preserved : goal.loop-index-preserved
loop-index-preserved c = record {
  full = length-set c.loop-index.clocks c.loop-index.index _ ∙ c.loop-index.invariant.full;
  made = λ k within.
      let at : c.get.result ≡ get_or c.args.reach.now c.loop-index.index 0 =
      c.get.ensures.value ∙ ap (λ values. get_or values c.loop-index.index 0) c.values-values.ensures.value in
      rw at (opened-more c.loop-index.clocks c.args.reach.now c.loop-index.index (rw c.loop-index.invariant.full c.loop-index-test.true) c.loop-index.invariant.made k within);
}

pub invariant_of-result : goal.invariant_of-result
invariant_of-result c =
    let kept = c.loop-index.invariant in (
      kept.full,
      reach_of_clocks-opened c.loop-index.clocks c.args.reach.now
          (clocks-opened c.loop-index.clocks c.args.reach.now (kept.full ∙ sym c.values-values.ensures.full)
          (λ k low. kept.made k (let full = c.values-values.ensures.full in let ends = c.loop-index-test.false in omega arith))),
    )

pub returns : goal.returns
returns c =
    let kept = c.loop-index.invariant in
    record {
      clocks = clocks-opened c.loop-index.clocks c.args.reach.now (kept.full ∙ sym c.values-values.ensures.full)
          (λ k low. kept.made k (let full = c.values-values.ensures.full in let ends = c.loop-index-test.false in omega arith));
    }
