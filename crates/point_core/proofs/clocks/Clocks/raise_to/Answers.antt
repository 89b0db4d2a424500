use Rattle.std.proofs.Common.{◌∙◌, sym, ap}
use Rattle.std.proofs.lemmas.List.{length-set}
use Rattle.point_core.specs.Reach.{reaching}
use Rattle.point_core.specs.Clocks.{clock_at}
use Rattle.point_core.proofs.Ticking.{reach_of_clocks-raised}
use Rattle.point_core.proofs.clocks.Clocks.raise_to.Goals as goal

pub invariant_of-self : goal.invariant_of-self
invariant_of-self c =
    let clocks = c.self.inside.clocks in
    let is_open = ap (λ cs. (clock_at cs c.args.point.ctx).closed) c.self.view_is ∙ c.requires.open in (
      length-set clocks c.index-index.result _ ∙ c.self.invariant.0,
      c.raise_to.ensures.value ∙ ap (λ reach. reaching reach c.args.point) c.self.invariant.1
          ∙ sym (reach_of_clocks-raised clocks c.index-index.result c.args.point c.index-index.ensures.value is_open c.if-self-index.true),
    )

pub returns-then-self-index-clause-reach : goal.returns-then-self-index-clause-reach
returns-then-self-index-clause-reach c =
    let is_open = ap (λ cs. (clock_at cs c.args.point.ctx).closed) c.self.view_is ∙ c.requires.open in
    rw (← c.self.view_is) (reach_of_clocks-raised c.self.inside.clocks c.index-index.result c.args.point c.index-index.ensures.value is_open c.if-self-index.true)
