use Rattle.std.proofs.Common.{◌∙◌, sym, ap}
use Rattle.std.proofs.lemmas.List.{length-set}
use Rattle.point_core.specs.Reach.{shut_value}
use Rattle.point_core.proofs.Ticking.{reach_of_clocks-shut}
use Rattle.point_core.proofs.clocks.Clocks.close.Goals as goal

pub invariant_of-self : goal.invariant_of-self
invariant_of-self c =
    let clocks = c.self.inside.clocks in (
      length-set clocks c.index.result _ ∙ c.self.invariant.0,
      c.close.ensures.value ∙ ap (λ reach. shut_value reach c.args.ctx) c.self.invariant.1 ∙ sym (reach_of_clocks-shut clocks c.index.result c.args.ctx c.index.ensures.value),
    )

pub returns-clause-reach : goal.returns-clause-reach
returns-clause-reach c = rw (← c.self.view_is) (reach_of_clocks-shut c.self.inside.clocks c.index.result c.args.ctx c.index.ensures.value)
