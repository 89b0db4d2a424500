use Rattle.trace_core.specs.Keys.{unnumbered}
use Rattle.trace_core.specs.Lives.{life_at, gives_number}
use Rattle.trace_core.proofs.Numbering.{numbered}
use Rattle.trace_core.proofs.lives.Lives.number.Goals as goal

pub returns-clause-numbered : goal.returns-clause-numbered
returns-clause-numbered c =
    λ key. numbered (life_at c.args.self.now) key (gives_number c.args.event.now c.args.own) c.unnumbered-unnumbered.result (unnumbered c.args.event.now.key) c.life-life.result c.without_one.result (life_at c.put.new.self key) c.if-not-gives_number.ensures c.unnumbered-unnumbered.ensures c.life-life.ensures c.without_one.ensures (c.in_ok-put.ensures.put key)
