use Rattle.std.proofs.Common.{List, subst, sym, ◌∙◌}
use Rattle.std.specs.Prelude.{All, Vec}
use Rattle.std.specs.Global.{Global}
use Rattle.std.proofs.lemmas.List.{take_all}
use Rattle.explore_core.specs.declared.plan.Step.{Step}
use Rattle.explore_core.specs.Blocks.{ArePrompt}
use Rattle.explore_core.proofs.Bounding.{all-next}
use Rattle.explore_core.proofs.block.clients_are_prompt.Goals as goal

pub loop-lines-preserved : goal.loop-lines-preserved
loop-lines-preserved c =
    all-next (λ (lines : Vec Step Global). ArePrompt lines.items) c.args.clients.now c.loop-lines.lines-index c.lines-item.result c.loop-lines-test.true c.lines-item.is c.loop-lines.invariant
    (subst ArePrompt c.as_slice.ensures.value (sym c.lines_are_prompt.ensures ∙ c.if-not-lines_are_prompt.false))

pub returns : goal.returns
returns c = λ _.
    subst (λ (clients : List (Vec Step Global)). All (λ (lines : Vec Step Global). ArePrompt lines.items) clients) (take_all c.loop-lines.lines-index c.args.clients.now c.loop-lines-test.false) c.loop-lines.invariant
