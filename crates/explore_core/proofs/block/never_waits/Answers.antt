use Rattle.std.proofs.Common.{map, ap, ◌∙◌}
use Rattle.std.specs.Prelude.{Vec}
use Rattle.std.specs.Global.{Global}
use Rattle.explore_core.specs.declared.plan.Step.{Step}
use Rattle.explore_core.specs.Schedule.{Lines}
use Rattle.explore_core.proofs.Blocks.{never-waits}
use Rattle.explore_core.proofs.block.never_waits.Goals as goal

pub returns : goal.returns
returns c = λ is.
    let plan = c.args.plan.now in
    let clients = ap (map (λ (lines : Vec Step Global). lines.items)) c.as_slice.ensures.value ∙ ap (λ (p : Lines). p.clients) c.plan.view_is in
    never-waits plan _ clients (c.clients_are_prompt.ensures is)
