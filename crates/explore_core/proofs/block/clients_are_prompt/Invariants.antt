use Rattle.std.proofs.Common.{take}
use Rattle.std.specs.Prelude.{All, Vec}
use Rattle.std.specs.Global.{Global}
use Rattle.explore_core.specs.declared.plan.Step.{Step}
use Rattle.explore_core.specs.Blocks.{ArePrompt}
use Rattle.explore_core.proofs.block.clients_are_prompt.Given as goal

abbrev pub invariant-loop-lines : goal.invariant-loop-lines
invariant-loop-lines l = All (λ (lines : Vec Step Global). ArePrompt lines.items) (take l.lines-index l.clients)
