use Rattle.std.proofs.Common.{take}
use Rattle.std.specs.List.{list_any}
use Rattle.std.specs.Prelude.{Vec}
use Rattle.std.specs.Global.{Global}
use Rattle.explore_core.specs.declared.plan.Step.{Step}
use Rattle.explore_core.specs.Search.{client_asks, Adds}
use Rattle.explore_core.proofs.plan.add_of_clients.Given as goal

abbrev pub invariant-loop-lines : goal.invariant-loop-lines
invariant-loop-lines l = Adds (λ name. list_any (λ (lines : Vec Step Global). client_asks name lines.items) (take l.lines-index l.clients)) l.initial.asked.items l.asked.items
