use Rattle.std.proofs.Common.{◌≡◌, map, take, Vec, Global}
use Rattle.std.specs.List.{flat_map}
use Rattle.explore_core.specs.declared.plan.Step.{Step}
use Rattle.explore_report.specs.Lines.{texts_of}
use Rattle.explore_report.specs.Plan.{clients_at}
use Rattle.explore_report.proofs.sections.clients_of.Given as goal

abbrev pub invariant-loop-row : goal.invariant-loop-row
invariant-loop-row l =
    map (λ (steps : Vec Step Global). steps.items) l.clients.items ≡ flat_map (clients_at l.purpose (texts_of l.lines) l.rows) (take l.row-index l.rows)
