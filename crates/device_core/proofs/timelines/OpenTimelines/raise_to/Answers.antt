use Rattle.std.proofs.Common.{nat_eq, subst}
use Rattle.std.specs.Prelude.{Some, IfSome, if◌then◌else◌, ◌≡◌, ℕ}
use Rattle.device_core.specs.theorem.State.{at}
use Rattle.device_core.specs.Floors.{TimelinesState, timelines_in}
use Rattle.device_core.proofs.Floors.{settled-timelines}
use Rattle.device_core.proofs.timelines.OpenTimelines.raise_to.Goals as goal

pub returns-clause-raised : goal.returns-clause-raised
returns-clause-raised c =
    subst (λ (s : TimelinesState). IfSome (at s.entries c.args.number) (λ t. (q : ℕ) → at (timelines_in c.settle.new.timelines.entries) q ≡ (if nat_eq c.args.number q then Some (record t { value = c.args.value }) else at s.entries q))) c.self.view_is
    (settled-timelines c.self.inside.by_number.entries c.settle.new.timelines.entries c.args.number c.args.value c.floor-floor.result c.settle.ensures)
