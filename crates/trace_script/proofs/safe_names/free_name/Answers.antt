use Rattle.std.proofs.Common.{subst}
use Rattle.std.specs.Prelude.{IfSome}
use Rattle.trace_script.specs.Names.{HasNoPoint}
use Rattle.trace_script.proofs.Naming.{no-point-safe, plain-of}
use Rattle.trace_script.proofs.safe_names.free_name.Goals as goal

pub returns-in-Some-clause-plain : goal.returns-in-Some-clause-plain
returns-in-Some-clause-plain c =
    plain-of c.in_ok-safe.field-0 c.in-Some.name _ c.in-Some.ensures.same c.in_ok-safe.ensures.name (no-point-safe c.args.raw.now)

pub returns-in-Some-free-clause-plain : goal.returns-in-Some-free-clause-plain
returns-in-Some-free-clause-plain c =
    subst (λ o. IfSome o HasNoPoint) c.in-Some-free.ensures.same c.in_ok-numbered.ensures.plain
