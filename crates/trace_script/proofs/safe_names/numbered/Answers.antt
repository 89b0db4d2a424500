use Rattle.std.proofs.Common.{◌≡◌, ◌++◌, codes, rules, arith}
use Rattle.std.specs.Prelude.{IfSome, decimal}
use Rattle.trace_script.proofs.Naming.{no-point-numbered, plain-if}
use Rattle.trace_script.proofs.safe_names.numbered.Goals as goal

pub returns-clause-plain : goal.returns-clause-plain
returns-clause-plain c =
    let form : IfSome c.read.result (λ n. n ≡ codes "t" ++ decimal c.args.number) = search rules in
    plain-if c.read.result _ form (no-point-numbered c.args.number (omega (arith, c.ranges.number)))
