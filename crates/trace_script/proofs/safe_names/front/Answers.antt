use Rattle.std.proofs.Common.{◌≤◌, sym, length, length-take, arith}
use Rattle.std.proofs.lemmas.Bool.Decides.{nat_tests}
use Rattle.std.proofs.lemmas.List.{take_all}
use Rattle.trace_script.proofs.safe_names.front.Goals as goal

pub slice_bounds-result-end : goal.slice_bounds-result-end
slice_bounds-result-end c = omega (arith, c.if-name-most.true, length-take c.args.most c.args.name.now)

pub returns-else-name-most : goal.returns-else-name-most
returns-else-name-most c =
    let short : length c.args.name.now ≤ c.args.most = grind (arith, nat_tests) in
    record { front = sym (take_all c.args.most c.args.name.now short) }
