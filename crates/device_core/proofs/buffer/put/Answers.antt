use Rattle.std.proofs.Common.{◌≡◌, ◌∙◌, true, false, rules, tests}
use Rattle.std.proofs.lemmas.Iterator.{IsFirst-from_position, YieldsList-from_slice}
use Rattle.point_core.specs.Agreement.{covers}
use Rattle.device_core.specs.theorem.Buffers.{entry_of}
use Rattle.device_core.proofs.Putting.{placed-first, placed-last}
use Rattle.device_core.proofs.buffer.put.Goals as goal

pub returns-in-Some-clause-put : goal.returns-in-Some-clause-put
returns-in-Some-clause-put c =
    let first = IsFirst-from_position _ _ _ (λ old. covers (entry_of c.args.new) (entry_of old) ≡ true) (λ old. covers (entry_of c.args.new) (entry_of old) ≡ false) c.in-Some.ensures.ran (YieldsList-from_slice c.args.fences.now.items cc) (λ x q k. search (rules, tests)) (λ x q k. search (rules, tests)) in
    placed-first c.args.fences.now.items c.in-Some.place c.args.new first.0 first.1 first.2

pub returns-in-None-clause-put : goal.returns-in-None-clause-put
returns-in-None-clause-put c =
    let none = IsFirst-from_position _ _ _ (λ old. covers (entry_of c.args.new) (entry_of old) ≡ true) (λ old. covers (entry_of c.args.new) (entry_of old) ≡ false) c.in-None.ensures.ran (YieldsList-from_slice c.args.fences.now.items cc) (λ x q k. search (rules, tests)) (λ x q k. search (rules, tests)) in
    c.push_reserved.ensures.items ∙ placed-last c.args.fences.now.items c.args.new none
