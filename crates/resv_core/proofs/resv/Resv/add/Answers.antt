use Rattle.std.proofs.Common.{◌≡◌, true, false, arith, rules, tests}
use Rattle.std.proofs.lemmas.Iterator.{IsFirst-from_position, YieldsList-from_slice}
use Rattle.resv_core.specs.Resv.{entry_of, gives_way}
use Rattle.resv_core.proofs.Replacing.{AgreesAbove-set, list_any-found, list_any-not_found}
use Rattle.resv_core.proofs.resv.Resv.add.Goals as goal

pub returns-in-Some-clause-agrees : goal.returns-in-Some-clause-agrees
returns-in-Some-clause-agrees c =
    let first = IsFirst-from_position _ _ _ (λ old. gives_way c.args.reach.now (entry_of c.args.point c.args.usage) old ≡ true) (λ old. gives_way c.args.reach.now (entry_of c.args.point c.args.usage) old ≡ false) c.in-Some.ensures.ran (YieldsList-from_slice c.self.inside.entries.items cc) (λ x q k. search (rules, tests)) (λ x q k. search (rules, tests)) in
    rw (← c.self.view_is) (AgreesAbove-set c.args.reach.now c.self.inside.entries.items c.in-Some.index (entry_of c.args.point c.args.usage) first.0 first.1)

pub returns-in-Some-clause-room : goal.returns-in-Some-clause-room
returns-in-Some-clause-room c =
    let first = IsFirst-from_position _ _ _ (λ old. gives_way c.args.reach.now (entry_of c.args.point c.args.usage) old ≡ true) (λ old. gives_way c.args.reach.now (entry_of c.args.point c.args.usage) old ≡ false) c.in-Some.ensures.ran (YieldsList-from_slice c.self.inside.entries.items cc) (λ x q k. search (rules, tests)) (λ x q k. search (rules, tests)) in
    let any = list_any-found (gives_way c.args.reach.now (entry_of c.args.point c.args.usage)) c.self.inside.entries.items c.in-Some.index (entry_of c.args.point c.args.usage) first.0 first.1 in
    rw (← c.self.view_is, any) (omega arith)

pub returns-in-None-clause-room : goal.returns-in-None-clause-room
returns-in-None-clause-room c =
    let none = IsFirst-from_position _ _ _ (λ old. gives_way c.args.reach.now (entry_of c.args.point c.args.usage) old ≡ true) (λ old. gives_way c.args.reach.now (entry_of c.args.point c.args.usage) old ≡ false) c.in-None.ensures.ran (YieldsList-from_slice c.self.inside.entries.items cc) (λ x q k. search (rules, tests)) (λ x q k. search (rules, tests)) in
    let any = list_any-not_found (gives_way c.args.reach.now (entry_of c.args.point c.args.usage)) c.self.inside.entries.items none in
    rw (← c.self.view_is, any) (omega arith)
