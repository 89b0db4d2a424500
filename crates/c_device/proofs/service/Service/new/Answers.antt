use Rattle.std.proofs.Common.{ℕ, List, [], sym, subst, arith}
use Rattle.c_device.specs.Service.{IsKept}
use Rattle.c_device.proofs.service.Service.new.Goals as goal

pub invariant_of-result : goal.invariant_of-result
invariant_of-result c =
    let none : IsKept c.new.result [] = record {
      history = [];
      stands = c.new.ensures.empty;
      given = λ k d low. absurd (omega (arith, low));
    } in
    subst (λ (queue : List ℕ). IsKept c.new.result queue) (sym c.new-2.ensures.items) none
