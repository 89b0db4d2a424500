use Rattle.resv_core.proofs.Comparing.{AgreesAbove-AreSame, AreSame-AgreesAbove}
use Rattle.resv_core.proofs.resv.Resv.agrees.Goals as goal

pub returns : goal.returns
returns c =
    let tell = rw c.as_slice.ensures.value at c.of.ensures.tops in
    let within = rw c.as_slice.ensures.value at c.of.ensures.contexts in
    let other = c.of-2.ensures.tops in
    let within' = c.of-2.ensures.contexts in
    rw (← c.self.view_is)
    record {
      agrees = (
        (λ is. AgreesAbove-AreSame tell other within within' (c.is_same.ensures.same.0 is)),
        (λ h. c.is_same.ensures.same.1 (AreSame-AgreesAbove tell other h)),
      );
    }
