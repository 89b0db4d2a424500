use Rattle.std.proofs.Common.{◌≡◌, min, ◌+◌, sym, subst, arith}
use Rattle.std.specs.Prelude.{IsSomeAnd}
use Rattle.point_core.specs.Reach.{GREATEST}
use Rattle.device_core.specs.declared.fence.Timeline.{Timeline}
use Rattle.device_core.specs.Due.{IsFirstDue, risen_value}
use Rattle.device_core.specs.theorem.State.{DeviceState, at, file_at}
use Rattle.device_core.proofs.Due.{first-due}
use Rattle.device_core.proofs.device.Device.first_due.Goals as goal

pub returns : goal.returns
returns c =
    let sum : c.saturating_add-value.result ≡ min (c.in_ok-known.known.value + c.args.n) GREATEST = omega arith in
    let found : IsFirstDue (at c.self.inside.files.entries) c.args.timeline c.saturating_add-value.result c.first_due.result = first-due c.self.inside.timelines.index c.self.inside.files.entries c.args.timeline c.saturating_add-value.result c.first_due.result c.self.invariant.indexed c.first_due.ensures in
    let its = subst (λ (d : DeviceState). IsFirstDue (file_at d) c.args.timeline c.saturating_add-value.result c.first_due.result) c.self.view_is found in
    subst (λ o. IsSomeAnd o (λ (t : Timeline). IsFirstDue (file_at c.args.self.now) c.args.timeline (risen_value t c.args.n) c.first_due.result)) (sym c.in_ok-known.ensures.found)
    (subst (λ v. IsFirstDue (file_at c.args.self.now) c.args.timeline v c.first_due.result) sum its)
