use Rattle.std.proofs.Common.{◌≡◌, ◌∙◌, ap, subst, sym}
use Rattle.device_core.specs.Floors.{HasFloors, TimelinesState}
use Rattle.device_core.specs.theorem.State.{holds}
use Rattle.device_core.proofs.Floors.{HasFloors-lowered, HasFloors-lowered_only}
use Rattle.device_core.proofs.timelines.OpenTimelines.put_all.Goals as goal

pub put_all-requires-clause-new : goal.put_all-requires-clause-new
put_all-requires-clause-new c = λ k its. ap (λ (s : TimelinesState). holds s.index k) c.self.view_is ∙ c.requires.new k its

pub invariant_of-self : goal.invariant_of-self
invariant_of-self c =
    let same : c.put_all.new.self ≡ c.self.inside.waiting = c.in_err-put_all.ensures.unchanged in
    subst (HasFloors c.lower_floors.new.timelines.entries) (sym same)
    (HasFloors-lowered_only c.self.inside.by_number.entries c.lower_floors.new.timelines.entries c.self.inside.waiting c.args.fences.now c.lower_floors.ensures.lowered c.self.invariant)

pub invariant_of-self-2 : goal.invariant_of-self-2
invariant_of-self-2 c = HasFloors-lowered c.self.inside.by_number.entries c.lower_floors.new.timelines.entries c.self.inside.waiting c.put_all.new.self c.args.file c.args.fences.now c.lower_floors.ensures.lowered c.self.invariant c.put_all.ensures.ordered c.in_ok-put_all.ensures.put
