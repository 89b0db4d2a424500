use Rattle.std.proofs.Common.{ap, sym}
use Rattle.std.specs.Prelude.{is_some}
use Rattle.device_core.proofs.Floors.{not-risen, risen-quietly}
use Rattle.device_core.proofs.timelines.OpenTimelines.rise_quietly.Goals as goal

pub returns-clause-risen : goal.returns-clause-risen
returns-clause-risen c =
    risen-quietly c.rise_below_floor.result c.args.number c.args.n c.self.inside.by_number.entries (c.get_mut.follows.lender c.rise_below_floor.new.self).entries c.self.inside.waiting c.in-Some.known.now c.rise_below_floor.new.self c.args.self.now c.self.view_is c.in-Some.ensures.value
    ((c.get_mut.follows.holds c.rise_below_floor.new.self).3 (ap is_some (sym c.in-Some.ensures.value))).0 c.self.invariant c.rise_below_floor.ensures.below c.rise_below_floor.ensures.fits c.rise_below_floor.ensures.risen

pub returns-clause-unchanged : goal.returns-clause-unchanged
returns-clause-unchanged c =
    not-risen c.rise_below_floor.result c.args.number c.self.inside.by_number.entries (c.get_mut.follows.lender c.rise_below_floor.new.self).entries c.self.inside.waiting c.in-Some.known.now c.rise_below_floor.new.self c.args.self.now c.self.view_is c.in-Some.ensures.value
    (c.get_mut.follows.holds c.rise_below_floor.new.self).0 c.rise_below_floor.ensures.unchanged
