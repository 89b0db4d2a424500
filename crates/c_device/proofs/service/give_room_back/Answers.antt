use Rattle.std.proofs.Common.{◌∙◌}
use Rattle.c_device.proofs.Stepped.{given-dropped, open-dropped}
use Rattle.c_device.proofs.service.give_room_back.Goals as goal

pub returns-clause-kept : goal.returns-clause-kept
returns-clause-kept c = open-dropped c.args.device.now c.args.woken.now.items _ (c.shrink_to.ensures.items ∙ c.drop_released.ensures)

pub returns-clause-given : goal.returns-clause-given
returns-clause-given c = given-dropped c.args.device.now c.args.woken.now.items _ (c.shrink_to.ensures.items ∙ c.drop_released.ensures)
