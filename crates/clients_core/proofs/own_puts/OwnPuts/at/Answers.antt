use Rattle.std.proofs.Common.{◌+◌}
use Rattle.clients_core.proofs.OwnLatest.{point_to-usages}
use Rattle.clients_core.proofs.own_puts.OwnPuts.at.Goals as goal

pub returns : goal.returns
returns c = rw (c.max-3.ensures, c.max-2.ensures, c.max.ensures, c.up_to-kernel.ensures, c.up_to-write.ensures, c.up_to-read.ensures, c.up_to-bookkeep.ensures) (point_to-usages c.args.self.now c.args.usage (c.args.index + 1))
