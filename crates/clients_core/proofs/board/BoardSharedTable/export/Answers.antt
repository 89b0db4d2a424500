use Rattle.clients_core.proofs.Showing.{AllAbove-looked, HasLoadedOnce-looked, HasRisingContexts-looked}
use Rattle.clients_core.proofs.board.BoardSharedTable.export.Goals as goal

pub returns-clause-floor : goal.returns-clause-floor
returns-clause-floor g c = HasLoadedOnce-looked c.args.words.now c.args.buffer c.args.usage c.args.seat.now c.export.new.seat c.export.result c.export.ensures.looked

pub returns-clause-rising : goal.returns-clause-rising
returns-clause-rising g c = HasRisingContexts-looked c.args.words.now c.args.buffer c.args.usage c.args.seat.now c.export.new.seat c.export.result c.export.ensures.looked

pub returns-clause-above : goal.returns-clause-above
returns-clause-above g c = AllAbove-looked c.args.words.now c.args.buffer c.args.usage c.args.seat.now c.export.new.seat c.export.result c.export.ensures.looked
