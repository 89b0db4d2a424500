use Rattle.std.proofs.Common.{Ok}
use Rattle.clients_core.proofs.Acting.{OnOk-weaker}
use Rattle.clients_core.proofs.Showing.{AllAbove-looked, HasLoadedOnce-looked, HasRisingContexts-looked}
use Rattle.clients_core.proofs.board.BoardSharedTable.export_into.Goals as goal

pub returns-clause-floor : goal.returns-clause-floor
returns-clause-floor g c = OnOk-weaker c.export_into.result (λ looked. HasLoadedOnce-looked c.args.words.now c.args.buffer c.args.usage c.args.seat.now c.export_into.new.seat (Ok c.export_into.new.listing) looked) c.export_into.ensures.looked

pub returns-clause-rising : goal.returns-clause-rising
returns-clause-rising g c = OnOk-weaker c.export_into.result (λ looked. HasRisingContexts-looked c.args.words.now c.args.buffer c.args.usage c.args.seat.now c.export_into.new.seat (Ok c.export_into.new.listing) looked) c.export_into.ensures.looked

pub returns-clause-above : goal.returns-clause-above
returns-clause-above g c = OnOk-weaker c.export_into.result (λ looked. AllAbove-looked c.args.words.now c.args.buffer c.args.usage c.args.seat.now c.export_into.new.seat (Ok c.export_into.new.listing) looked) c.export_into.ensures.looked
