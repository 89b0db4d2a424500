use Rattle.point_core.specs.Usage.{usage_number}
use Rattle.clients_core.proofs.Showing.{HasShown-append, HasShown-none}
use Rattle.clients_core.proofs.board.Look.latest_at.Goals as goal

pub returns : goal.returns
returns c =
    let none = HasShown-none c.args.self.now.words.now c.args.self.now.buffer (usage_number c.args.self.now.level) c.args.ctx c.later_at.new.seat c.later_at.result in
    let last = HasShown-append c.later_at.ensures.shown none in
    record { shown = HasShown-append c.later_at-kernel.ensures.shown (HasShown-append c.later_at-write.ensures.shown (HasShown-append c.later_at-read.ensures.shown last)) }
