use Rattle.std.proofs.Common.{◌≡◌, ◌≤◌, max, arith}
use Rattle.point_core.specs.declared.entry.Entry.{Entry}
use Rattle.point_core.specs.Agreement.{point_of}
use Rattle.point_core.specs.Usage.{usage_number}
use Rattle.resv_core.specs.Resv.{entry_of}
use Rattle.clients_core.proofs.Showing.{HasShown-one, place_to-within}
use Rattle.clients_core.proofs.board.Look.later_at.Goals as goal

pub returns-then-number : goal.returns-then-number
returns-then-number c =
    let level = usage_number c.args.self.now.level in
    let e : Entry = entry_of (point_of c.args.ctx c.shown_of.result) c.args.usage in
    let low : usage_number c.args.usage ≤ level = omega (arith, c.number.ensures, c.number-2.ensures, c.if-number.true) in
    let later : c.max.result ≡ max c.args.value c.shown_of.result = omega arith in
    let shown = HasShown-one c.args.self.now.words.now c.args.self.now.buffer level e c.args.seat.now c.shown_of.new.seat c.args.value c.max.result c.shown_of.ensures.entered low later (record { seen_there = c.shown_of.ensures.later; raised = c.shown_of.ensures.raises }) in
    record { shown = rw (place_to-within c.args.self.now.level c.args.usage c.args.ctx low) shown }
