use Rattle.std.proofs.Common.{sym, ap, ◌∙◌, arith}
use Rattle.words_core.specs.theorem.Seat.{SeatModel}
use Rattle.words_core.specs.theorem.Words.{WordsModel}
use Rattle.words_core.proofs.WordKinds.{lines_of}
use Rattle.words_core.proofs.Joining.{join-allowed, counts_parts-allowed}
use Rattle.words_core.proofs.words.Words.absorb.Goals as goal

pub join_seat-requires : goal.join_seat-requires
join_seat-requires c =
    let shared = c.self.inside.table.shared in
    let token = c.seat.inside.token in
    let other = c.other.inside.token in
    let lines = lines_of c.self.inside.sizes in (
      ap (λ (s : SeatModel). s.words.table) c.seat.view_is ∙ ap (λ (w : WordsModel). w.table) (c.requires.own.0 ∙ sym c.self.view_is),
      ap (λ (s : SeatModel). s.words.table) c.other.view_is ∙ ap (λ (w : WordsModel). w.table) (c.requires.own.1 ∙ sym c.self.view_is),
      c.other.invariant.0,
      omega arith,
      join-allowed shared.key token.id other.id token.me.0 other.me.0 (omega arith),
    )

pub load-requires : goal.load-requires
load-requires c =
    let shared = c.self.inside.table.shared in
    let token = c.join_seat.new.seat in
    let lines = lines_of c.self.inside.sizes in (
      c.join_seat.ensures.0 ∙ (ap (λ (s : SeatModel). s.words.table) c.seat.view_is ∙ ap (λ (w : WordsModel). w.table) (c.requires.own.0 ∙ sym c.self.view_is)),
      omega arith,
      counts_parts-allowed shared.key shared.table_id.slots token.id token.me,
    )
