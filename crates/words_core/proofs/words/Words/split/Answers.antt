use Rattle.std.proofs.Common.{sym, ap, ◌∙◌, arith}
use Rattle.words_core.specs.theorem.Seat.{SeatModel}
use Rattle.words_core.specs.theorem.Words.{WordsModel}
use Rattle.words_core.proofs.WordKinds.{lines_of}
use Rattle.words_core.proofs.Splitting.{split-allowed}
use Rattle.words_core.proofs.words.Words.split.Goals as goal

pub split_seat-token-requires : goal.split_seat-token-requires
split_seat-token-requires g c =
    let shared = c.self.inside.table.shared in
    let token = c.seat.inside.token in
    let parts = ap (λ (s : SeatModel). s.parts) c.seat.view_is in
    let lines = lines_of c.self.inside.sizes in (
      ap (λ (s : SeatModel). s.words.table) c.seat.view_is ∙ ap (λ (w : WordsModel). w.table) (c.requires.own ∙ sym c.self.view_is),
      omega arith,
      split-allowed shared.key token.id g.N.PartCount.count token.me.0 (omega arith) (omega arith),
    )
