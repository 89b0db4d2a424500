use Rattle.std.proofs.Common.{◌<◌, ℕ, sym, ap, ◌∙◌, subst, arith}
use Rattle.words_core.specs.declared.words.Sizes.{Sizes}
use Rattle.words_core.specs.theorem.Layout.{IsBoardWord, word_count}
use Rattle.words_core.specs.theorem.Seat.{SeatModel}
use Rattle.words_core.specs.theorem.Words.{WordsModel, sizes_of}
use Rattle.words_core.proofs.WordKinds.{IsBoardWord-inside}
use Rattle.words_core.proofs.Gathering.{loads_top-allowed}
use Rattle.words_core.proofs.words.Words.top_at.Goals as goal

pub load-requires : goal.load-requires
load-requires c =
    let shared = c.self.inside.table.shared in
    let token = c.seat.inside.token in
    let place = c.args.place in
    let parts = ap (λ (s : SeatModel). s.parts) c.seat.view_is in
    let is = subst (λ (z : Sizes). IsBoardWord z place) (sym (c.self.invariant.0 ∙ ap sizes_of c.self.view_is)) c.requires.entry in
    let inside = IsBoardWord-inside shared.key place is in (
      ap (λ (s : SeatModel). s.words.table) c.seat.view_is ∙ ap (λ (w : WordsModel). w.table) (c.requires.own ∙ sym c.self.view_is),
      subst (λ (n : ℕ). place < n) (ap word_count c.self.invariant.0 ∙ sym c.self.invariant.1) inside,
      loads_top-allowed shared.key shared.table_id.slots token.id place token.me is (omega arith),
    )
