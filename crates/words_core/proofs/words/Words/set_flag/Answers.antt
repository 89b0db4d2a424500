use Rattle.std.proofs.Common.{◌<◌, ℕ, sym, ap, ◌∙◌, subst, arith}
use Rattle.words_core.specs.declared.words.Sizes.{Sizes}
use Rattle.words_core.specs.theorem.Layout.{IsClaimOrFlag, word_count}
use Rattle.words_core.specs.theorem.Seat.{SeatModel}
use Rattle.words_core.specs.theorem.Words.{WordsModel, sizes_of}
use Rattle.words_core.proofs.WordKinds.{IsClaimOrFlag-flag}
use Rattle.words_core.proofs.Claiming.{sets_once-allowed}
use Rattle.words_core.proofs.words.Words.set_flag.Goals as goal

pub fetch_or-requires : goal.fetch_or-requires
fetch_or-requires c =
    let shared = c.self.inside.table.shared in
    let token = c.seat.inside.token in
    let place = c.flag_place-place.result in
    let parts = ap (λ (s : SeatModel). s.parts) c.seat.view_is in
    let keyed = c.self.invariant.0 ∙ ap sizes_of c.self.view_is in
    let is = subst (λ (z : Sizes). IsClaimOrFlag z place) (sym keyed) (IsClaimOrFlag-flag (sizes_of c.args.self.now) place c.args.flag c.flag_place-place.ensures.value c.requires.flag) in
    let inside : place < word_count shared.key = is.inside in (
      ap (λ (s : SeatModel). s.words.table) c.seat.view_is ∙ ap (λ (w : WordsModel). w.table) (c.requires.own ∙ sym c.self.view_is),
      subst (λ (n : ℕ). place < n) (ap word_count c.self.invariant.0 ∙ sym c.self.invariant.1) inside,
      sets_once-allowed shared.key shared.table_id.slots token.id place token.me is (omega arith),
    )
