use Rattle.std.proofs.Common.{sym, ap, ◌∙◌, arith}
use Rattle.words_core.specs.declared.words.Sizes.{Sizes}
use Rattle.words_core.specs.theorem.Seat.{SeatModel}
use Rattle.words_core.specs.theorem.Words.{WordsModel}
use Rattle.words_core.proofs.WordKinds.{lines_of}
use Rattle.words_core.proofs.Claiming.{claims_context-allowed}
use Rattle.words_core.proofs.words.Words.claim.Goals as goal

pub fetch_or-requires : goal.fetch_or-requires
fetch_or-requires c =
    let shared = c.self.inside.table.shared in
    let token = c.seat.inside.token in
    let contexts = ap (λ (w : WordsModel). w.contexts) c.self.view_is in
    let lines = lines_of c.self.inside.sizes in
    let keyed = ap (λ (z : Sizes). z.contexts) c.self.invariant.0 in (
      ap (λ (s : SeatModel). s.words.table) c.seat.view_is ∙ ap (λ (w : WordsModel). w.table) (c.requires.own ∙ sym c.self.view_is),
      omega arith,
      claims_context-allowed shared.key shared.table_id.slots token.id c.index.result token.me (omega arith) (omega arith),
    )
