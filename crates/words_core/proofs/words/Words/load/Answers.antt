use Rattle.std.proofs.Common.{◌≡◌, ◌++◌, ℕ, sym, ap, ◌∙◌, arith}
use Rattle.words_core.specs.declared.words.Sizes.{Sizes}
use Rattle.words_core.specs.theorem.Seat.{SeatModel}
use Rattle.words_core.specs.theorem.Words.{WordsModel, words_of}
use Rattle.words_core.specs.theorem.Layout.{value_place, value_word}
use Rattle.words_core.specs.Plays.{Holder}
use Rattle.words_core.specs.theorem.Trace.{load, on, greatest}
use Rattle.words_core.proofs.Seen.{seen-with_step_later}
use Rattle.words_core.proofs.WordKinds.{lines_of}
use Rattle.words_core.proofs.Loading.{loads_value-allowed}
use Rattle.words_core.proofs.words.Words.load.Goals as goal

pub load-requires : goal.load-requires
load-requires c =
    let shared = c.self.inside.table.shared in
    let token = c.seat.inside.token in
    let contexts = ap (λ (w : WordsModel). w.contexts) c.self.view_is in
    let lines = lines_of c.self.inside.sizes in
    let keyed = ap (λ (z : Sizes). z.contexts) c.self.invariant.0 in (
      ap (λ (s : SeatModel). s.words.table) c.seat.view_is ∙ ap (λ (w : WordsModel). w.table) (c.requires.own ∙ sym c.self.view_is),
      omega arith,
      loads_value-allowed shared.key shared.table_id.slots token.id c.index.result token.me (omega arith) (omega arith),
    )

pub returns-clause-seen : goal.returns-clause-seen
returns-clause-seen c =
    let value = c.load.result in
    let word = value_place c.index.result in
    let at : value_word c.args.ctx ≡ word = omega arith in
    let before : SeatModel = record { words = words_of c.seat.inside.token.table_id c.seat.inside.token.me.0.sizes; parts = c.seat.inside.parts; start = c.seat.inside.token.me.0.start; trace = c.seat.inside.token.me.0.trace } in
    let play = c.load.ensures.2 in
    ap (λ (w : ℕ). greatest (on w (c.load.new.seat.me.0.start ++ c.load.new.seat.me.0.trace))) at
    ∙ ap (λ (me : Holder). greatest (on word (me.0.start ++ me.0.trace))) play.0
    ∙ seen-with_step_later before (load word value) play.1
