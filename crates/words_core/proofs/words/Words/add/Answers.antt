use Rattle.std.proofs.Common.{◌≡◌, ◌+◌, ◌-◌, ◌<◌, ◌^◌, ℕ, sym, ap, ◌∙◌, subst, arith}
use Rattle.words_core.specs.declared.words.Sizes.{Sizes}
use Rattle.words_core.specs.theorem.Seat.{SeatModel}
use Rattle.words_core.specs.theorem.Words.{WordsModel}
use Rattle.words_core.specs.theorem.Layout.{value_place, claim_place, mark_place}
use Rattle.words_core.specs.theorem.Trace.{on, added, wins_of, shuts_of}
use Rattle.words_core.proofs.WordKinds.{lines_of}
use Rattle.words_core.proofs.Adding.{adds_to_value-allowed}
use Rattle.words_core.proofs.words.Words.add.Goals as goal

pub fetch_add-requires : goal.fetch_add-requires
fetch_add-requires c =
    let shared = c.self.inside.table.shared in
    let token = c.seat.inside.token in
    let place = c.index.result in
    let contexts = ap (λ (w : WordsModel). w.contexts) c.self.view_is in
    let lines = lines_of c.self.inside.sizes in
    let keyed = ap (λ (z : Sizes). z.contexts) c.self.invariant.0 in
    let seat = c.seat.view_is in
    let at : c.args.ctx - 1 ≡ place = omega arith in (
      ap (λ (s : SeatModel). s.words.table) seat ∙ ap (λ (w : WordsModel). w.table) (c.requires.own ∙ sym c.self.view_is),
      omega arith,
      adds_to_value-allowed shared.key shared.table_id.slots token.id place c.args.n token.me (omega arith) (omega arith)
          (subst (λ (k : ℕ). 0 < wins_of (claim_place k) token.me.0.trace) at (subst (λ (s : SeatModel). 0 < wins_of (claim_place (c.args.ctx - 1)) s.trace) (sym seat) c.requires.won))
          (subst (λ (k : ℕ). shuts_of (mark_place k) token.me.0.trace ≡ 0) at (subst (λ (s : SeatModel). shuts_of (mark_place (c.args.ctx - 1)) s.trace ≡ 0) (sym seat) c.requires.open))
          (subst (λ (k : ℕ). added (on (value_place k) token.me.0.trace) + c.args.n < 2 ^ 64) at (subst (λ (s : SeatModel). added (on (value_place (c.args.ctx - 1)) s.trace) + c.args.n < 2 ^ 64) (sym seat) c.requires.fits)),
    )
